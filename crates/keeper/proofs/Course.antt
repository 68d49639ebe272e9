-- Every list of calls on a keeper whose map sustains itself is served as promised, whatever traffic the map was filled for.
use Rattle.std.proofs.Common.{◌≡◌, ℕ, ◌<◌, ◌≤◌, Bool, true, false, ◌↔◌, List, [], ◌∷◌, length, Some, None, Option, sym, refl, subst, inl, inr, arith}
use Rattle.std.specs.Option.{option_or}
use Rattle.std.proofs.lemmas.Bool.{cases_lt, both_ways}
use Rattle.traffic.specs.Meaning.{Meaning, Lawful}
use Rattle.traffic.specs.Answered.{within_limits}
use Rattle.game.specs.declared.map_fault.MapFault.{MapFault}
use Rattle.game.specs.declared.map_fault.MapFault.TheVariants.{NoSuchState}
use Rattle.game.specs.Game.{permitted_by}
use Rattle.game.specs.Choice.{pick_by, spoiler_by}
use Rattle.game.specs.Plays.{Past, after}
use Rattle.game.specs.Standing.{on}
use Rattle.traffic.specs.Refusals.{unless}
use Rattle.game.specs.Maps.{turned_away}
use Rattle.game.proofs.Kept.{legal_low}
use Rattle.game.proofs.Admitted.{not_turned_away, admitted, no_such_state}
use Rattle.game.proofs.Choosing.{pick_found, pick_absent, spoiler_same}
use Rattle.game.proofs.Sustained.{by_legal, by_next, Sustained}
use Rattle.keeper.specs.declared.slot_fault.SlotFault.TheVariants.{Map, NotPermitted, NoNextState}
use Rattle.keeper.specs.declared.service.Keeper.{Keeper}
use Rattle.keeper.specs.declared.service.Keeper.TheVariants.{Ready as AtReady, Waiting as AtWaiting}
use Rattle.keeper.specs.declared.service.Call.{Call}
use Rattle.keeper.specs.declared.service.Call.TheVariants.{Permits, Pick, Grant, Report, PermitsIn, Spoiler}
use Rattle.keeper.specs.declared.service.Answer.{Answer}
use Rattle.keeper.specs.declared.service.Answer.TheVariants.{Permitted, Picked, Spoiled, Refused}
use Rattle.keeper.specs.Slots.{slot_fault, unless_handed_back}
use Rattle.keeper.specs.Service.{after_grant, after_report, stepped, answers, after_calls}
use Rattle.keeper.specs.Promise.{Phase, phase, held, Serves, Sound, Runs}
use Rattle.keeper.specs.Promise.Phase.{ready, waiting}
use Rattle.keeper.specs.Promise.ForReady.{asks, picks, grants}
use Rattle.keeper.specs.Promise.Serves.{yes, no, picked, granted, turned_down, taken, not_taken, no_state, yes_in, no_in, no_state_in, spoiled, no_spoiler, not_waiting, not_ready}
use Rattle.keeper.specs.Promise.Runs.{done, then}
use Rattle.keeper.proofs.Soundness.{Closed, inside, sound_after}

-- A map serves a traffic with `may` and `marks`: it has room, it holds these marks and permits exactly these moves, and it
-- sustains itself.
pub record MapServes (M : Meaning) (may : ℕ → ℕ → Type 0) (marks : ℕ → ℕ) (map : List ℕ) : Type 0 where
  pub law : Lawful M
  pub limits : within_limits M ≡ true
  pub room : M.states ≤ length map
  pub holds : (s : ℕ) → s < M.states → on map s ≡ marks s
  pub exact : (s m : ℕ) → s < M.states → (permitted_by M (on map) s m ≡ true) ↔ may s m
  pub sustained : Sustained M (on map)

module _ (M : Meaning) (may : ℕ → ℕ → Type 0) (marks : ℕ → ℕ) (map : List ℕ) (by : MapServes M may marks map) where
  open_in : (s : ℕ) → s < M.states → turned_away M (length map) s ≡ None
  open_in s h = not_turned_away M (length map) s (record { limits = by.limits; room = by.room; inside = h })

  -- only a state that there is not is turned away
  outside : (s : ℕ) (f : MapFault) → turned_away M (length map) s ≡ Some f → (M.states ≤ s) × (f ≡ NoSuchState)
  outside s f a =
      elim (cases_lt s M.states) [
        | inl i ↦ absurd (let w = open_in s i in let z : ◌≡◌ {A = ℕ} 0 1 = cc in omega arith)
        | inr i ↦ (i, let w = no_such_state M (length map) s by.limits by.room i in cc)
      ]

  good : (s m : ℕ) → s < M.states → permitted_by M (on map) s m ≡ true → may s m
  good s m h = (by.exact s m h).0

  bad : (s m : ℕ) → s < M.states → permitted_by M (on map) s m ≡ false → may s m → ⊥
  bad s m h e w = both_ways _ e ((by.exact s m h).1 w)

  pub closed : Closed M may
  closed = record {
    allowed = λ s m h w. by_legal M (on map) s m ((by.exact s m h).1 w);
    leads_on = λ s m t h w e.
        let there = (by.law.leads_within s m t e).2 in
        some_may t there (by_next M (on map) s m t ((by.exact s m h).1 w) there e);
  }
    where
      some_may : (s : ℕ) → s < M.states → on map s ≡ 0 → (m : ℕ) × may s m
      some_may s h e = let w = by.sustained s h e in (w.0, good s w.0 h w.1)

  module _ (start : ℕ) where
    state_in : (p : Past) (k : Phase) → Sound M may start p k → held k < M.states
    state_in p k h = inside M by.law may closed start p k h

    -- a call is served, on some course
    abbrev Served : Past → Phase → Call → Keeper × Answer → Type 0
    Served p k c after-it = (course : Past) × Serves M may marks p k c after-it.1 course (phase after-it.0)

    permits_served : (p : Past) (s m : ℕ) → s < M.states → (o : Option MapFault) → o ≡ None → (b : Bool) → permitted_by M (on map) s m ≡ b → Serves M may marks p (ready s) (Permits m) (unless (λ f. Refused (Map f)) o (Permitted b)) p (ready s)
    permits_served p s m h None e true q = yes (good s m h q)
    permits_served p s m h None e false q = no (bad s m h q)
    permits_served p s m h (Some f) e b q = absurd (let z : ◌≡◌ {A = ℕ} 0 1 = cc in omega arith)

    pick_served : (p : Past) (s : ℕ) → s < M.states → (m : ℕ) × may s m → (o : Option MapFault) → o ≡ None → (m : Option ℕ) → pick_by M (on map) s ≡ m → Serves M may marks p (ready s) Pick (unless (λ f. Refused (Map f)) o (Picked m)) p (ready s)
    pick_served p s h w None e (Some m) q =
        let f = pick_found M (on map) s m q in
        picked (good s m h f.0) (λ j l v. bad s j h (f.1 j l) v)
    pick_served p s h w None e None q =
        let low = legal_low M by.law s w.0 (closed.allowed s w.0 h w.1) in
        absurd (bad s w.0 h (pick_absent M (on map) s q w.0 low) w.1)
    pick_served p s h w (Some f) e m q = absurd (let z : ◌≡◌ {A = ℕ} 0 1 = cc in omega arith)

    grant_served : (p : Past) (s m : ℕ) → s < M.states → (o : Option MapFault) → o ≡ None → (b : Bool) → permitted_by M (on map) s m ≡ b → Served p (ready s) (Grant m) (after_grant (unless_handed_back (record { state = s }) (slot_fault o b NotPermitted) (record { state = s; mv = m })))
    grant_served p s m h None e true q = (p, granted (good s m h q))
    grant_served p s m h None e false q = (p, turned_down (bad s m h q))
    grant_served p s m h (Some f) e b q = absurd (let z : ◌≡◌ {A = ℕ} 0 1 = cc in omega arith)

    report_served : (p : Past) (s m t : ℕ) → (o : Option MapFault) → turned_away M (length map) t ≡ o → (b : Bool) → M.leads s m t ≡ b → Served p (waiting s m) (Report t) (after_report (unless_handed_back (record { state = s; mv = m }) (slot_fault o b NoNextState) (record { state = t })))
    report_served p s m t None a true q = (after p m t, taken q)
    report_served p s m t None a false q = (p, not_taken (admitted M (length map) t a).inside q)
    report_served p s m t (Some f) a b q = let w = outside t f a in rw w.1 (p, no_state w.0)

    permits_in_served : (p : Past) (k : Phase) (s m : ℕ) → (o : Option MapFault) → turned_away M (length map) s ≡ o → (b : Bool) → permitted_by M (on map) s m ≡ b → Serves M may marks p k (PermitsIn s m) (unless (λ f. Refused (Map f)) o (Permitted b)) p k
    permits_in_served p k s m None a true q = let i = (admitted M (length map) s a).inside in yes_in i (good s m i q)
    permits_in_served p k s m None a false q = let i = (admitted M (length map) s a).inside in no_in i (bad s m i q)
    permits_in_served p k s m (Some f) a b q = let w = outside s f a in rw w.1 (no_state_in w.0)

    spoiler_served : (p : Past) (k : Phase) (s m : ℕ) → (o : Option MapFault) → turned_away M (length map) s ≡ o → Serves M may marks p k (Spoiler s m) (unless (λ f. Refused (Map f)) o (Spoiled (spoiler_by M (on map) s m))) p k
    spoiler_served p k s m None a =
        subst (λ t. Serves M may marks p k (Spoiler s m) (Spoiled t) p k) (sym (spoiler_same M (on map) marks by.holds s m)) (spoiled (admitted M (length map) s a).inside)
    spoiler_served p k s m (Some f) a = let w = outside s f a in rw w.1 (no_spoiler w.0)

    served : (p : Past) (k : Keeper) (c : Call) → Sound M may start p (phase k) → Served p (phase k) c (stepped M map k c)
    served p (AtReady k) (Permits m) h =
        let i = state_in p (ready k.state) h in
        (p, permits_served p k.state m i _ (open_in k.state i) _ refl)
    served p (AtReady k) Pick h =
        let i = state_in p (ready k.state) h in
        (p, pick_served p k.state i h.goes_on _ (open_in k.state i) _ refl)
    served p (AtReady k) (Grant m) h =
        let i = state_in p (ready k.state) h in
        grant_served p k.state m i _ (open_in k.state i) _ refl
    served p (AtReady k) (Report t) h = (p, not_waiting)
    served p (AtReady k) (PermitsIn s m) h = (p, permits_in_served p (ready k.state) s m _ refl _ refl)
    served p (AtReady k) (Spoiler s m) h = (p, spoiler_served p (ready k.state) s m _ refl)
    served p (AtWaiting k) (Permits m) h = (p, not_ready (asks m))
    served p (AtWaiting k) Pick h = (p, not_ready picks)
    served p (AtWaiting k) (Grant m) h = (p, not_ready (grants m))
    served p (AtWaiting k) (Report t) h =
        subst (λ o. Served p (waiting k.state k.mv) (Report t) (after_report (unless_handed_back k (slot_fault (option_or o (turned_away M (length map) t)) (M.leads k.state k.mv t) NoNextState) (record { state = t }))))
        (sym (open_in k.state (state_in p (waiting k.state k.mv) h)))
        (report_served p k.state k.mv t _ refl _ refl)
    served p (AtWaiting k) (PermitsIn s m) h = (p, permits_in_served p (waiting k.state k.mv) s m _ refl _ refl)
    served p (AtWaiting k) (Spoiler s m) h = (p, spoiler_served p (waiting k.state k.mv) s m _ refl)

    pub runs : (cs : List Call) (p : Past) (k : Keeper) → Sound M may start p (phase k) → (q : Past) × Runs M may marks start p (phase k) cs (answers M map k cs) q (phase (after_calls M map k cs))
    runs [] p k h = (p, done h)
    runs (c ∷ cs) p k h =
        let s = served p k c h in
        let w = runs cs s.0 (stepped M map k c).0 (sound_after M by.law may closed marks start s.1 h) in
        (w.0, then h s.1 w.1)
