-- An armed keeper, and the map it was armed with, keep the guarantee.
use Rattle.std.proofs.Common.{◌≡◌, ℕ, zero, suc, ◌<◌, ◌≤◌, true, ◌≢◌, List, [], ◌∷◌, length, Ok, Result, sym, refl, ap, ◌∙◌, subst, arith}
use Rattle.traffic.specs.Meaning.{Meaning, Lawful}
use Rattle.traffic.specs.Answered.{within_limits}
use Rattle.game.specs.declared.solution.Tally.{Tally}
use Rattle.game.specs.declared.solution.Refusal.{Refusal}
use Rattle.game.specs.declared.solution.Refusal.TheVariants.{NoSchedule}
use Rattle.game.specs.Game.{mark}
use Rattle.game.specs.Plays.{begin, Safe}
use Rattle.game.specs.Standing.{on}
use Rattle.traffic.specs.Refusals.{Told}
use Rattle.game.specs.Maps.{turned_away, Filled}
use Rattle.game.specs.Filling.{filled}
use Rattle.game.specs.Answers.{told, tally, judged, solved, map_after}
use Rattle.game.proofs.Rounds.{unmarked_lasts}
use Rattle.game.proofs.Rules.{lasts_permitted, marks_tell}
use Rattle.game.proofs.Admitted.{admitted}
use Rattle.game.proofs.Counsel.{permitted_is_safe}
use Rattle.game.proofs.Filled.{filled_is}
use Rattle.game.proofs.Solved.{solved_open, map_open}
use Rattle.game.proofs.Sustained.{marks_sustained, permitted_alike, sustained_alike}
use Rattle.keeper.specs.declared.arming.Armed.{Armed}
use Rattle.keeper.specs.declared.service.Keeper.TheVariants.{Ready as AtReady}
use Rattle.keeper.specs.declared.service.Call.{Call}
use Rattle.keeper.specs.Arming.{armed}
use Rattle.keeper.specs.Promise.Phase.{ready}
use Rattle.keeper.specs.Guarantee.{SaysNone, RunsSafely, Guarantee, Promised}
use Rattle.keeper.proofs.Soundness.{sound_begin}
use Rattle.keeper.proofs.Course.{MapServes, closed, runs}

-- what a synthesis is to answer by the start's mark: a keeper armed there, or "no schedule" with the mark less one
abbrev pub AnswersBy : {E : Type 0} → (E → Told) → ℕ → Tally → ℕ → Result Armed E → Type 0
AnswersBy told start t zero r = r ≡ Ok (record { keeper = record { state = start }; tally = t })
AnswersBy told start t (suc k) r = SaysNone told r k

module _ {E : Type 0} (told : E → Told) (start : ℕ) (t : Tally) (r : Result Armed E) where
  -- so the answer is "no schedule" with count k exactly when the mark is k + 1
  none_marked : (k m : ℕ) → AnswersBy told start t m r → SaysNone told r k → m ≡ suc k
  none_marked k zero h w = let no : ◌≡◌ {A = ℕ} 0 1 = cc (h, w.1) in absurd (omega arith)
  none_marked k (suc j) h w =
      let e : h.0 ≡ w.0 = cc (h.1, w.1) in
      let same : j ≡ k = cc (e, h.3.1, w.3.1) in
      ap suc same

  marked_none : (m : ℕ) → AnswersBy told start t m r → m ≢ 0 → (k : ℕ) × SaysNone told r k
  marked_none zero h n = absurd (n refl)
  marked_none (suc k) h n = (k, h)

  -- and a keeper is armed, at the start, exactly when it is 0
  armed_unmarked : (m : ℕ) (a : Armed) → AnswersBy told start t m r → r ≡ Ok a → (m ≡ 0) × (record { keeper = record { state = start }; tally = t } ≡ a)
  armed_unmarked zero a h e = (refl, cc)
  armed_unmarked (suc k) a h e = let no : ◌≡◌ {A = ℕ} 0 1 = cc (h.1, e) in absurd (omega arith)

-- a filled map serves its traffic: it permits exactly the safe moves
filled_serves : (M : Meaning) → Lawful M → (map : List ℕ) → within_limits M ≡ true → M.states ≤ length map → Filled M map → MapServes M (Safe M) (mark M) map
filled_serves M law map limits room full = record {
  law = law;
  limits = limits;
  room = room;
  holds = full;
  exact = permitted_is_safe M law map full;
  sustained = sustained_alike M (on map) (mark M) full (marks_sustained M) (permitted_alike M (mark M) (on map) (λ s h. sym (full s h)));
}

module _ (M : Meaning) (law : Lawful M) (start : ℕ) (map : List ℕ) (limits : within_limits M ≡ true) (room : M.states ≤ length map) (inside : start < M.states) (full : Filled M map) where
  runs_on : (a : Armed) → record { keeper = record { state = start }; tally = tally M } ≡ a → mark M start ≡ 0 → (calls : List Call) → RunsSafely M start map a calls
  runs_on a e z calls =
      subst (λ (x : Armed). RunsSafely M start map x calls) e
      (let by = filled_serves M law map limits room full in
      let w = lasts_permitted M start (unmarked_lasts M start inside z) in
      runs M (Safe M) (mark M) map by start calls (begin start) (AtReady (record { state = start }))
      (sound_begin M law (Safe M) (closed M (Safe M) (mark M) map by) (ready start) inside tt (w.0, ((marks_tell M law).permit start w.0 inside).0 w.1)))

  -- the guarantee, with every kind of refusal
  pub guaranteed : {E : Type 0} (told : E → Told) (r : Result Armed E) → AnswersBy told start (tally M) (mark M start) r → Guarantee told M start r map
  guaranteed told r h = record {
    none_exactly_when_led = (
      λ w. ((marks_tell M law).decide start inside).0 (λ z. let e = none_marked told start (tally M) r w.0 _ h w.1 in omega arith),
      λ all. marked_none told start (tally M) r _ h (((marks_tell M law).decide start inside).1 all),
    );
    count_is_least = λ k w. (marks_tell M law).count start k inside (none_marked told start (tally M) r k _ h w);
    permitted_exactly_when_safe = permitted_is_safe M law map full;
    holds_the_start = λ a e. ap (λ (x : Armed). x.keeper.state) (sym (armed_unmarked told start (tally M) r _ a h e).1);
    never_meets_a_jam = λ a e calls. let w = armed_unmarked told start (tally M) r _ a h e in runs_on a w.1 w.0 calls;
  }

judged_by : (start : ℕ) (t : Tally) (m : ℕ) → AnswersBy told start t m (armed start (judged m t))
judged_by start t zero = refl
judged_by start t (suc k) = (NoSchedule k t, refl, refl, (t.winning ∷ t.rounds ∷ [], refl))

pub promised : (M : Meaning) → Lawful M → (start : ℕ) (before map : List ℕ) (r : Result Armed Refusal) → length map ≡ length before → r ≡ armed start (solved M start before) → map ≡ map_after M start before → Promised told (turned_away M (length before) start) M start r map
promised M law start before map r long e f none =
    let a = admitted M (length before) start none in
    let is : map ≡ filled M before = f ∙ map_open M start before none in
    let full : Filled M map = subst (Filled M) (sym is) (filled_is M before a.room) in
    guaranteed M law start map a.limits (omega (arith, a.room)) a.inside full told r
    (subst (AnswersBy told start (tally M) (mark M start)) (sym (e ∙ ap (armed start) (solved_open M start before none))) (judged_by start (tally M) (mark M start)))
