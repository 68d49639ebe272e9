-- When a call that is given a map is admitted, and what it is answered when it is not.
use Rattle.std.proofs.Common.{◌≡◌, ℕ, ◌<◌, ◌≤◌, true, false, Some, None, Ok, Err, Option, refl, ap, ◌∙◌, inl, inr, arith}
use Rattle.std.specs.Option.{ok_or}
use Rattle.std.proofs.lemmas.Bool.{cases_Bool, cases_lt, cond-true, cond-false, lt-ltb, le-ltb, lt-leb, le-leb}
use Rattle.traffic.specs.Meaning.{Meaning}
use Rattle.traffic.specs.declared.Size.{Size}
use Rattle.traffic.specs.Answered.{within_limits, sized}
use Rattle.traffic.proofs.Asked.{within_parts}
use Rattle.game.specs.declared.map_fault.MapFault.{MapFault}
use Rattle.game.specs.declared.map_fault.MapFault.TheVariants.{OverLimits, ShortMap, NoSuchState}
use Rattle.traffic.specs.Refusals.{unless}
use Rattle.game.specs.Maps.{turned_away}

-- a call that is not turned away is answered
pub answer_is : {A : Type 0} (o : Option MapFault) (a b : A) → o ≡ None → b ≡ a → Ok b ≡ unless Err o (Ok a)
answer_is o a b e q = rw e (ap Ok q)

pub answered : {A : Type 0} (o : Option MapFault) (a b : A) → Ok b ≡ unless Err o (Ok a) → (o ≡ None) × (b ≡ a)
answered None a b e = (refl, cc)
answered (Some f) a b e = let z : ◌≡◌ {A = ℕ} 0 1 = cc in absurd (omega arith)

-- what an option was that was asked for its value or a fault
pub ok_some : {A E : Type 0} (o : Option A) (e : E) (a : A) → ok_or o e ≡ Ok a → o ≡ Some a
ok_some None e a h = cc h
ok_some (Some b) e a h = cc h

pub err_none : {A E : Type 0} (o : Option A) (e d : E) → ok_or o e ≡ Err d → (o ≡ None) × (d ≡ e)
err_none None e d h = (refl, cc h)
err_none (Some b) e d h = (cc h, cc h)

module _ (M : Meaning) (length s : ℕ) where
  pub over_limits : within_limits M ≡ false → turned_away M length s ≡ Some OverLimits
  unfolding turned_away
  over_limits w = cond-false _ _ _ w

  pub short_map : within_limits M ≡ true → length < M.states → turned_away M length s ≡ Some ShortMap
  unfolding turned_away
  short_map w l = cond-true _ _ _ w ∙ cond-false _ _ _ (lt-leb _ _ l)

  pub no_such_state : within_limits M ≡ true → M.states ≤ length → M.states ≤ s → turned_away M length s ≡ Some NoSuchState
  unfolding turned_away
  no_such_state w l h = cond-true _ _ _ w ∙ (cond-true _ _ _ (le-leb _ _ l) ∙ cond-false _ _ _ (le-ltb _ _ h))

  -- the traffic is within the limits, the map has room and the state is there
  pub record Admitted : Type 0 where
    pub limits : within_limits M ≡ true
    pub room : M.states ≤ length
    pub inside : s < M.states

  pub not_turned_away : Admitted → turned_away M length s ≡ None
  unfolding turned_away
  not_turned_away a =
      cond-true _ _ _ a.limits ∙ (cond-true _ _ _ (le-leb _ _ a.room) ∙ cond-true _ _ _ (lt-ltb _ _ a.inside))

  pub admitted : turned_away M length s ≡ None → Admitted
  admitted e =
      elim (cases_Bool (within_limits M)) [
        | inl w ↦
            elim (cases_lt length M.states) [
              | inl l ↦ absurd (refused ShortMap (short_map w l))
              | inr l ↦
                  elim (cases_lt s M.states) [
                    | inl h ↦ record { limits = w; room = l; inside = h }
                    | inr h ↦ absurd (refused NoSuchState (no_such_state w l h))
                  ]
            ]
        | inr w ↦ absurd (refused OverLimits (over_limits w))
      ]
    where
      refused : (f : MapFault) → turned_away M length s ≡ Some f → ⊥
      refused f d = let z : ◌≡◌ {A = ℕ} 0 1 = cc in omega arith

  -- a call that is answered with the size z is admitted, and z is the traffic's
  pub record SizeTold (z : Size) : Type 0 where
    pub none : turned_away M length s ≡ None
    pub limits : within_limits M ≡ true
    pub few : M.states ≤ 32768
    pub states : z.states ≡ M.states
    pub loops : z.loops ≡ M.loops
    pub room : z.states ≤ length
    pub inside : s < z.states

  pub size_told : (z : Size) → Ok z ≡ unless Err (turned_away M length s) (Ok (sized M)) → SizeTold z
  size_told z e =
      let a = answered _ _ _ e in
      let h = admitted a.0 in
      rw a.1
      (record {
        none = a.0;
        limits = h.limits;
        few = (within_parts M h.limits).0;
        states = refl;
        loops = refl;
        room = h.room;
        inside = h.inside;
      })
