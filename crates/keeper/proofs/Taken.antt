-- When a reported state is a next state.
use Rattle.std.proofs.Common.{◌≡◌, ℕ, ◌<◌, true, eqb, Some, None, Ok, Err, Option, sym, ap, ◌∙◌, inl, inr, arith}
use Rattle.std.specs.Option.{option_eq, option_or}
use Rattle.std.proofs.lemmas.Bool.{cases_eq, eq-eqb, ne_eqb}
use Rattle.traffic.specs.Meaning.{Meaning}
use Rattle.traffic.specs.Answered.{within_limits, next_of}
use Rattle.traffic.proofs.Asked.{next_some, next_none}
use Rattle.game.specs.declared.map_fault.MapFault.{MapFault}
use Rattle.traffic.specs.Refusals.{unless}

-- a state is a next state exactly when it is the least one not below itself
pub told_next : (M : Meaning) (s m t : ℕ) → within_limits M ≡ true → t < M.states → (o : Option ℕ) → o ≡ next_of M s m t → option_eq eqb o (Some t) ≡ M.leads s m t
told_next M s m t w h None e = sym (next_none M s m t w (sym e) t (omega arith) h)
told_next M s m t w h (Some found) e =
    let l = (next_some M s m t found (sym e)).1 in
    elim (cases_eq found t) [
      | inl q ↦ eq-eqb _ _ q ∙ sym (ap (M.leads s m) (sym q) ∙ l.passes)
      | inr n ↦ ne_eqb _ _ n ∙ sym (l.before t (omega arith) (omega (arith, l.low)))
    ]

-- a call that neither state turns away is answered
pub both_answered : {A : Type 0} (o p : Option MapFault) (a b : A) → o ≡ None → p ≡ None → b ≡ a → Ok b ≡ unless Err (option_or o p) (Ok a)
both_answered o p a b e f q = rw (e, f) (ap Ok q)
