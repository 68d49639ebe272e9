-- What the answers about a state mean on a map that holds the mark of every state.
use Rattle.std.proofs.Common.{◌≡◌, ℕ, ◌<◌, ◌≤◌, Bool, true, eqb, ◌↔◌, List, length, Some, None, Option, Result, sym, refl, ap, ◌∙◌, subst, inl, inr, arith}
use Rattle.std.proofs.lemmas.Bool.{cases_lt, both_ways}
use Rattle.traffic.specs.Meaning.{Meaning, Lawful, legal}
use Rattle.game.specs.declared.map_fault.MapFault.{MapFault}
use Rattle.game.specs.Game.{mark, permitted_by, permitted}
use Rattle.game.specs.Choice.{pick_by, spoiler_by}
use Rattle.game.specs.Standing.{on}
use Rattle.game.specs.Maps.{unless_turned_away, Filled}
use Rattle.game.specs.Plays.{Safe}
use Rattle.game.specs.Counsel.{ExactlySafe, LowestSafe, LeadsDown}
use Rattle.game.proofs.Kept.{keeps_same, legal_low}
use Rattle.game.proofs.Rounds.{Z_before, mark_cases}
use Rattle.game.proofs.Rules.{permitted_legal, removed_next, marks_tell}
use Rattle.game.proofs.Admitted.{answered, admitted}
use Rattle.game.proofs.Choosing.{pick_found, pick_absent, comes_low, threat_is, threat_parts, FoundFirst, spoiler_first}

-- after a legal move in a state whose mark is not 0, some next state has a lower mark above 0
lower_next : (M : Meaning) → Lawful M → (s m : ℕ) → s < M.states → 0 < mark M s → legal M s m ≡ true → (t : ℕ) × (t < M.states) × (M.leads s m t ≡ true) × (0 < mark M t) × (mark M t < mark M s)
lower_next M law s m l h ok =
    elim (mark_cases M s l) [
      | inl c ↦ absurd (omega (arith, c.unmarked))
      | inr c ↦
          let n = removed_next M law c.0 s m c.1.gone ok in
          elim (mark_cases M n.0 n.1) [
            | inl d ↦ absurd (both_ways _ n.3 (d.always c.0))
            | inr d ↦
                elim (cases_lt d.0 c.0) [
                  | inl i ↦ (n.0, n.1, n.2, omega (arith, d.1.marked), omega (arith, c.1.marked, d.1.marked))
                  | inr i ↦ absurd (both_ways _ n.3 (Z_before M c.0 d.0 n.0 i d.1.before))
                ]
          ]
    ]

module _ (M : Meaning) (law : Lawful M) (map : List ℕ) (filled : Filled M map) where
  same_permitted : (s m : ℕ) → permitted_by M (on map) s m ≡ permitted M s m
  unfolding permitted_by
  same_permitted s m =
      keeps_same M (λ t. eqb (on map t) 0) (λ t. eqb (mark M t) 0) (λ t h. ap (λ k. eqb k 0) (filled t h)) s m

  pub permitted_is_safe : (s m : ℕ) → s < M.states → (permitted_by M (on map) s m ≡ true) ↔ Safe M s m
  permitted_is_safe s m l =
      let tell = (marks_tell M law).permit s m l in
      (λ e. tell.0 (sym (same_permitted s m) ∙ e), λ w. same_permitted s m ∙ tell.1 w)

  safe_low : (s m : ℕ) → s < M.states → Safe M s m → m ≤ M.loops
  safe_low s m l w = legal_low M law s m (permitted_legal M s m (((marks_tell M law).permit s m l).1 w))

  pub exactly_safe : (s m : ℕ) (r : Result Bool MapFault) → r ≡ unless_turned_away M map s (permitted_by M (on map) s m) → ExactlySafe M s m r
  exactly_safe s m r a told e =
      let p = answered _ _ _ (sym e ∙ a) in
      let i = permitted_is_safe s m (admitted M (length map) s p.0).inside in
      (λ q. i.0 (sym p.1 ∙ q), λ w. p.1 ∙ i.1 w)

  pub lowest_safe : (s : ℕ) (r : Result (Option ℕ) MapFault) → r ≡ unless_turned_away M map s (pick_by M (on map) s) → LowestSafe M s r
  lowest_safe s r a = (
    λ m e.
        let p = answered _ _ _ (sym e ∙ a) in
        let l = (admitted M (length map) s p.0).inside in
        let f = pick_found M (on map) s m (sym p.1) in
        ((permitted_is_safe s m l).0 f.0, λ j h w. both_ways _ (f.1 j h) ((permitted_is_safe s j l).1 w)),
    λ e m w.
        let p = answered _ _ _ (sym e ∙ a) in
        let l = (admitted M (length map) s p.0).inside in
        both_ways _ (pick_absent M (on map) s (sym p.1) m (safe_low s m l w)) ((permitted_is_safe s m l).1 w),
  )

  pub leads_down : (s m : ℕ) (r : Result (Option ℕ) MapFault) → r ≡ unless_turned_away M map s (spoiler_by M (on map) s m) → LeadsDown M s m r
  leads_down s m r a answer e h ok =
      let p = answered _ _ _ (sym e ∙ a) in
      let l = (admitted M (length map) s p.0).inside in
      down (lower_next M law s m l h ok) answer
      (subst (FoundFirst M (on map) s m M.states) (sym p.1) (spoiler_first M (on map) s m law))
    where
      down : (u : ℕ) × (u < M.states) × (M.leads s m u ≡ true) × (0 < mark M u) × (mark M u < mark M s) → (o : Option ℕ) → FoundFirst M (on map) s m M.states o → (t : ℕ) × (o ≡ Some t) × (M.leads s m t ≡ true) × (0 < mark M t) × (mark M t < mark M s)
      down u None f =
          absurd
          (both_ways _ (f u.0 u.1) (threat_is M (on map) s m u.0 u.2 (omega (arith, filled u.0 u.1))))
      down u (Some t) f =
          let here = filled u.0 u.1 in
          let c = comes_low (on map) t u.0 (f.first u.0 u.1 (threat_is M (on map) s m u.0 u.2 (omega arith))) in
          let n = threat_parts M (on map) s m t f.threatens in
          let there = filled t f.below in
          (t, refl, n.0, omega (arith, n.1), omega arith)
