-- The lowest legal move, and the check that it makes.
use Rattle.std.proofs.Common.{◌≡◌, ℕ, suc, ◌+◌, ◌<◌, ◌≤◌, Bool, true, false, Some, None, Option, sym, refl, ap, ◌∙◌, inl, inr, arith}
use Rattle.std.specs.Option.{option_map}
use Rattle.std.proofs.lemmas.Bool.{cases_eq, cases_Bool, both_ways}
use Rattle.traffic.specs.Searches.{least, or_zero}
use Rattle.traffic.specs.Meaning.{Meaning, Lawful, legal, jam}
use Rattle.traffic.specs.Answered.{within_limits, legal_of}
use Rattle.traffic.specs.Found.{least_is, least_some, least_none}
use Rattle.traffic.proofs.Asked.{legal_is}
use Rattle.game.proofs.Kept.{legal_low}
use Rattle.game.proofs.Rules.{some_legal}
use Rattle.course.specs.declared.check.Check.{Check}
use Rattle.course.specs.Plants.{reply_by}
use Rattle.course.specs.Lost.{check_by, lost_check}
use Rattle.course.proofs.Replying.{replied}

module _ (M : Meaning) (s loops mv : ℕ) (r : Bool) (limits : within_limits M ≡ true) where
  pub legal_here : loops ≡ M.loops → mv ≤ loops → ((k : ℕ) → k < mv → legal M s k ≡ false) → r ≡ legal_of M s mv → r ≡ true → Some mv ≡ least (legal M s) 0 (suc M.loops)
  legal_here e low below a t =
      sym
      (least_is (legal M s) (suc M.loops) 0 mv
      (record { passes = sym (legal_is M s mv limits) ∙ sym a ∙ t; low = omega arith; high = omega arith; before = λ u _ b. below u b }))

module _ (M : Meaning) (s mv : ℕ) (r : Bool) (limits : within_limits M ≡ true) where
  pub none_more : ((k : ℕ) → k < mv → legal M s k ≡ false) → r ≡ legal_of M s mv → r ≡ false → (k : ℕ) → k < mv + 1 → legal M s k ≡ false
  none_more below a f k h =
      elim (cases_eq k mv) [
        | inl e ↦ ap (legal M s) e ∙ sym (legal_is M s mv limits) ∙ sym a ∙ f
        | inr n ↦ below k (omega arith)
      ]

-- what a check of the lost play is
pub record IsLost (M : Meaning) (marks : ℕ → ℕ) (s : ℕ) (c : Check) : Type 0 where
  pub from : c.state ≡ s
  pub allowed : legal M s c.mv ≡ true
  pub lowest : (j : ℕ) → j < c.mv → legal M s j ≡ false
  pub reply : reply_by M marks s c.mv ≡ Some c.next
  pub leads : M.leads s c.mv c.next ≡ true
  pub inside : c.next < M.states

module _ (M : Meaning) (marks : ℕ → ℕ) (s : ℕ) where
  pub checked : (mv next : ℕ) → least (legal M s) 0 (suc M.loops) ≡ Some mv → reply_by M marks s mv ≡ Some next → Some (record { state = s; mv = mv; next = next }) ≡ lost_check M marks s
  unfolding lost_check
  checked mv next e f =
      sym
      (ap (option_map (check_by M marks s)) e
      ∙ ap (λ o. let c : Check = record { state = s; mv = mv; next = or_zero o } in Some c) f)

  pub unchecked : least (legal M s) 0 (suc M.loops) ≡ None → None ≡ lost_check M marks s
  unfolding lost_check
  unchecked e = sym (ap (option_map (check_by M marks s)) e)

  pub lowest_is_legal : (mv : ℕ) → least (legal M s) 0 (suc M.loops) ≡ Some mv → legal M s mv ≡ true
  lowest_is_legal mv e = (least_some (legal M s) (suc M.loops) 0 mv e).passes

  module _ (law : Lawful M) where
    pub some_reply : (mv : ℕ) → least (legal M s) 0 (suc M.loops) ≡ Some mv → (t : ℕ) × (reply_by M marks s mv ≡ Some t)
    some_reply mv e = let w = replied M s mv law (lowest_is_legal mv e) marks in (w.0, w.1)

    pub is_lost : (c : Check) → lost_check M marks s ≡ Some c → IsLost M marks s c
    unfolding lost_check
    is_lost c e = go (least (legal M s) 0 (suc M.loops)) refl e
      where
        go : (o : Option ℕ) → least (legal M s) 0 (suc M.loops) ≡ o → option_map (check_by M marks s) o ≡ Some c → IsLost M marks s c
        go None h q = absurd (cc)
        go (Some m) h q =
            let l = least_some (legal M s) (suc M.loops) 0 m h in
            let w = replied M s m law l.passes marks in
            let is : check_by M marks s m ≡ c = cc in
            let mv : m ≡ c.mv = ap (λ (x : Check). x.mv) is in
            let next : or_zero (reply_by M marks s m) ≡ c.next = ap (λ (x : Check). x.next) is in
            let t : w.0 ≡ c.next = sym (ap or_zero w.1) ∙ next in
            record {
              from = sym (ap (λ (x : Check). x.state) is);
              allowed = ap (legal M s) (sym mv) ∙ l.passes;
              lowest = λ j b. l.before j (omega arith) (omega arith);
              reply = ap (reply_by M marks s) (sym mv) ∙ w.1 ∙ ap Some t;
              leads = cc;
              inside = omega (arith, w.3);
            }

    -- where there is none the state is a jam
    pub no_check : s < M.states → lost_check M marks s ≡ None → jam M s ≡ true
    unfolding lost_check
    no_check h e = go (least (legal M s) 0 (suc M.loops)) refl e
      where
        go : (o : Option ℕ) → least (legal M s) 0 (suc M.loops) ≡ o → option_map (check_by M marks s) o ≡ None → jam M s ≡ true
        go (Some m) q f = absurd (cc)
        go None q f =
            elim (cases_Bool (jam M s)) [
              | inl j ↦ j
              | inr j ↦
                  let w = some_legal M law s h j in
                  absurd (both_ways _ (least_none (legal M s) (suc M.loops) 0 q w.0 (omega arith) (let l : w.0 ≤ M.loops = legal_low M law s w.0 w.1 in omega arith)) w.1)
            ]
