-- What a site that tells its states, or none, comes to.
use Rattle.std.proofs.Common.{◌≡◌, ℕ, false, List, length, Some, None, Err, Option, refl, ap, ◌∙◌, arith}
use Rattle.std.specs.Option.{option_map}
use Rattle.traffic.specs.declared.Size.{Size}
use Rattle.traffic.specs.Meaning.{Meaning}
use Rattle.traffic.specs.Answered.{within_limits, size_of, states_of}
use Rattle.traffic.proofs.Asked.{size_none, size_some}
use Rattle.game.specs.declared.map_fault.MapFault.TheVariants.{OverLimits}
use Rattle.game.specs.declared.solution.Refusal.TheVariants.{Map}
use Rattle.game.specs.Game.{mark}
use Rattle.traffic.specs.Refusals.{unless}
use Rattle.game.specs.Answers.{tally, judged, solved, map_after}
use Rattle.game.specs.Filling.{filled}
use Rattle.game.proofs.Admitted.{over_limits}

module _ (M : Meaning) where
  pub states_is : (n : ℕ) → Some n ≡ states_of M → n ≡ M.states
  states_is n e = go (size_of M) refl e
    where
      go : (o : Option Size) → size_of M ≡ o → Some n ≡ option_map (λ (z : Size). z.states) o → n ≡ M.states
      go None q h = absurd (let z : ◌≡◌ {A = ℕ} 0 1 = cc in omega arith)
      go (Some z) q h = (let same : n ≡ z.states = cc in same) ∙ (size_some M z q).2

  over : None ≡ states_of M → within_limits M ≡ false
  over e = go (size_of M) refl e
    where
      go : (o : Option Size) → size_of M ≡ o → None ≡ option_map (λ (z : Size). z.states) o → within_limits M ≡ false
      go None q h = size_none M q
      go (Some z) q h = absurd (let z : ◌≡◌ {A = ℕ} 0 1 = cc in omega arith)

  -- over the limits synthesis is turned away, and leaves the map
  module _ (start : ℕ) (map : List ℕ) (e : None ≡ states_of M) where
    pub refused_over : solved M start map ≡ Err (Map OverLimits)
    refused_over =
        ap (λ o. unless (λ f. Err (Map f)) o (judged (mark M start) (tally M))) (over_limits M (length map) start (over e))

    pub left_over : map_after M start map ≡ map
    left_over = ap (λ o. unless (λ f. map) o (filled M map)) (over_limits M (length map) start (over e))
