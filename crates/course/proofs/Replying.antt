-- What the plants reply to a legal move.
use Rattle.std.proofs.Common.{◌≡◌, ℕ, ◌+◌, ◌<◌, true, Some, None, Option, refl, ap, ◌∙◌, subst, arith}
use Rattle.std.specs.Option.{option_or}
use Rattle.std.proofs.lemmas.Bool.{both_ways}
use Rattle.traffic.specs.Searches.{least}
use Rattle.traffic.specs.Meaning.{Meaning, Lawful, legal}
use Rattle.traffic.specs.Found.{Least, least_some, least_none}
use Rattle.traffic.specs.Answered.{within_limits, next_of}
use Rattle.game.specs.Game.{mark}
use Rattle.game.specs.Choice.{spoiler_by}
use Rattle.game.proofs.Kept.{legal_next}
use Rattle.game.proofs.Choosing.{threat_parts, FoundFirst, spoiler_first}
use Rattle.course.specs.Plants.{reply_by, Replies}
use Rattle.course.specs.Plants.Replies.{spoils, takes_the_lowest}

module _ (M : Meaning) (s m : ℕ) where
  lowest_next : (t : ℕ) → least (M.leads s m) 0 M.states ≡ Some t → Least (M.leads s m) 0 M.states t
  lowest_next t e =
      let z : 0 + M.states ≡ M.states = omega arith in
      subst (λ k. Least (M.leads s m) 0 k t) z (least_some (M.leads s m) M.states 0 t e)

  -- a reply by the marks of the game is one by the plants' rule
  pub replies : (t : ℕ) → reply_by M (mark M) s m ≡ Some t → Replies M s m t
  unfolding reply_by
  replies t h = go (spoiler_by M (mark M) s m) refl h
    where
      go : (o : Option ℕ) → spoiler_by M (mark M) s m ≡ o → option_or o (least (M.leads s m) 0 M.states) ≡ Some t → Replies M s m t
      go (Some u) e q = spoils (e ∙ q)
      go None e q = takes_the_lowest e (lowest_next t q)

  -- a legal move is replied to, by one of its next states
  pub replied : Lawful M → legal M s m ≡ true → (marks : ℕ → ℕ) → (t : ℕ) × (reply_by M marks s m ≡ Some t) × (M.leads s m t ≡ true) × (t < M.states)
  unfolding reply_by
  replied law ok marks = go (spoiler_by M marks s m) (spoiler_first M marks s m law)
    where
      found : (o : Option ℕ) → least (M.leads s m) 0 M.states ≡ o → (t : ℕ) × (o ≡ Some t) × (M.leads s m t ≡ true) × (t < M.states)
      found (Some t) e = let l = lowest_next t e in (t, refl, l.passes, l.high)
      found None e =
          let n = legal_next M s m ok in
          absurd (both_ways _ (least_none (M.leads s m) M.states 0 e n.0 (omega arith) (omega arith)) n.2)

      go : (o : Option ℕ) → FoundFirst M marks s m M.states o → (t : ℕ) × (option_or o (least (M.leads s m) 0 M.states) ≡ Some t) × (M.leads s m t ≡ true) × (t < M.states)
      go (Some t) f = (t, refl, (threat_parts M marks s m t f.threatens).0, f.below)
      go None f = found _ refl

-- where the spoiler answers, the reply is its answer
pub spoiled_reply : (M : Meaning) (marks : ℕ → ℕ) (s m t u : ℕ) → spoiler_by M marks s m ≡ Some t → reply_by M marks s m ≡ Some u → t ≡ u
unfolding reply_by
spoiled_reply M marks s m t u e f =
    let w : reply_by M marks s m ≡ Some t = ap (λ o. option_or o (least (M.leads s m) 0 M.states)) e in
    cc

-- the lowest next state is the next one from 0 on
pub next_zero : (M : Meaning) (s m : ℕ) → within_limits M ≡ true → next_of M s m 0 ≡ least (M.leads s m) 0 M.states
unfolding next_of
next_zero M s m w = rw w (ap (least (M.leads s m) 0) (omega arith))
