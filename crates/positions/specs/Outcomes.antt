-- What the game of a site comes to.
use Rattle.std.specs.Prelude.{◌≡◌, ℕ, ◌≤◌, Bool, List, length, Ok, Err, Option, Result}
use Rattle.game.specs.declared.solution.Tally.{Tally}
use Rattle.game.specs.declared.solution.Refusal.{Refusal}
use Rattle.game.specs.declared.solution.Refusal.TheVariants.{NoSchedule}
use Rattle.game.specs.Game.{mark, permitted}
use Rattle.game.specs.Choice.{pick_by, spoiler_by}
use Rattle.game.specs.Filling.{values}
use Rattle.game.specs.Plays.{Rule, Led}
use Rattle.game.specs.Laws.{LeastCount}
use Rattle.game.specs.Answers.{solved}
use Rattle.keeper.specs.declared.arming.Armed.{Armed}
use Rattle.keeper.specs.Arming.{armed}
use Rattle.site_read.specs.Format.{Places}
use Rattle.site.specs.SiteTraffic.{site_meaning}

module _ (p : Places) where
  -- the marks of all states, in the order of their numbers
  abbrev pub marks_of : List ℕ
  marks_of = values (mark (site_meaning p)) 0 (site_meaning p).states

  -- in state 0: whether a move is permitted, and the pick
  abbrev pub may_begin : ℕ → Bool
  may_begin m = permitted (site_meaning p) 0 m

  abbrev pub first_pick : Option ℕ
  first_pick = pick_by (site_meaning p) (mark (site_meaning p)) 0

  -- the spoiler's answer to move m in state s
  abbrev pub counterplay : ℕ → ℕ → Option ℕ
  counterplay s m = spoiler_by (site_meaning p) (mark (site_meaning p)) s m

  -- what synthesis from state 0 answers on every map with room
  abbrev pub Synthesis : Result Armed Refusal → Type 0
  Synthesis r = (map : List ℕ) → (site_meaning p).states ≤ length map → armed 0 (solved (site_meaning p) 0 map) ≡ r

  -- a keeper is armed, ready in state 0, and some rule is never led into a jam
  abbrev pub HasSchedule : Tally → Type 0
  HasSchedule t =
      Synthesis (armed 0 (Ok t)) × ((ρ : Rule (site_meaning p)) × (Led ρ 0 → ⊥))

  -- no keeper is armed, and k is the least number of checks within which every rule is led into a jam
  abbrev pub HasNoSchedule : ℕ → Tally → Type 0
  HasNoSchedule k t = Synthesis (Err (NoSchedule k t)) × LeastCount (site_meaning p) 0 k
