-- The rule by which the plants reply to a move.
use Rattle.std.specs.Prelude.{◌≡◌, ℕ, Some, None, Option}
use Rattle.std.specs.Option.{option_or}
use Rattle.traffic.specs.Searches.{least}
use Rattle.traffic.specs.Meaning.{Meaning}
use Rattle.traffic.specs.Found.{Least}
use Rattle.game.specs.Game.{mark}
use Rattle.game.specs.Choice.{spoiler_by}

-- the spoiler's answer by a marking or, where it has none, the lowest next state
unfoldable pub reply_by : Meaning → (ℕ → ℕ) → ℕ → ℕ → Option ℕ
reply_by M marks s m = option_or (spoiler_by M marks s m) (least (M.leads s m) 0 M.states)

-- t is the reply by the marks of the game
pub data Replies (M : Meaning) (s m : ℕ) : ℕ → Type 0 where
  spoils : {t : ℕ} → spoiler_by M (mark M) s m ≡ Some t → Replies M s m t
  takes_the_lowest : {t : ℕ} → spoiler_by M (mark M) s m ≡ None → Least (M.leads s m) 0 M.states t → Replies M s m t
