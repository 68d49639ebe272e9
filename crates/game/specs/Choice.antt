-- The pick, and the spoiler, which answers for the plants; by any marking, which gives each state a mark.
use Rattle.std.specs.Prelude.{ℕ, suc, Bool, true, not, ◌&&◌, ◌||◌, Some, None, Option, ◌==◌, nat_le, nat_lt}
use Rattle.traffic.specs.Searches.{every_below, least}
use Rattle.traffic.specs.Meaning.{Meaning}
use Rattle.game.specs.Game.{permitted_by}

-- the lowest permitted move, so that silence comes first
unfoldable pub pick_by : Meaning → (ℕ → ℕ) → ℕ → Option ℕ
pick_by M marks s = least (permitted_by M marks s) 0 (suc M.loops)

-- t is a next state with a mark above 0
unfoldable pub threat : Meaning → (ℕ → ℕ) → ℕ → ℕ → ℕ → Bool
threat M marks s m t = M.leads s m t && nat_lt 0 (marks t)

-- t comes before u by the smaller mark, and among equals by the lower number; every state comes before itself
unfoldable pub comes_before : (ℕ → ℕ) → ℕ → ℕ → Bool
comes_before marks t u = nat_lt (marks t) (marks u) || (marks t == marks u && nat_le t u)

-- t is a threat that comes before all others
unfoldable pub worst : Meaning → (ℕ → ℕ) → ℕ → ℕ → ℕ → Bool
worst M marks s m t =
    threat M marks s m t && every_below (λ u. not (threat M marks s m u) || comes_before marks t u) M.states

-- the next state with the smallest mark above 0, the lower number among equals, and absent if none has such a mark
unfoldable pub spoiler_by : Meaning → (ℕ → ℕ) → ℕ → ℕ → Option ℕ
spoiler_by M marks s m = least (worst M marks s m) 0 M.states

-- t has a smaller mark than the state found so far, if one was found
abbrev pub ahead : (ℕ → ℕ) → ℕ → Option ℕ → Bool
ahead marks t None = true
ahead marks t (Some w) = nat_lt (marks t) (marks w)
