-- The map of marks that a caller gives, and when a call that is given one is turned away.
use Rattle.std.specs.Prelude.{◌≡◌, ℕ, ◌<◌, List, [], ◌∷◌, length, Ok, Err, Option, Result, nat_le, nat_lt}
use Rattle.traffic.specs.Meaning.{Meaning}
use Rattle.traffic.specs.Answered.{within_limits}
use Rattle.game.specs.declared.map_fault.MapFault.{MapFault}
use Rattle.game.specs.declared.map_fault.MapFault.TheVariants.{OverLimits, ShortMap, NoSuchState}
use Rattle.game.specs.Game.{mark}
use Rattle.game.specs.Standing.{on}
use Rattle.traffic.specs.Refusals.{first_unmet, unless, Told}

abbrev pub told : MapFault → Told
told OverLimits = record { number = 9; values = [] }
told ShortMap = record { number = 10; values = [] }
told NoSuchState = record { number = 11; values = [] }

-- the traffic must be within the limits, the map have a mark for each of its states, and the state be one of them
unfoldable pub turned_away : Meaning → ℕ → ℕ → Option MapFault
turned_away M room s =
    first_unmet ((within_limits M, OverLimits) ∷ (nat_le M.states room, ShortMap) ∷ (nat_lt s M.states, NoSuchState) ∷ [])

abbrev pub unless_turned_away : {A : Type 0} → Meaning → List ℕ → ℕ → A → Result A MapFault
unless_turned_away M map s a = unless Err (turned_away M (length map) s) (Ok a)

-- the map holds the mark of every state, as synthesis leaves it
abbrev pub Filled : Meaning → List ℕ → Type 0
Filled M map = (s : ℕ) → s < M.states → on map s ≡ mark M s
