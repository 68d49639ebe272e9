-- What the answers about a state mean on a map that synthesis filled.
use Rattle.std.specs.Prelude.{◌≡◌, ℕ, ◌<◌, Bool, true, ◌↔◌, Some, None, Ok, Option, Result}
use Rattle.traffic.specs.Meaning.{Meaning, legal}
use Rattle.game.specs.declared.map_fault.MapFault.{MapFault}
use Rattle.game.specs.Game.{mark}
use Rattle.game.specs.Plays.{Safe}

-- yes is answered exactly for a safe move
abbrev pub ExactlySafe : Meaning → ℕ → ℕ → Result Bool MapFault → Type 0
ExactlySafe M s m r = (yes : Bool) → r ≡ Ok yes → (yes ≡ true) ↔ Safe M s m

-- the pick is safe and no lower move is, and it is absent only where no move is safe
abbrev pub LowestSafe : Meaning → ℕ → Result (Option ℕ) MapFault → Type 0
LowestSafe M s r =
    ((m : ℕ) → r ≡ Ok (Some m) → Safe M s m × ((j : ℕ) → j < m → Safe M s j → ⊥)) × (r ≡ Ok None → (m : ℕ) → Safe M s m → ⊥)

-- after a legal move in a state whose mark is not 0, the spoiler answers a next state of a lower mark above 0
abbrev pub LeadsDown : Meaning → ℕ → ℕ → Result (Option ℕ) MapFault → Type 0
LeadsDown M s m r =
    (answer : Option ℕ) → r ≡ Ok answer → 0 < mark M s → legal M s m ≡ true →
    (t : ℕ) × (answer ≡ Some t) × (M.leads s m t ≡ true) × (0 < mark M t) × (mark M t < mark M s)
