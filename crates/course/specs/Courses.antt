-- Courses of checks, as plays.
use Rattle.std.specs.Prelude.{◌≡◌, ℕ, ◌<◌, List, [], ◌∷◌}
use Rattle.traffic.specs.Meaning.{Meaning}
use Rattle.game.specs.Plays.{Past, begin, after, last}
use Rattle.course.specs.declared.check.Check.{Check}
use Rattle.course.specs.Plants.{Replies}

-- a past, with the moves and the next states of these checks after it
abbrev pub grown : Past → List Check → Past
grown p [] = p
grown p (c ∷ cs) = grown (after p c.mv c.next) cs

-- the course of these checks from a state on
abbrev pub course_of : ℕ → List Check → Past
course_of start cs = grown (begin start) cs

-- m is the lowest number that `may` allows
abbrev pub Lowest : (ℕ → Type 0) → ℕ → Type 0
Lowest may m = may m × ((j : ℕ) → j < m → may j → ⊥)

-- A check is made after a past: in its last state, by the lowest move that may be made there, and the plants reply by
-- their rule.
pub record Made (M : Meaning) (may : ℕ → ℕ → Type 0) (p : Past) (c : Check) : Type 0 where
  pub from_last : c.state ≡ last p
  pub lowest : Lowest (may c.state) c.mv
  pub replied : Replies M c.state c.mv c.next

-- each of these checks is made after the past before it
abbrev pub AllMade : Meaning → (ℕ → ℕ → Type 0) → Past → List Check → Type 0
AllMade M may p [] = Unit {0}
AllMade M may p (c ∷ cs) = Made M may p c × AllMade M may (after p c.mv c.next) cs
