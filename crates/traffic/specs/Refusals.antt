-- When a call is turned away, and what a refusal tells; of every kind of refusal.
use Rattle.std.specs.Prelude.{ℕ, Bool, cond, List, [], ◌∷◌, Some, None, Option}
use Rattle.std.specs.Option.{option_map_or}

-- the first condition that does not hold turns the call away, with the refusal beside it
abbrev pub first_unmet : {E : Type 0} → List (Bool × E) → Option E
first_unmet [] = None
first_unmet (c ∷ cs) = cond c.0 (first_unmet cs) (Some c.1)

-- what a call comes to: a, unless it is turned away; then what is made of the refusal
abbrev pub unless : {E A : Type 0} → (E → A) → Option E → A → A
unless made away a = option_map_or made away a

-- what a refusal tells: its number, and the values that come with it
pub record Told : Type 0 where
  pub number : ℕ
  pub values : List ℕ
