-- Where two lists differ.
use Rattle.std.specs.Prelude.{ℕ, suc, cond, ◌==◌, List, ◌∷◌, Option, Some, None}
use Rattle.cases.specs.declared.difference.Difference.{Difference}

-- the first place, where the lists begin at this one and both go as far
abbrev pub first_difference_from : ℕ → List ℕ → List ℕ → Option Difference
first_difference_from place (x ∷ xs) (y ∷ ys) =
    cond (x == y) (first_difference_from (suc place) xs ys) (Some (record { place = place; found = x; expected = y }))
first_difference_from place _ _ = None
