-- Lines told in one: with a comma and a blank between them.
use Rattle.std.specs.Prelude.{ℕ, List, [], ◌∷◌, ◌++◌, codes}

-- the lines, with this before the first
abbrev pub in_one_behind : List ℕ → List (List ℕ) → List ℕ
in_one_behind before [] = []
in_one_behind before (l ∷ ls) = before ++ (l ++ in_one_behind (codes ", ") ls)

abbrev pub in_one : List (List ℕ) → List ℕ
in_one ls = in_one_behind [] ls
