-- The header of a site file, field by field: the mark LKT, the version 1 in two bytes, the number of loops, 1 to 4.
-- In each field it is asked first whether the file has it whole.
use Rattle.std.specs.Prelude.{ℕ, ◌+◌, ◌*◌, cond, ◌&&◌, List, [], ◌∷◌, Ok, Err, Result, ◌==◌, nat_le}
use Rattle.site_read.specs.declared.fault.Fault.{Fault}
use Rattle.site_read.specs.declared.fault.Fault.TheVariants.{Truncated, Mark, Version, LoopCount}
use Rattle.site_read.specs.Parse.{Parsed, then}

-- the first wrong byte of a mark
abbrev pub mark_fault : ℕ → ℕ → ℕ → Result (Unit {0}) Fault
mark_fault a b c =
    cond (a == 76) (cond (b == 75) (cond (c == 84) (Ok tt) (Err (Mark 2))) (Err (Mark 1))) (Err (Mark 0))

abbrev pub version_fault : ℕ → ℕ → Result (Unit {0}) Fault
version_fault h l = cond (h * 256 + l == 1) (Ok tt) (Err Version)

abbrev pub mark : List ℕ → Result (List ℕ) Fault
mark [] = Err (Truncated 0 0)
mark (a ∷ []) = Err (Truncated 0 1)
mark (a ∷ b ∷ []) = Err (Truncated 0 2)
mark (a ∷ b ∷ c ∷ bs) = then (mark_fault a b c) (λ _. Ok bs)

abbrev pub version : List ℕ → Result (List ℕ) Fault
version [] = Err (Truncated 0 3)
version (h ∷ []) = Err (Truncated 0 4)
version (h ∷ l ∷ bs) = then (version_fault h l) (λ _. Ok bs)

abbrev pub loops : List ℕ → Parsed ℕ
loops [] = Err (Truncated 0 5)
loops (n ∷ bs) = cond (nat_le 1 n && nat_le n 4) (Ok (n, bs)) (Err LoopCount)

-- the number of loops, and the records
abbrev pub header : List ℕ → Parsed ℕ
header bs = then (then (mark bs) version) loops
