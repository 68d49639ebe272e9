-- Marks in runs: so many neighbours have the same mark.
use Rattle.std.specs.Prelude.{ℕ, ◌-◌, cond, nat_le, length, List, [], ◌∷◌, ◌++◌, Option, Some, None}
use Rattle.std.proofs.Math.ListN.{replicate}
use Rattle.cases.specs.declared.runs.Run.{Run}

-- the marks that the runs stand for
abbrev pub marks_of : List Run → List ℕ
marks_of [] = []
marks_of (r ∷ rs) = replicate r.count r.mark ++ marks_of rs

-- these marks, if there is room
abbrev pub within : ℕ → List ℕ → Option (List ℕ)
within room marks = cond (nat_le (length marks) room) (Some marks) None

-- a map with so much room: the marks, and behind them what a place without a mark holds
abbrev pub map_in : ℕ → ℕ → List ℕ → Option (List ℕ)
map_in room unmarked marks = cond (nat_le (length marks) room) (Some (marks ++ replicate (room - length marks) unmarked)) None
