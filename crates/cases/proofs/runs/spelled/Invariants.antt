use Rattle.std.proofs.Common.{◌≡◌, ◌++◌, ◌≤◌, length, drop}
use Rattle.cases.specs.Runs.{marks_of}
use Rattle.cases.proofs.runs.spelled.Given as goal

-- there was room so far, and the marks of the runs that are left follow
abbrev pub invariant-loop-run : goal.invariant-loop-run
invariant-loop-run l =
    (length l.marks.items ≤ l.room) × (l.marks.items ++ marks_of (drop l.run-index l.runs) ≡ marks_of l.runs)
