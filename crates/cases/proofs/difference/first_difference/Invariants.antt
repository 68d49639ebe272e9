use Rattle.std.proofs.Common.{◌≡◌, drop}
use Rattle.cases.specs.Differences.{first_difference_from}
use Rattle.cases.proofs.difference.first_difference.Given as goal

-- the difference is still to come
abbrev pub invariant-loop-place : goal.invariant-loop-place
invariant-loop-place l =
    first_difference_from l.place (drop l.place l.map) (drop l.place l.expected) ≡ first_difference_from 0 l.map l.expected
