use Rattle.std.proofs.Common.{◌≡◌, ℕ, ◌<◌, false}
use Rattle.traffic.specs.Meaning.{legal}
use Rattle.course.proofs.lost.lowest_legal.Given as goal

-- no lower move is legal
abbrev pub invariant-loop-mv : goal.invariant-loop-mv
invariant-loop-mv g l = (k : ℕ) → k < l.mv → legal (g.T.Traffic.meaning l.traffic) l.state k ≡ false
