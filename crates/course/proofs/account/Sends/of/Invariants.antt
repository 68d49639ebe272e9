use Rattle.std.proofs.Common.{◌≡◌, ℕ, ◌+◌, ◌<◌, length, None, get_or}
use Rattle.course.specs.Account.{sends_told}
use Rattle.course.proofs.account.Sends.of.Given as goal

-- what is told of the loops so far
abbrev pub invariant-loop-place : goal.invariant-loop-place
invariant-loop-place g l =
    (length l.counts ≡ 8)
    × ((k : ℕ) → k + 1 < l.place → get_or l.counts k None ≡ sends_told l.loops l.checks (k + 1))
