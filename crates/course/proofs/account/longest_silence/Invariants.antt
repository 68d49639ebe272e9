use Rattle.std.proofs.Common.{◌≡◌, ◌≤◌, max, drop}
use Rattle.course.specs.Account.{longest_silence_in, silence_after}
use Rattle.course.proofs.account.longest_silence.Given as goal

-- the longest so far, and what is left from here, come to the longest of all
abbrev pub invariant-loop-check : goal.invariant-loop-check
invariant-loop-check l =
    (l.silence ≤ l.longest) × (l.longest ≤ l.check-index)
    × (max l.longest (silence_after l.silence (drop l.check-index l.checks)) ≡ longest_silence_in l.checks)
