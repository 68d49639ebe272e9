use Rattle.std.proofs.Common.{◌≡◌, ◌≤◌, ◌+◌, max, rules, ◌∙◌, arith}
use Rattle.course.proofs.Silences.{bounded, more, done}
use Rattle.course.proofs.account.longest_silence.Goals as goal

pub loop-check-preserved : goal.loop-check-preserved
loop-check-preserved c =
    let is : c.max-longest.result ≡ max c.loop-check.longest c.silence_with-silence.result = search rules in
    let b : c.silence_with-silence.result ≤ c.loop-check.check-index + 1 = bounded _ _ _ _ _ c.loop-check.invariant.0 c.loop-check.invariant.1 c.silence_with-silence.ensures in (
      omega arith,
      omega arith,
      rw is (more c.loop-check.silence c.loop-check.longest c.args.checks.now c.loop-check.check-index _ c.loop-check-test.true c.loop-check.invariant.0 _ c.silence_with-silence.ensures ∙ c.loop-check.invariant.2),
    )

pub returns : goal.returns
returns c = done c.loop-check.silence c.loop-check.longest c.args.checks.now c.loop-check.check-index c.loop-check-test.false c.loop-check.invariant.0 ∙ c.loop-check.invariant.2
