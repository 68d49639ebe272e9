use Rattle.std.proofs.Common.{◌+◌, ◌≤◌, length, get_or, None, ap, take_all, rules, arith, add-one}
use Rattle.std.proofs.Output.{has_written_append, has_written_of_eq}
use Rattle.course.specs.Words.{sends_line, sends_lines}
use Rattle.course.proofs.SendsLines.{line_more}
use Rattle.course.proofs.words.SendsDisplay.fmt.Goals as goal
use Rattle.course.proofs.words.SendsDisplay.fmt.Goals.{in-Some+in_ok-writeln, in_default}

pub loop-before-preserved : goal.loop-before-preserved
loop-before-preserved g c p =
    has_written_of_eq _ _ _ _ _ (rw add-one (line_more 1 c.args.self.now.counts c.loop-before.before))
    (has_written_append _ _ _ _ (sends_line (1 + c.loop-before.before) (get_or c.args.self.now.counts c.loop-before.before None)) _ (c.loop-before.invariant p)
    (elim c.match-count.branch [ in-Some+in_ok-writeln w ↦ rw w.in-Some.is (search rules) | in_default w ↦ rw w.in_default.is (search rules) ]))

pub returns-clause-writes : goal.returns-clause-writes
returns-clause-writes g c p _ =
    let all : length c.args.self.now.counts ≤ c.loop-before.before = omega arith in
    has_written_of_eq _ _ _ _ _ (ap (sends_lines 1) (take_all _ _ all)) (c.loop-before.invariant p)
