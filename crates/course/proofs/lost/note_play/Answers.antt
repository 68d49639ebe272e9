use Rattle.std.proofs.Common.{◌≡◌, ◌<◌, ◌≤◌, length, sym, ◌∙◌, arith}
use Rattle.course.proofs.Losing.{none_left, no_room, next_admitted, play_more, behind_more, all_made, all_noted}
use Rattle.course.proofs.lost.note_play.Goals as goal

pub returns-in_default-clause-answer : goal.returns-in_default-clause-answer
returns-in_default-clause-answer g c =
    let low : c.loop-made.made ≤ length c.loop-made.checks = omega arith in
    all_made c.loop-made.checks c.args.checks.now _ _ c.loop-made.made low c.loop-made.invariant.1 (none_left _ _ _ (sym c.check_in.ensures ∙ c.in_default.is) _)

pub returns-in_default-clause-noted : goal.returns-in_default-clause-noted
returns-in_default-clause-noted g c =
    let low : c.loop-made.made ≤ length c.loop-made.checks = omega arith in
    all_noted c.loop-made.checks c.args.checks.now _ _ c.loop-made.made low c.loop-made.invariant.1 (none_left _ _ _ (sym c.check_in.ensures ∙ c.in_default.is) _) c.loop-made.invariant.2

pub loop-made-preserved : goal.loop-made-preserved
loop-made-preserved g c =
    let there : c.loop-made.made < length c.loop-made.checks = omega arith in
    let made = sym c.check_in.ensures ∙ c.in-Some.is in (
      next_admitted _ _ _ (g.met.T.Traffic.lawful c.args.board.traffic.now) _ _ c.loop-made.invariant.0 made,
      play_more _ _ c.loop-made.state c.loop-made.checks c.loop-made.made c.in-Some.check there made ∙ c.loop-made.invariant.1,
      behind_more _ _ c.loop-made.state c.loop-made.checks c.loop-made.made c.in-Some.check there made c.args.checks.now c.loop-made.invariant.2,
    )

pub returns-clause-answer : goal.returns-clause-answer
returns-clause-answer g c =
    let low : c.loop-made.made ≤ length c.loop-made.checks = omega arith in
    let all : length c.loop-made.checks ≤ c.loop-made.made = omega arith in
    let is : length c.loop-made.checks ≡ c.loop-made.made = omega arith in
    is ∙ all_made c.loop-made.checks c.args.checks.now _ _ c.loop-made.made low c.loop-made.invariant.1 (no_room _ _ c.loop-made.state c.loop-made.checks c.loop-made.made all)

pub returns-clause-noted : goal.returns-clause-noted
returns-clause-noted g c =
    let low : c.loop-made.made ≤ length c.loop-made.checks = omega arith in
    let all : length c.loop-made.checks ≤ c.loop-made.made = omega arith in
    all_noted c.loop-made.checks c.args.checks.now _ _ c.loop-made.made low c.loop-made.invariant.1 (no_room _ _ c.loop-made.state c.loop-made.checks c.loop-made.made all) c.loop-made.invariant.2
