use Rattle.std.proofs.Common.{◌<◌, ◌≤◌, length, ap, ◌∙◌, arith}
use Rattle.keeper.specs.declared.slot.Ready.{Ready}
use Rattle.course.proofs.Calls.{still_safe}
use Rattle.course.proofs.Running.{state_more, row_more, state_done, row_done}
use Rattle.course.proofs.slots.run_all.Goals as goal

pub loop-place-preserved : goal.loop-place-preserved
loop-place-preserved g c =
    let there : c.loop-place.place-index < length c.loop-place.checks = omega arith in (
      still_safe _ (g.met.T.Traffic.lawful c.args.board.traffic.now) _ _ c.loop-place.invariant.0 _ c.run_slot.ensures,
      state_more _ c.loop-place.keeper.state c.loop-place.checks c.loop-place.place-index c.run_slot.result there c.run_slot.ensures ∙ c.loop-place.invariant.1,
      row_more _ c.loop-place.keeper.state c.loop-place.checks c.loop-place.place-index c.run_slot.result there c.run_slot.ensures ∙ c.loop-place.invariant.2,
    )

pub returns-clause-keeper : goal.returns-clause-keeper
returns-clause-keeper g c =
    let all : length c.loop-place.checks ≤ c.loop-place.place-index = omega arith in
    ap (λ x. let k : Ready = record { state = x } in k) (state_done _ c.loop-place.keeper.state c.loop-place.checks c.loop-place.place-index all ∙ c.loop-place.invariant.1)

pub returns-clause-noted : goal.returns-clause-noted
returns-clause-noted g c =
    let all : length c.loop-place.checks ≤ c.loop-place.place-index = omega arith in
    row_done _ c.loop-place.keeper.state c.loop-place.checks c.loop-place.place-index all ∙ c.loop-place.invariant.2
