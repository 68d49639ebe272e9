use Rattle.std.proofs.Common.{◌∙◌}
use Rattle.course.proofs.Calls.{pick_answer, picked_mv, granted_is, replied_is, reported_is, slot_is, ok_is, some_is, no_refusal, not_absent}
use Rattle.course.proofs.slots.run_slot.Goals as goal

pub unreachable-requires : goal.unreachable-requires
unreachable-requires g c =
    no_refusal _ _ _ (c.pick.ensures ∙ pick_answer _ (g.met.T.Traffic.lawful c.args.board.traffic.now) _ _ c.requires.safe) c.in_default.is

pub unreachable-requires-in_default-pick : goal.unreachable-requires-in_default-pick
unreachable-requires-in_default-pick g c =
    not_absent _ _ (ok_is _ _ _ (c.pick.ensures ∙ pick_answer _ (g.met.T.Traffic.lawful c.args.board.traffic.now) _ _ c.requires.safe) c.in-Ok.is) c.in_default-pick.is

pub unreachable-requires-in_default-grant : goal.unreachable-requires-in_default-grant
unreachable-requires-in_default-grant g c =
    let law = g.met.T.Traffic.lawful c.args.board.traffic.now in
    let mv = picked_mv _ law _ _ c.requires.safe _ _ _ c.pick.ensures c.in-Ok.is c.in-Some.is in
    no_refusal _ _ _ (c.grant.ensures ∙ granted_is _ law _ _ c.requires.safe _ mv) c.in_default-grant.is

pub unreachable-requires-in_default-reply : goal.unreachable-requires-in_default-reply
unreachable-requires-in_default-reply g c =
    let law = g.met.T.Traffic.lawful c.args.board.traffic.now in
    let mv = picked_mv _ law _ _ c.requires.safe _ _ _ c.pick.ensures c.in-Ok.is c.in-Some.is in
    not_absent _ _ (c.reply.ensures ∙ replied_is _ law _ _ c.requires.safe _ _ c.state-state.ensures mv) c.in_default-reply.is

pub unreachable-requires-in_default-report : goal.unreachable-requires-in_default-report
unreachable-requires-in_default-report g c =
    let law = g.met.T.Traffic.lawful c.args.board.traffic.now in
    let mv = picked_mv _ law _ _ c.requires.safe _ _ _ c.pick.ensures c.in-Ok.is c.in-Some.is in
    let waiting = ok_is _ _ _ (c.grant.ensures ∙ granted_is _ law _ _ c.requires.safe _ mv) c.in-Ok-grant.is in
    let next = some_is _ _ _ (c.reply.ensures ∙ replied_is _ law _ _ c.requires.safe _ _ c.state-state.ensures mv) c.in-Some-reply.is in
    no_refusal _ _ _ (c.report.ensures ∙ reported_is _ law _ _ c.requires.safe _ _ waiting next) c.in_default-report.is

pub returns : goal.returns
returns g c =
    let law = g.met.T.Traffic.lawful c.args.board.traffic.now in
    let mv = picked_mv _ law _ _ c.requires.safe _ _ _ c.pick.ensures c.in-Ok.is c.in-Some.is in
    let waiting = ok_is _ _ _ (c.grant.ensures ∙ granted_is _ law _ _ c.requires.safe _ mv) c.in-Ok-grant.is in
    let next = some_is _ _ _ (c.reply.ensures ∙ replied_is _ law _ _ c.requires.safe _ _ c.state-state.ensures mv) c.in-Some-reply.is in
    slot_is _ law _ _ c.requires.safe _ _ _ _ c.state-state.ensures mv next
    (ok_is _ _ _ (c.report.ensures ∙ reported_is _ law _ _ c.requires.safe _ _ waiting next) c.in-Ok-report.is)
