use Rattle.std.proofs.Common.{sym, ◌∙◌}
use Rattle.game.specs.Standing.{on}
use Rattle.game.proofs.Admitted.{admitted}
use Rattle.course.proofs.Calls.{not_absent}
use Rattle.course.proofs.Legals.{checked, unchecked, some_reply}
use Rattle.course.proofs.lost.check_in.Goals as goal

pub lowest_legal-requires-clause-limits : goal.lowest_legal-requires-clause-limits
lowest_legal-requires-clause-limits g c = (admitted _ _ _ c.requires.admitted).limits

pub returns-in_err-mv : goal.returns-in_err-mv
returns-in_err-mv g c = c.from_residual.ensures ∙ unchecked (g.T.Traffic.meaning c.args.board.traffic.now) (on c.args.board.map.now) c.args.state (sym c.lowest_legal.ensures ∙ c.in_err-mv.was)

pub unreachable-requires : goal.unreachable-requires
unreachable-requires g c =
    let w = some_reply _ (on c.args.board.map.now) _ (g.met.T.Traffic.lawful c.args.board.traffic.now) _ (sym c.lowest_legal.ensures ∙ c.in_ok-mv.was) in
    not_absent _ _ (c.reply.ensures ∙ w.1) c.in_default.is

pub returns : goal.returns
returns g c = checked _ _ _ _ _ (sym c.lowest_legal.ensures ∙ c.in_ok-mv.was) (sym c.reply.ensures ∙ c.in-Some.is)
