use Rattle.std.proofs.Common.{Ok, Err, sym, ap, ap₂, ◌∙◌}
use Rattle.std.specs.Option.{option_or}
use Rattle.traffic.specs.Refusals.{unless}
use Rattle.game.specs.Choice.{spoiler_by}
use Rattle.game.specs.Standing.{on}
use Rattle.game.proofs.Admitted.{answered, admitted}
use Rattle.course.specs.Plants.{reply_by}
use Rattle.course.proofs.Replying.{next_zero}
use Rattle.course.proofs.Calls.{no_refusal}
use Rattle.course.proofs.plants.reply.Goals as goal

pub unreachable-requires : goal.unreachable-requires
unreachable-requires g c =
    no_refusal _ (spoiler_by (g.T.Traffic.meaning c.args.board.traffic.now) (on c.args.board.map.now) c.args.state c.args.mv) _
    (c.spoiler.ensures.answer ∙ ap (λ o. unless Err o (Ok (spoiler_by (g.T.Traffic.meaning c.args.board.traffic.now) (on c.args.board.map.now) c.args.state c.args.mv))) c.requires.admitted)
    c.in_default.is

pub returns : goal.returns
unfolding reply_by
returns g c =
    let known = answered _ _ _ (sym c.in-Ok.is ∙ c.spoiler.ensures.answer) in
    c.or.ensures ∙ ap₂ option_or known.1 (c.next_from-lowest.ensures ∙ next_zero _ _ _ (admitted _ _ _ known.0).limits)
