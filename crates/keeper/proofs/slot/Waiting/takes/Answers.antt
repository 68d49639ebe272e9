use Rattle.std.proofs.Common.{◌∙◌}
use Rattle.game.proofs.Admitted.{answered, admitted}
use Rattle.keeper.proofs.Taken.{told_next, both_answered}
use Rattle.keeper.proofs.slot.Waiting.takes.Goals as goal

pub returns : goal.returns
returns g c =
    let held = answered _ _ _ c.in_ok-admit.ensures in
    let given = answered _ _ _ c.in_ok-admit-2.ensures in
    let a = admitted _ _ _ given.0 in
    both_answered _ _ _ _ held.0 given.0 (c.eq.ensures ∙ told_next _ _ _ _ a.limits a.inside _ c.next_from.ensures)
