use Rattle.std.proofs.Common.{refl}
use Rattle.game.proofs.Admitted.{size_told}
use Rattle.game.proofs.board.Board.marks.Goals as goal

pub invariant_of-result : goal.invariant_of-result
invariant_of-result g c =
    let a = size_told _ _ _ _ c.in_ok-size.ensures in
    record { limits = a.limits; states = a.states; loops = a.loops }

pub invariant_of-result-2 : goal.invariant_of-result-2
invariant_of-result-2 g c = record { room = (size_told _ _ _ _ c.in_ok-size.ensures).room }

pub returns : goal.returns
returns g c = ((size_told _ _ _ _ c.in_ok-size.ensures).none, refl, refl)
