use Rattle.game.specs.Standing.{on}
use Rattle.game.proofs.Choosing.{Passing}
use Rattle.game.proofs.marks.Marks.worst_next.Given as goal

abbrev pub invariant-loop-t : goal.invariant-loop-t
invariant-loop-t g l = Passing (g.T.Traffic.meaning l.self.bounded.traffic.now) (on l.self.map.now) l.state l.mv l.t-iterator l.worst
