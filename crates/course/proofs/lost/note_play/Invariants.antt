use Rattle.std.proofs.Common.{◌≡◌, None, ◌++◌, take, drop, length}
use Rattle.game.specs.Standing.{on}
use Rattle.game.specs.Maps.{turned_away}
use Rattle.course.specs.Lost.{lost_play}
use Rattle.course.proofs.lost.note_play.Given as goal

-- what is noted so far, and the play from here, are the play from the start; behind it the record is as it was
abbrev pub invariant-loop-made : goal.invariant-loop-made
invariant-loop-made g l =
    (turned_away (g.T.Traffic.meaning l.board.traffic.now) (length l.board.map.now) l.state ≡ None)
    × (take l.made l.checks ++ lost_play (g.T.Traffic.meaning l.board.traffic.now) (on l.board.map.now) (length (drop l.made l.checks)) l.state ≡ lost_play (g.T.Traffic.meaning l.board.traffic.now) (on l.board.map.now) (length l.fn.checks) l.fn.start)
    × (drop l.made l.checks ≡ drop l.made l.fn.checks)
