use Rattle.std.proofs.Common.{◌≡◌, ◌++◌, take, drop, length}
use Rattle.course.specs.Slots.{SafeOn, slots, state_after}
use Rattle.course.proofs.slots.run_all.Given as goal

-- what is left of the record, from here, gets what all of it gets from the start
abbrev pub invariant-loop-place : goal.invariant-loop-place
invariant-loop-place g l =
    SafeOn (g.T.Traffic.meaning l.board.traffic.now) l.board.map.now l.keeper.state
    × (state_after (g.T.Traffic.meaning l.board.traffic.now) (length (drop l.place-index l.checks)) l.keeper.state ≡ state_after (g.T.Traffic.meaning l.board.traffic.now) (length l.initial.checks) l.initial.keeper.state)
    × (take l.place-index l.checks ++ slots (g.T.Traffic.meaning l.board.traffic.now) (length (drop l.place-index l.checks)) l.keeper.state ≡ slots (g.T.Traffic.meaning l.board.traffic.now) (length l.initial.checks) l.initial.keeper.state)
