use Rattle.std.proofs.Common.{◌≡◌, ◌++◌, take, drop}
use Rattle.keeper.specs.Service.{calls, answered, after_calls}
use Rattle.keeper.proofs.serving.perform_all.Given as goal

-- what is left of the row, from here, gives what all of it gives from the start
abbrev pub invariant-loop-exchange : goal.invariant-loop-exchange
invariant-loop-exchange g l =
    (after_calls (g.T.Traffic.meaning l.board.traffic.now) l.board.map.now l.keeper (calls (drop l.exchange-index l.exchanges)) ≡ after_calls (g.T.Traffic.meaning l.board.traffic.now) l.board.map.now l.initial.keeper (calls l.initial.exchanges))
    × (take l.exchange-index l.exchanges ++ answered (g.T.Traffic.meaning l.board.traffic.now) l.board.map.now l.keeper (drop l.exchange-index l.exchanges) ≡ answered (g.T.Traffic.meaning l.board.traffic.now) l.board.map.now l.initial.keeper l.initial.exchanges)
