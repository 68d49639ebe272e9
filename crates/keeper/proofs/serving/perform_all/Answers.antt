use Rattle.std.proofs.Common.{◌<◌, ◌≤◌, length, ◌∙◌, arith}
use Rattle.keeper.proofs.Performed.{keeper_more, row_more, keeper_done, row_done}
use Rattle.keeper.proofs.serving.perform_all.Goals as goal

pub loop-exchange-preserved : goal.loop-exchange-preserved
loop-exchange-preserved g c =
    let there : c.loop-exchange.exchange-index < length c.loop-exchange.exchanges = omega arith in (
      keeper_more _ _ c.loop-exchange.keeper c.loop-exchange.exchanges c.loop-exchange.exchange-index _ c.perform-next.result there c.perform-next.ensures ∙ c.loop-exchange.invariant.0,
      row_more _ _ c.loop-exchange.keeper c.loop-exchange.exchanges c.loop-exchange.exchange-index _ c.perform-next.result there c.perform-next.ensures ∙ c.loop-exchange.invariant.1,
    )

pub returns : goal.returns
returns g c =
    let all : length c.loop-exchange.exchanges ≤ c.loop-exchange.exchange-index = omega arith in
    record {
      keeper = keeper_done _ _ c.loop-exchange.keeper c.loop-exchange.exchanges c.loop-exchange.exchange-index all ∙ c.loop-exchange.invariant.0;
      row = row_done _ _ c.loop-exchange.keeper c.loop-exchange.exchanges c.loop-exchange.exchange-index all ∙ c.loop-exchange.invariant.1;
    }
