use Rattle.keeper.proofs.KeptPromise.{kept}
use Rattle.keeper.proofs.Settled.{settled}
use Rattle.keeper.proofs.serving.serve.Goals as goal

pub returns-clause-guarantee : goal.returns-clause-guarantee
returns-clause-guarantee g c =
    let done = c.arm_and_perform.ensures in
    kept _ (g.met.T.Traffic.lawful c.args.traffic.now) _ _ _ c.arm_and_perform.auto.map done.after _ _ _ done.answer done.row

pub returns-clause-one_answer : goal.returns-clause-one_answer
returns-clause-one_answer g c p q r k l n call a b =
    settled (g.T.Traffic.meaning c.args.traffic.now) (g.met.T.Traffic.lawful c.args.traffic.now) _ _
