use Rattle.keeper.proofs.Guaranteed.{promised}
use Rattle.keeper.proofs.arming.synthesise.Goals as goal

pub returns-clause-guarantee : goal.returns-clause-guarantee
returns-clause-guarantee g c =
    let done = c.solve_and_arm.ensures in
    promised _ (g.met.T.Traffic.lawful c.args.traffic.now) _ _ _ _ c.solve_and_arm.auto.map done.answer done.after
