use Rattle.course.proofs.AllSilences.{is_longest}
use Rattle.course.proofs.JamsTold.{tells}
use Rattle.course.proofs.account.Account.of.Goals as goal

pub returns-clause-longest : goal.returns-clause-longest
returns-clause-longest g c = rw c.longest_silence.ensures (is_longest c.args.checks.now)

pub returns-clause-tells : goal.returns-clause-tells
returns-clause-tells g c = tells _ (g.met.T.Traffic.lawful c.args.traffic.now) c.args.start c.args.checks.now c.met_jam.result c.met_jam.ensures
