use Rattle.site_read.proofs.Whole.{bytes_from}
use Rattle.verdict.proofs.Told.{made_told, fault_told}
use Rattle.verdict.proofs.Verdict.of.Goals as goal

pub returns-clause-tells : goal.returns-clause-tells
returns-clause-tells c =
    made_told c.args.file.now (bytes_from c.args.file.now (λ i. (c.type_inv.file i).fits)) c.args.map.now c.judge.result c.judge.ensures.value

pub returns-clause-fault : goal.returns-clause-fault
returns-clause-fault c =
    fault_told c.args.file.now (bytes_from c.args.file.now (λ i. (c.type_inv.file i).fits)) c.args.map.now c.judge.result c.judge.ensures.value
