use Rattle.site_read.proofs.Whole.{bytes_from}
use Rattle.site_read.proofs.FileBytes.{file_fields}
use Rattle.site_read.proofs.SiteFaults.{records_told}
use Rattle.site_read.proofs.records.read_records.Goals as goal

pub returns-clause-faults : goal.returns-clause-faults
returns-clause-faults c =
    records_told c.args.file.now (bytes_from c.args.file.now (λ i. (c.type_inv.file i).fits)) c.split_records.result c.split_records.ensures

pub returns-clause-fields : goal.returns-clause-fields
returns-clause-fields c = file_fields
