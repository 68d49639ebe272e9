use Rattle.std.proofs.Common.{ℕ, List}
use Rattle.site_read.specs.Format.{Bytes}
use Rattle.site_read.proofs.Whole.{bytes_from}
use Rattle.site.proofs.Assembled.{by_records, accepted, file_is_read, fault_is_told}
use Rattle.site.proofs.site.Site.read.Goals as goal

pub returns : goal.returns
returns c =
    let file : List ℕ = c.args.file.now in
    let h : Bytes file = bytes_from file (λ i. (c.type_inv.file i).fits) in
    let q = by_records file h c.from_records.result c.from_records.ensures in
    record { read = q; accepted = accepted file h c.from_records.result q; file = file_is_read file c.from_records.result q; fault = fault_is_told file h c.from_records.result q }
