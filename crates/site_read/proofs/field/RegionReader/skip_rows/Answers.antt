use Rattle.std.proofs.Common.{◌∙◌, rules}
use Rattle.site_read.specs.Parse.{rest_of}
use Rattle.site_read.specs.Fields.{row}
use Rattle.site_read.proofs.Many.{skips_many}
use Rattle.site_read.proofs.field.RegionReader.skip_rows.Goals as goal

pub returns : goal.returns
returns c =
    let p = row c.args.self.record.place c.args.self.record.size c.args.self.count in
    c.skip_many.ensures (λ b. rest_of (p b)) (λ bs r h. search rules) ∙ skips_many p c.args.self.count c.args.rest.now
