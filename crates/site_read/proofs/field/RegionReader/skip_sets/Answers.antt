use Rattle.std.proofs.Common.{◌∙◌, rules}
use Rattle.site_read.specs.Parse.{rest_of}
use Rattle.site_read.specs.Fields.{target_set}
use Rattle.site_read.proofs.Many.{skips_many}
use Rattle.site_read.proofs.field.RegionReader.skip_sets.Goals as goal

pub returns : goal.returns
returns c =
    let p = target_set c.args.self.record.place c.args.self.record.size c.args.self.count in
    c.skip_many.ensures (λ b. rest_of (p b)) (λ bs r h. search rules) ∙ skips_many p c.args.n c.args.rest.now
