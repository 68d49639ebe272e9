use Rattle.std.proofs.Common.{arith}
use Rattle.loops.specs.Regions.{sets_of}
use Rattle.loops.proofs.Bounds.{set_count}
use Rattle.site_write.proofs.Pastes.{words_length}
use Rattle.site_write.proofs.length.region_len.Goals as goal

pub returns : goal.returns
returns c =
    let w = words_length (sets_of c.args.region.now.targets) in
    let n = set_count c.args.region.now.targets in
    omega arith
