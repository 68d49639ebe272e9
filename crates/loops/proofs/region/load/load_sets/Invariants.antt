use Rattle.std.proofs.Common.{◌≡◌, ◌-◌}
use Rattle.site_read.specs.Parse.{many}
use Rattle.site_read.specs.Fields.{target_set}
use Rattle.loops.specs.Regions.{sets_of}
use Rattle.loops.proofs.Fill.{behind}
use Rattle.loops.proofs.region.load.load_sets.Given as goal

abbrev pub invariant-loop : goal.invariant-loop
invariant-loop l =
    many (target_set l.reader.record.place l.reader.record.size l.reader.count) l.n l.rest
    ≡ behind (sets_of l.sets) (many (target_set l.reader.record.place l.reader.record.size l.reader.count) (l.n - l.counter) l.left)
