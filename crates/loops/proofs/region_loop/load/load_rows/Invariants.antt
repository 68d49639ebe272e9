use Rattle.std.proofs.Common.{◌≡◌, ◌-◌, ◌*◌, ◌≤◌, true, vec_items}
use Rattle.site_read.specs.Parse.{many}
use Rattle.site_read.specs.Fields.{row}
use Rattle.loops.specs.Regions.{rows_of, numbered}
use Rattle.loops.specs.States.{deadlines}
use Rattle.loops.proofs.Fill.{behind}
use Rattle.loops.proofs.region_loop.load.load_rows.Given as goal

abbrev pub invariant-loop : goal.invariant-loop
invariant-loop l =
    (many (row l.reader.record.place l.reader.record.size l.reader.count) l.reader.count l.rest
    ≡ behind (rows_of (vec_items l.regions)) (many (row l.reader.record.place l.reader.record.size l.reader.count) (l.reader.count - l.counter) l.left))
    × (numbered 0 (vec_items l.regions) ≡ true)
    × (l.states ≡ deadlines (rows_of (vec_items l.regions)))
    × (l.states ≤ 64 * l.counter)
