use Rattle.std.proofs.Common.{◌≡◌, ℕ, List, [], ◌∷◌, ◌++◌, vec_items, Vec, refl, ap, ◌∙◌, arith}
use Rattle.std.proofs.lemmas.Result.{err_from_is_err_and}
use Rattle.std.proofs.lemmas.Slice.{pushed}
use Rattle.std.specs.declared.alloc.Global.{Global}
use Rattle.site_read.proofs.Sound.{rows_ok}
use Rattle.site_read.specs.Parse.{Parsed, many, value_of}
use Rattle.site_read.specs.Tables.{Row}
use Rattle.site_read.specs.Fields.{row}
use Rattle.loops.specs.declared.region.Region.{Region}
use Rattle.loops.specs.Regions.{row_of, rows_of, numbered}
use Rattle.loops.specs.States.{deadlines}
use Rattle.loops.proofs.Fill.{fill_turn, fill_stops, fill_all, stops}
use Rattle.loops.proofs.Numbered.{numbered_push, deadlines_push}
use Rattle.loops.proofs.region_loop.load.load_rows.Goals as goal

pub returns-in_err-region : goal.returns-in_err-region
returns-in_err-region c =
    let p = err_from_is_err_and c.from_residual.result c.from_residual.ensures.1 in
    let one : List ℕ → Parsed Row = row c.args.reader.record.place c.args.reader.record.size c.args.reader.count in
    rw (p.1, p.2)
    (record {
      read =
          stops row_of (λ (p : Vec Region Global × ℕ). rows_of (vec_items p.0)) (one c.loop.left.now) (value_of (many one c.args.reader.count c.args.rest.now)) c.in_err-region.field-0.0
          (λ e h. ap value_of (c.loop.invariant.0 ∙ fill_stops one (rows_of (vec_items c.loop.regions)) c.args.reader.count c.loop.counter c.loop.left.now e (omega arith) h))
          c.in_err-region.ensures.read;
      lawful = λ lo hi. tt;
      counted = tt;
    })

pub loop-preserved : goal.loop-preserved
loop-preserved c =
    let one : List ℕ → Parsed Row = row c.args.reader.record.place c.args.reader.record.size c.args.reader.count in
    let r : Region = c.in_ok-region.region in
    let was : List Region = vec_items c.loop.regions in
    let inv = c.loop.invariant in
    let got = c.in_ok-region.ensures in
    let now : vec_items c.push.new.self ≡ was ++ r ∷ [] = pushed (r ∷ []) refl c.in_ok-push.was c.push.ensures.items in
    let d : c.from-states.result ≡ r.deadline = c.from-states.ensures in
    let few = got.numbered in (
      inv.0
          ∙ fill_turn one row_of was (vec_items c.push.new.self) r c.args.reader.count c.loop.counter c.loop.left.now c.in_ok-region.after.now (omega arith) got.read now,
      ap (numbered 0) now ∙ numbered_push 0 was r inv.1 (omega (arith, few.0, inv.2)),
      omega (arith, d, inv.2, ap (λ (l : List Region). deadlines (rows_of l)) now, deadlines_push was r),
      omega (arith, d, inv.3, few.1),
    )

-- what was read is lawful
pub returns-clause-lawful : goal.returns-clause-lawful
returns-clause-lawful c =
    let one : List ℕ → Parsed Row = row c.args.reader.record.place c.args.reader.record.size c.args.reader.count in
    let rows : List Row = rows_of (vec_items c.loop.regions) in
    λ lo hi.
    rows_ok c.args.reader.record.place c.args.reader.record.size c.args.reader.count c.args.rest.now rows lo hi
    (ap value_of (c.loop.invariant.0 ∙ fill_all one rows c.args.reader.count c.loop.counter c.loop.left.now (omega arith)))
