use Rattle.std.proofs.Common.{[], ◌∷◌, vec_items, sym, refl, ◌∙◌, arith}
use Rattle.std.proofs.lemmas.Result.{err_from_is_err_and}
use Rattle.std.proofs.lemmas.Slice.{pushed}
use Rattle.loops.specs.declared.region.RegionSet.{RegionSet}
use Rattle.loops.specs.Regions.{sets_of}
use Rattle.site_read.specs.Fields.{target_set}
use Rattle.loops.proofs.Fill.{fill_turn, fill_stops}
use Rattle.loops.proofs.region.load.load_sets.Goals as goal

pub returns-in_err-set : goal.returns-in_err-set
returns-in_err-set c =
    let p = err_from_is_err_and c.from_residual.result c.from_residual.ensures.1 in
    let one = target_set c.args.reader.record.place c.args.reader.record.size c.args.reader.count in
    rw (p.1, p.2)
    (c.loop.invariant ∙ fill_stops one (sets_of c.loop.sets) c.args.n c.loop.counter c.loop.left.now c.in_err-set.field-0.0 (omega arith) (sym c.in_err-set.ensures))

pub loop-preserved : goal.loop-preserved
loop-preserved c =
    let x : RegionSet = record { 0 = c.in_ok-set.set } in
    let one = target_set c.args.reader.record.place c.args.reader.record.size c.args.reader.count in
    c.loop.invariant
    ∙ fill_turn one (λ (s : RegionSet). s.0) (vec_items c.loop.sets) (vec_items c.push.new.self) x c.args.n c.loop.counter c.loop.left.now c.in_ok-set.after.now (omega arith) (sym c.in_ok-set.ensures)
    (pushed (x ∷ []) refl c.in_ok-push.was c.push.ensures.items)
