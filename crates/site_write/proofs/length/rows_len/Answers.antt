use Rattle.std.proofs.Common.{vec_items, ◌∙◌, arith, rules, tests}
use Rattle.std.proofs.lemmas.Iterator.{YieldsList-from_slice}
use Rattle.std.proofs.lemmas.Iterator.Adapters.{serves_from_places}
use Rattle.std.proofs.lemmas.Iterator.Consumers.{sum_by_from_yields_List, fits_by_from_yields_list}
use Rattle.loops.proofs.Bounds.{few_targets}
use Rattle.site_write.proofs.Lengths.{mapped, row_length, rows_length, rows_short}
use Rattle.site_write.proofs.length.rows_len.Goals as goal

pub sum-requires-clause-can : goal.sum-requires-clause-can
sum-requires-clause-can c =
    (tt, serves_from_places (YieldsList-from_slice (vec_items c.args.x.now.regions) cc) (λ y q r. search rules) (λ y k l e. few_targets c.args.x.now k y.now l e))

pub sum-requires-clause-fits : goal.sum-requires-clause-fits
sum-requires-clause-fits c =
    fits_by_from_yields_list row_length (vec_items c.args.x.now.regions) c.map.result _
    (mapped _ row_length (vec_items c.args.x.now.regions) c.map.ensures.source (cc) c.map.ensures.closure (λ y r q k. search (rules, tests)))
    (let s = rows_short c.args.x.now in omega arith)

pub returns : goal.returns
returns c =
    let total =
    sum_by_from_yields_List row_length (vec_items c.args.x.now.regions) c.map.result c.sum.result c.sum.ensures.ran
    (mapped _ row_length (vec_items c.args.x.now.regions) c.map.ensures.source (cc) c.map.ensures.closure (λ y r q k. search (rules, tests))) in
    let short = rows_short c.args.x.now in
    record { value = total ∙ rows_length c.args.x.now; bound = omega (arith, total) }
