use Rattle.std.proofs.Common.{ℕ, ◌+◌, length, Bor, ap, ◌∙◌, arith, rules, tests}
use Rattle.std.proofs.lemmas.Iterator.Consumers.{sum_by_from_yields_List, fits_by_from_yields_list}
use Rattle.site_read.specs.Format.{placed}
use Rattle.loops.specs.declared.place.Place.{Place}
use Rattle.loops.specs.Places.{place_table}
use Rattle.site_write.proofs.Lengths.{mapped, bytes_sum, bytes_few}
use Rattle.site_write.proofs.length.records_len.Goals as goal

pub sum-requires-clause-fits : goal.sum-requires-clause-fits
sum-requires-clause-fits c =
    fits_by_from_yields_list (λ (b : Bor Place). length (placed (place_table b.now))) c.places-places.result c.map.result _
    (mapped _ (λ (b : Bor Place). length (placed (place_table b.now))) c.places-places.result c.map.ensures.source (cc) c.map.ensures.closure (λ y r q k. search (rules, tests)))
    (let few = bytes_few c.args.site.now c.places-places.result c.places-places.ensures in omega arith)

pub returns : goal.returns
returns c =
    let total =
    sum_by_from_yields_List (λ (b : Bor Place). length (placed (place_table b.now))) c.places-places.result c.map.result c.sum.result c.sum.ensures.ran
    (mapped _ (λ (b : Bor Place). length (placed (place_table b.now))) c.places-places.result c.map.ensures.source (cc) c.map.ensures.closure (λ y r q k. search (rules, tests))) in
    let few = bytes_few c.args.site.now c.places-places.result c.places-places.ensures in
    record { value = ap (λ (n : ℕ). 6 + n) total ∙ bytes_sum c.args.site.now c.places-places.result c.places-places.ensures; bound = omega (arith, total) }
