use Rattle.std.proofs.lemmas.Result.{err_from_is_err_and}
use Rattle.site_read.specs.Records.{pieces_of}
use Rattle.site_read.proofs.Whole.{bytes_from}
use Rattle.loops.specs.Places.{place_table}
use Rattle.site.specs.Held.{held_by}
use Rattle.site.proofs.Assembled.{assembled, read_in_order, first_stops, second_stops, third_stops, fourth_stops}
use Rattle.site.proofs.site.Site.from_records.Goals as goal

pub invariant_of-result : goal.invariant_of-result
invariant_of-result c = record {
  order = read_in_order c.args.file.now (bytes_from c.args.file.now (λ i. (c.type_inv.file i).fits))
      (held_by c.in_ok-first.first c.in_ok-second.second c.in_ok-third.third c.in_ok-fourth.fourth)
      (assembled c.args.file.now (pieces_of c.in_ok-found.found)
      (place_table c.in_ok-first.first) (place_table c.in_ok-second.second) (place_table c.in_ok-third.third) (place_table c.in_ok-fourth.fourth)
      c.in_ok-found.ensures.parsed c.in_ok-first.ensures c.in_ok-second.ensures c.in_ok-third.ensures c.in_ok-fourth.ensures);
}

pub returns-in_err-first : goal.returns-in_err-first
returns-in_err-first c =
    let p = err_from_is_err_and c.from_residual-in_err-first.result c.from_residual-in_err-first.ensures.1 in
    rw (p.1, p.2)
    (first_stops c.args.file.now (bytes_from c.args.file.now (λ i. (c.type_inv.file i).fits)) (pieces_of c.in_ok-found.found) c.in_ok-found.ensures.parsed c.in_err-first.field-0.0 c.in_err-first.ensures)

pub returns-in_err-second : goal.returns-in_err-second
returns-in_err-second c =
    let p = err_from_is_err_and c.from_residual-in_err-second.result c.from_residual-in_err-second.ensures.1 in
    rw (p.1, p.2)
    (second_stops c.args.file.now (bytes_from c.args.file.now (λ i. (c.type_inv.file i).fits)) (pieces_of c.in_ok-found.found) c.in_ok-found.ensures.parsed c.in_err-second.field-0.0 c.in_err-second.ensures)

pub returns-in_err-third : goal.returns-in_err-third
returns-in_err-third c =
    let p = err_from_is_err_and c.from_residual-in_err-third.result c.from_residual-in_err-third.ensures.1 in
    rw (p.1, p.2)
    (third_stops c.args.file.now (bytes_from c.args.file.now (λ i. (c.type_inv.file i).fits)) (pieces_of c.in_ok-found.found) c.in_ok-found.ensures.parsed c.in_err-third.field-0.0 c.in_err-third.ensures)

pub returns-in_err-fourth : goal.returns-in_err-fourth
returns-in_err-fourth c =
    let p = err_from_is_err_and c.from_residual-in_err-fourth.result c.from_residual-in_err-fourth.ensures.1 in
    rw (p.1, p.2)
    (fourth_stops c.args.file.now (bytes_from c.args.file.now (λ i. (c.type_inv.file i).fits)) (pieces_of c.in_ok-found.found) c.in_ok-found.ensures.parsed c.in_err-fourth.field-0.0 c.in_err-fourth.ensures)
