use Rattle.std.proofs.Common.{◌≡◌, Some, sym, ◌∙◌, arith}
use Rattle.std.proofs.lemmas.Result.{err_from_is_err_and}
use Rattle.traffic.specs.Meaning.{Meaning}
use Rattle.traffic.specs.Answered.{sized, size_of}
use Rattle.traffic.proofs.Asked.{size_is, size_none, size_some}
use Rattle.game.proofs.Admitted.{answer_is, over_limits, short_map, no_such_state, Admitted, not_turned_away, ok_some, err_none}
use Rattle.game.proofs.board.admit.Goals as goal

pub returns-in_err-size : goal.returns-in_err-size
returns-in_err-size g c =
    let M : Meaning = g.T.Traffic.meaning c.args.traffic.now in
    let n = err_none _ _ _ (sym c.ok_or.ensures.value ∙ c.in_err-size.was) in
    let p = err_from_is_err_and c.from_residual.result c.from_residual.ensures.1 in
    rw (p.1, p.2, n.1, over_limits M c.args.marks c.args.state (size_none M (sym c.size.ensures ∙ n.0)))

pub returns-then-marks-size : goal.returns-then-marks-size
returns-then-marks-size g c =
    let M : Meaning = g.T.Traffic.meaning c.args.traffic.now in
    let z = size_some M c.in_ok-size.size (sym c.size.ensures ∙ ok_some _ _ _ (sym c.ok_or.ensures.value ∙ c.in_ok-size.was)) in
    rw (short_map M c.args.marks c.args.state z.0 (omega (arith, z.2)))

pub returns-then-state-size : goal.returns-then-state-size
returns-then-state-size g c =
    let M : Meaning = g.T.Traffic.meaning c.args.traffic.now in
    let z = size_some M c.in_ok-size.size (sym c.size.ensures ∙ ok_some _ _ _ (sym c.ok_or.ensures.value ∙ c.in_ok-size.was)) in
    rw (no_such_state M c.args.marks c.args.state z.0 (omega (arith, z.2)) (omega (arith, z.2)))

pub returns : goal.returns
returns g c =
    let M : Meaning = g.T.Traffic.meaning c.args.traffic.now in
    let told : size_of M ≡ Some c.in_ok-size.size = sym c.size.ensures ∙ ok_some _ _ _ (sym c.ok_or.ensures.value ∙ c.in_ok-size.was) in
    let z = size_some M _ told in
    let same : c.in_ok-size.size ≡ sized M = cc (told, size_is M z.0) in
    let admitted : Admitted M c.args.marks c.args.state = record { limits = z.0; room = omega (arith, z.2); inside = omega (arith, z.2) } in
    answer_is _ _ _ (not_turned_away M c.args.marks c.args.state admitted) same
