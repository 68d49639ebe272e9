use Rattle.std.proofs.Common.{◌∙◌, drop, length, length-drop, sym, arith, min, ◌≡◌}
use Rattle.cases.proofs.Ends.{no_difference}
use Rattle.cases.proofs.difference.first_difference.Goals as goal

pub returns : goal.returns
returns c =
    let none_left : min (length (drop c.loop-place.place c.args.map.now)) (length (drop c.loop-place.place c.args.expected.now)) ≡ 0 =
    simp length-drop (omega arith) in
    sym (no_difference c.loop-place.place _ _ none_left) ∙ c.loop-place.invariant
