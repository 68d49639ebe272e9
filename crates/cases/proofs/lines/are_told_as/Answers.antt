use Rattle.std.proofs.Common.{length, arith, rules}
use Rattle.std.proofs.lemmas.List.{length_push}
use Rattle.std.proofs.lemmas.Str.{IsUtf8-nil}
use Rattle.std.proofs.lemmas.Iterator.Consumers.{YieldsList-turn, YieldsList-end}
use Rattle.cases.proofs.InOne.{lines_come, line_taken, other_line, no_line, empty_is}
use Rattle.cases.proofs.lines.are_told_as.Goals as goal

pub loop-line-init : goal.loop-line-init
loop-line-init c = (IsUtf8-nil, c.utf8.told, (λ e. e, λ e. e))

pub returns-in_default : goal.returns-in_default
returns-in_default c =
    let come = lines_come c.args.text.now _ c.lines-line-items.result c.into_iter-line-iterator.ensures.into_iter_gives c.lines-line-items.ensures.rest in
    let turn = YieldsList-turn come c.loop-line.yielded _ c.loop-line.yielded_by _ _ c.in-Some.line c.in-Some.is c.next.ensures.steps in
    let other = other_line _ (length c.loop-line.yielded) c.loop-line.before.now c.in-Some.line.now c.loop-line.rest.now turn c.in_default.ensures in
    (λ e. absurd (search rules), λ e. absurd (other (c.loop-line.invariant.2.0 e)))

pub loop-line-preserved : goal.loop-line-preserved
loop-line-preserved c =
    let come = lines_come c.args.text.now _ c.lines-line-items.result c.into_iter-line-iterator.ensures.into_iter_gives c.lines-line-items.ensures.rest in
    let turn = YieldsList-turn come c.loop-line.yielded _ c.loop-line.yielded_by _ _ c.in-Some.line c.in-Some.is c.next.ensures.steps in
    let taken = line_taken _ (length c.loop-line.yielded) _ c.loop-line.before.now c.in-Some.line.now c.loop-line.rest.now c.in-Some-behind.left.now turn
    (length_push c.loop-line.yielded c.in-Some.line) c.in-Some-behind.ensures in
    (search rules, search rules, (λ e. taken.0 (c.loop-line.invariant.2.0 e), λ e. c.loop-line.invariant.2.1 (taken.1 e)))

pub returns : goal.returns
returns c =
    let come = lines_come c.args.text.now _ c.lines-line-items.result c.into_iter-line-iterator.ensures.into_iter_gives c.lines-line-items.ensures.rest in
    let end = YieldsList-end come c.loop-line.yielded _ c.loop-line.yielded_by _ _ c.in-None.is c.next.ensures.steps in
    let none = no_line _ (length c.loop-line.yielded) c.loop-line.before.now c.loop-line.rest.now (omega (arith, end.1)) in
    let empty = empty_is c.loop-line.rest.now c.is_empty.result c.is_empty.ensures in
    (λ e. c.loop-line.invariant.2.1 (none.1 (empty.0 e)), λ e. empty.1 (none.0 (c.loop-line.invariant.2.0 e)))
