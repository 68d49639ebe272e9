use Rattle.std.proofs.Common.{◌+◌, None, refl, ap, ◌∙◌, arith, length-set}
use Rattle.std.proofs.lemmas.List.FromFn.{fill_by_all}
use Rattle.course.specs.declared.account.Sends.{Sends}
use Rattle.course.specs.Account.{sends_told}
use Rattle.course.proofs.SendsTold.{told_more}
use Rattle.course.proofs.account.Sends.of.Goals as goal

pub loop-place-init : goal.loop-place-init
loop-place-init g c = (refl, λ k h. absurd (omega arith))

pub loop-place-preserved : goal.loop-place-preserved
loop-place-preserved g c = (
  length-set _ _ _ ∙ c.loop-place.invariant.0,
  told_more (sends_told c.loops_of-loops.result c.args.checks.now) _ _ _ c.loop-place.auto.place (omega (arith, c.loop-place.invariant.0)) c.told_of.ensures c.loop-place.invariant.1,
)

pub returns : goal.returns
returns g c =
    ap (λ row. let s : Sends = record { counts = row } in s)
    (fill_by_all (λ k. sends_told _ c.args.checks.now (k + 1)) c.loop-place.counts 8 None c.loop-place.invariant.0
    (λ k h. c.loop-place.invariant.1 k (omega arith) ∙ ap (λ n. sends_told n c.args.checks.now (k + 1)) c.loops_of-loops.ensures))
