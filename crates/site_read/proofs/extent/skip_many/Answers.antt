use Rattle.std.proofs.Common.{Ok, Err, sym, ◌∙◌, arith}
use Rattle.std.proofs.lemmas.Result.{err_from_is_err_and}
use Rattle.site_read.proofs.Many.{skips_turn}
use Rattle.site_read.proofs.extent.skip_many.Goals as goal

pub returns-in_err-left : goal.returns-in_err-left
returns-in_err-left g c =
    let p = err_from_is_err_and c.from_residual.result c.from_residual.ensures.1 in
    rw (p.1, p.2)
    (λ part each.
    sym
    (c.loop.invariant.1 part each
    ∙ skips_turn part c.args.n c.loop.counter c.loop.left.now (Err c.in_err-left.field-0.0) (omega arith)
    (each c.loop.left (Err c.in_err-left.field-0.0) c.in_err-left.ensures)))

pub loop-preserved : goal.loop-preserved
loop-preserved g c = (
  c.loop.invariant.0,
  λ part each.
      c.loop.invariant.1 part each
      ∙ skips_turn part c.args.n c.loop.counter c.loop.left.now (Ok c.in_ok-left.left.now) (omega arith)
      (each c.loop.left (Ok c.in_ok-left.left) c.in_ok-left.ensures),
)
