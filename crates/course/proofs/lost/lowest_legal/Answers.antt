use Rattle.std.proofs.Common.{◌≤◌, sym, arith}
use Rattle.traffic.specs.Found.{least_is_none}
use Rattle.course.proofs.Legals.{legal_here, none_more}
use Rattle.course.proofs.lost.lowest_legal.Goals as goal

pub loop-mv-init : goal.loop-mv-init
loop-mv-init g c k h = absurd (omega arith)

pub returns-then-is_legal : goal.returns-then-is_legal
returns-then-is_legal g c =
    let low : c.loop-mv.mv ≤ c.args.loops = omega arith in
    legal_here _ _ _ _ _ c.requires.limits c.requires.loops low c.loop-mv.invariant c.is_legal.ensures c.if-is_legal.true

pub loop-mv-preserved : goal.loop-mv-preserved
loop-mv-preserved g c = none_more _ _ _ _ c.requires.limits c.loop-mv.invariant c.is_legal.ensures c.if-is_legal.false

pub returns-else-is_legal : goal.returns-else-is_legal
returns-else-is_legal g c =
    let all : c.args.loops ≤ c.loop-mv.mv = omega arith in
    sym
    (least_is_none _ _ 0
    (λ u a b. none_more _ _ _ _ c.requires.limits c.loop-mv.invariant c.is_legal.ensures c.if-is_legal.false u (omega (arith, c.requires.loops))))
