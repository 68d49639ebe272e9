use Rattle.std.proofs.Common.{◌≡◌, ℕ, ◌<◌, ◌≤◌, length, get_or, sym, ◌∙◌, arith}
use Rattle.std.proofs.lemmas.List.Folds.{length-flat_map-take}
use Rattle.site_write.proofs.Pastes.{next_end, next_output}
use Rattle.site_write.proofs.written.put_all.Goals as goal

pub put_at-end-requires : goal.put_at-end-requires
put_at-end-requires g c =
    let f = rw (← c.item-item.is) at (length-flat_map-take g.T.Written.bytes c.args.items.now c.loop-item.item-index c.item-item.result c.loop-item-test.true) in
    omega (arith, f, c.loop-item.invariant.0, c.loop-item.auto.out, c.requires)

pub loop-item-preserved : goal.loop-item-preserved
loop-item-preserved g c =
    let i : ℕ = c.loop-item.item-index in
    let x : g.row.T.Denot = c.item-item.result in
    let at : get_or c.args.items.now i x ≡ x = sym c.item-item.is in
    let h : i < length c.args.items.now = c.loop-item-test.true in
    let f = length-flat_map-take g.T.Written.bytes c.args.items.now i x h in
    let room : c.loop-item.end ≤ length c.args.out.now = omega (arith, f, c.loop-item.invariant.0, c.requires) in
    let e = next_end g.T.Written.bytes c.args.items.now i c.args.at c.loop-item.end x h c.loop-item.invariant.0 in
    let o = next_output g.T.Written.bytes c.args.out.now c.loop-item.out c.args.items.now i c.args.at c.loop-item.end x h c.loop-item.invariant.0 room c.loop-item.invariant.1 in
    (c.put_at-end.ensures.end ∙ (rw at at e), c.put_at-end.ensures.output ∙ (rw at at o))
