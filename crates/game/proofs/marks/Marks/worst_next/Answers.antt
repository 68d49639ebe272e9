use Rattle.std.proofs.Common.{◌≡◌, ◌∙◌, ◌<◌, ◌≤◌, length, IfSome, subst, sym, arith, rules}
use Rattle.game.specs.Standing.{on}
use Rattle.game.specs.Choice.{ahead}
use Rattle.traffic.specs.Meaning.{Meaning}
use Rattle.traffic.proofs.Asked.{within_parts}
use Rattle.game.proofs.Choosing.{passing_at, passing_inside, passing_passed, passing_kept, passing_replaced, passing_over}
use Rattle.game.proofs.marks.Marks.worst_next.Goals as goal
use Rattle.game.proofs.marks.Marks.worst_next.Goals.{else-map-t-gt0-via-then-map-t-gt0+else-is_none_or, else-map-t-gt0-via-else-map-t-gt0}

pub offset_bounds-map-t : goal.offset_bounds-map-t
offset_bounds-map-t g c =
    let M : Meaning = g.T.Traffic.meaning c.args.self.now.bounded.traffic.now in
    let few = (within_parts M c.args.self.now.bounded.limits).0 in
    let high = passing_at _ _ _ _ _ _ _ _ c.loop-t.invariant c.in-Some.ensures.steps in
    search rules

pub bounds-map-t : goal.bounds-map-t
bounds-map-t g c =
    let high = passing_at _ _ _ _ _ _ _ _ c.loop-t.invariant c.in-Some.ensures.steps in omega arith

pub is_none_or-requires : goal.is_none_or-requires
is_none_or-requires g c =
    let M : Meaning = g.T.Traffic.meaning c.args.self.now.bounded.traffic.now in
    let few = (within_parts M c.args.self.now.bounded.limits).0 in
    let high = passing_at _ _ _ _ _ _ _ _ c.loop-t.invariant c.in-Some.ensures.steps in
    let room : M.states ≤ length c.args.self.now.map.now = omega arith in
    let all = passing_inside _ _ _ _ (g.met.T.Traffic.lawful c.args.self.now.bounded.traffic.now) _ _ _ room c.loop-t.invariant in
    λ x e.
    let low : x < length c.args.self.now.map.now = subst (λ o. IfSome o (λ w. w < length c.args.self.now.map.now)) e all in
    let here : c.in-Some.t < length c.args.self.now.map.now = omega arith in
    search rules

pub loop-t-preserved-then-is_none_or : goal.loop-t-preserved-then-is_none_or
loop-t-preserved-then-is_none_or g c =
    let first : c.is_none_or.result ≡ ahead (on c.args.self.now.map.now) c.in-Some.t c.loop-t.worst = search rules in
    passing_replaced _ _ _ _ _ _ _ _ c.loop-t.invariant c.in-Some.ensures.steps c.if-map-t-gt0.true (sym first ∙ c.if-is_none_or.true)

pub loop-t-preserved : goal.loop-t-preserved
loop-t-preserved g c =
    elim c.else-map-t-gt0.branch [
      | else-map-t-gt0-via-then-map-t-gt0+else-is_none_or w ↦
          let first : w.is_none_or.result ≡ ahead (on c.args.self.now.map.now) c.in-Some.t c.loop-t.worst = search rules in
          passing_kept _ _ _ _ _ _ _ _ c.loop-t.invariant c.in-Some.ensures.steps (sym first ∙ w.if-is_none_or.false)
      | else-map-t-gt0-via-else-map-t-gt0 w ↦
          passing_passed _ _ _ _ _ _ _ _ c.loop-t.invariant c.in-Some.ensures.steps w.if-map-t-gt0.false
    ]

pub returns : goal.returns
returns g c =
    passing_over _ _ _ _ (g.met.T.Traffic.lawful c.args.self.now.bounded.traffic.now) _ _ c.args.self.now.bounded.limits c.loop-t.invariant c.in-None.ensures.steps.0
