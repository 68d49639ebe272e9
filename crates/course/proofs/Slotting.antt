-- Slots from a state of mark 0.
use Rattle.std.proofs.Common.{◌≡◌, ℕ, suc, ◌<◌, true, eqb, List, Some, None, Option, sym, refl, ap, ◌∙◌}
use Rattle.std.proofs.Math.Path.{fun_ext}
use Rattle.std.specs.Option.{option_or}
use Rattle.std.proofs.lemmas.Bool.{both_ways}
use Rattle.traffic.specs.Searches.{least, or_zero}
use Rattle.traffic.specs.Meaning.{Meaning, Lawful, legal}
use Rattle.game.specs.Game.{mark, permitted, permitted_by}
use Rattle.game.specs.Choice.{pick_by}
use Rattle.game.specs.Standing.{on}
use Rattle.game.specs.Maps.{Filled}
use Rattle.game.proofs.Kept.{legal_low, keeps_same}
use Rattle.game.proofs.Rounds.{unmarked_lasts}
use Rattle.game.proofs.Rules.{permitted_legal, lasts_permitted}
use Rattle.game.proofs.Choosing.{pick_found, pick_absent, spoiler_same}
use Rattle.game.proofs.Sustained.{by_next}
use Rattle.course.specs.Plants.{reply_by}
use Rattle.course.specs.Slots.{picked, slot}
use Rattle.course.proofs.Replying.{replied}

module _ (M : Meaning) (law : Lawful M) (s : ℕ) (inside : s < M.states) (unmarked : mark M s ≡ 0) where
  some_pick : (m : ℕ) × (pick_by M (mark M) s ≡ Some m) × (permitted M s m ≡ true)
  some_pick = go _ refl
    where
      go : (o : Option ℕ) → pick_by M (mark M) s ≡ o → (m : ℕ) × (pick_by M (mark M) s ≡ Some m) × (permitted M s m ≡ true)
      go (Some m) e = (m, e, (pick_found M (mark M) s m e).0)
      go None e =
          let w = lasts_permitted M s (unmarked_lasts M s inside unmarked) in
          absurd (both_ways _ (pick_absent M (mark M) s e w.0 (legal_low M law s w.0 (permitted_legal M s w.0 w.1))) w.1)

  -- there is a pick,
  pub picked_is : pick_by M (mark M) s ≡ Some (picked M s)
  picked_is = let w = some_pick in w.1 ∙ ap Some (sym (ap or_zero w.1))

  pub picked_permitted : permitted M s (picked M s) ≡ true
  picked_permitted = (pick_found M (mark M) s (picked M s) picked_is).0

  pub picked_legal : legal M s (picked M s) ≡ true
  picked_legal = permitted_legal M s (picked M s) picked_permitted

  some_reply : (t : ℕ) × (reply_by M (mark M) s (picked M s) ≡ Some t) × (M.leads s (picked M s) t ≡ true) × (t < M.states)
  some_reply = replied M s (picked M s) law picked_legal (mark M)

  -- and there is a reply, a state of mark 0 again
  pub next_is : reply_by M (mark M) s (picked M s) ≡ Some (slot M s).next
  next_is = let w = some_reply in w.1 ∙ ap Some (sym (ap or_zero w.1))

  same_next : some_reply.0 ≡ (slot M s).next
  same_next = sym (ap or_zero some_reply.1)

  pub next_leads : M.leads s (picked M s) (slot M s).next ≡ true
  next_leads = ap (M.leads s (picked M s)) (sym same_next) ∙ some_reply.2

  pub next_inside : (slot M s).next < M.states
  next_inside = (law.leads_within s (picked M s) (slot M s).next next_leads).2

  pub next_unmarked : mark M (slot M s).next ≡ 0
  next_unmarked = by_next M (mark M) s (picked M s) (slot M s).next picked_permitted next_inside next_leads

-- on a filled map the pick and the reply are those of the game
module _ (M : Meaning) (map : List ℕ) (full : Filled M map) (s : ℕ) where
  pub same_permitted : (m : ℕ) → permitted_by M (on map) s m ≡ permitted_by M (mark M) s m
  unfolding permitted_by
  same_permitted m =
      keeps_same M (λ t. eqb (on map t) 0) (λ t. eqb (mark M t) 0) (λ t h. ap (λ k. eqb k 0) (full t h)) s m

  pub pick_same : pick_by M (on map) s ≡ pick_by M (mark M) s
  unfolding pick_by
  pick_same = ap (λ p. least p 0 (suc M.loops)) (fun_ext same_permitted)

  pub reply_same : (m : ℕ) → reply_by M (on map) s m ≡ reply_by M (mark M) s m
  unfolding reply_by
  reply_same m = ap (λ o. option_or o (least (M.leads s m) 0 M.states)) (spoiler_same M (on map) (mark M) full s m)
