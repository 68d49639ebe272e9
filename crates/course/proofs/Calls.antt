-- The calls of a slot, on a filled map and in a state of mark 0.
use Rattle.std.proofs.Common.{◌≡◌, ℕ, List, length, Some, None, Ok, Err, Option, Result, ap, ap₂, ◌∙◌}
use Rattle.std.specs.Option.{option_or}
use Rattle.traffic.specs.Meaning.{Meaning, Lawful}
use Rattle.game.specs.declared.map_fault.MapFault.{MapFault}
use Rattle.game.specs.Choice.{pick_by}
use Rattle.game.specs.Standing.{on}
use Rattle.traffic.specs.Refusals.{unless}
use Rattle.game.specs.Maps.{turned_away, unless_turned_away}
use Rattle.game.proofs.Admitted.{not_turned_away}
use Rattle.keeper.specs.declared.slot.Ready.{Ready}
use Rattle.keeper.specs.declared.slot.Waiting.{Waiting}
use Rattle.keeper.specs.declared.slot_fault.SlotFault.TheVariants.{NotPermitted, NoNextState}
use Rattle.keeper.specs.Slots.{slot_fault, unless_handed_back, granted, reported}
use Rattle.course.specs.declared.check.Check.{Check}
use Rattle.course.specs.Plants.{reply_by}
use Rattle.course.specs.Slots.{SafeOn, picked, slot}
use Rattle.course.proofs.Slotting.{same_permitted, pick_same, reply_same, picked_is, picked_permitted, next_is, next_leads, next_inside, next_unmarked}

module _ (M : Meaning) (law : Lawful M) (map : List ℕ) (s : ℕ) (by : SafeOn M map s) where
  pub open_in : turned_away M (length map) s ≡ None
  open_in = not_turned_away M (length map) s (record { limits = by.limits; room = by.room; inside = by.inside })

  -- the keeper may be ready in the next state
  pub goes_on : SafeOn M map (slot M s).next
  goes_on = record {
    limits = by.limits;
    room = by.room;
    full = by.full;
    inside = next_inside M law s by.inside by.unmarked;
    unmarked = next_unmarked M law s by.inside by.unmarked;
  }

module _ (M : Meaning) (law : Lawful M) (map : List ℕ) (s : ℕ) (by : SafeOn M map s) where
  pub pick_answer : unless_turned_away M map s (pick_by M (on map) s) ≡ Ok (Some (picked M s))
  pick_answer =
      ap (λ o. unless Err o (Ok (pick_by M (on map) s))) (open_in M law map s by)
      ∙ ap Ok (pick_same M map by.full s ∙ picked_is M law s by.inside by.unmarked)

  pub grant_answer : granted M map (record { state = s }) (picked M s) ≡ Ok (record { state = s; mv = picked M s })
  grant_answer =
      ap₂ (λ o b. unless_handed_back (record { state = s }) (slot_fault o b NotPermitted) (record { state = s; mv = picked M s }))
      (open_in M law map s by)
      (same_permitted M map by.full s (picked M s) ∙ picked_permitted M law s by.inside by.unmarked)

  pub reply_answer : reply_by M (on map) s (picked M s) ≡ Some (slot M s).next
  reply_answer = reply_same M map by.full s (picked M s) ∙ next_is M law s by.inside by.unmarked

  pub report_answer : reported M map (record { state = s; mv = picked M s }) (slot M s).next ≡ Ok (record { state = (slot M s).next })
  report_answer =
      let there = open_in M law map (slot M s).next (goes_on M law map s by) in
      ap (λ o. unless_handed_back (record { state = s; mv = picked M s }) (slot_fault (option_or o (turned_away M (length map) (slot M s).next)) (M.leads s (picked M s) (slot M s).next) NoNextState) (record { state = (slot M s).next }))
      (open_in M law map s by)
      ∙ ap₂ (λ o b. unless_handed_back (record { state = s; mv = picked M s }) (slot_fault o b NoNextState) (record { state = (slot M s).next }))
      there
      (next_leads M law s by.inside by.unmarked)

  -- the same, of what the calls are given
  pub picked_mv : (r : Result (Option ℕ) MapFault) (o : Option ℕ) (mv : ℕ) → r ≡ unless_turned_away M map s (pick_by M (on map) s) → r ≡ Ok o → o ≡ Some mv → mv ≡ picked M s
  picked_mv r o mv e f h = let a = pick_answer in cc

  pub granted_is : (mv : ℕ) → mv ≡ picked M s → granted M map (record { state = s }) mv ≡ Ok (record { state = s; mv = picked M s })
  granted_is mv e = ap (granted M map (record { state = s })) e ∙ grant_answer

  pub replied_is : (t mv : ℕ) → t ≡ s → mv ≡ picked M s → reply_by M (on map) t mv ≡ Some (slot M s).next
  replied_is t mv e f = ap₂ (reply_by M (on map)) e f ∙ reply_answer

  pub reported_is : (k : Waiting) (t : ℕ) → k ≡ record { state = s; mv = picked M s } → t ≡ (slot M s).next → reported M map k t ≡ Ok (record { state = (slot M s).next })
  reported_is k t e f = ap₂ (reported M map) e f ∙ report_answer

  pub slot_is : (k : Ready) (t mv next : ℕ) → t ≡ s → mv ≡ picked M s → next ≡ (slot M s).next → k ≡ record { state = (slot M s).next } → ◌≡◌ {A = Ready × Check} (k, record { state = t; mv = mv; next = next }) (record { state = (slot M s).next }, slot M s)
  slot_is k t mv next e f h q = cc

  pub still_safe : (r : Ready × Check) → r ≡ (record { state = (slot M s).next }, slot M s) → SafeOn M map r.0.state
  still_safe r e = rw e (goes_on M law map s by)

-- one call has one answer
module _ {A E : Type 0} where
  pub ok_is : (r : Result A E) (a b : A) → r ≡ Ok a → r ≡ Ok b → b ≡ a
  ok_is r a b e f = cc

  pub no_refusal : (r : Result A E) (a : A) (x : E) → r ≡ Ok a → r ≡ Err x → ⊥
  no_refusal r a x e f = cc

module _ {A : Type 0} where
  pub some_is : (o : Option A) (a b : A) → o ≡ Some a → o ≡ Some b → b ≡ a
  some_is o a b e f = cc

  pub not_absent : (o : Option A) (a : A) → o ≡ Some a → o ≡ None → ⊥
  not_absent o a e f = cc
