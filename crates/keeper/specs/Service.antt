-- What one call does to a keeper and answers, and what a list of calls does.
use Rattle.std.specs.Prelude.{ℕ, List, [], ◌∷◌, length, map, zip, Some, Ok, Err, Result}
use Rattle.traffic.specs.Meaning.{Meaning}
use Rattle.game.specs.Game.{permitted_by}
use Rattle.game.specs.Choice.{pick_by, spoiler_by}
use Rattle.game.specs.Standing.{on}
use Rattle.traffic.specs.Refusals.{unless}
use Rattle.game.specs.Maps.{turned_away}
use Rattle.keeper.specs.declared.slot.Ready.{Ready}
use Rattle.keeper.specs.declared.slot.Waiting.{Waiting}
use Rattle.keeper.specs.declared.slot_fault.SlotFault.{SlotFault}
use Rattle.keeper.specs.declared.slot_fault.SlotFault.TheVariants.{Map}
use Rattle.keeper.specs.declared.service.Keeper.{Keeper}
use Rattle.keeper.specs.declared.service.Keeper.TheVariants.{Ready as AtReady, Waiting as AtWaiting}
use Rattle.keeper.specs.declared.service.Call.{Call}
use Rattle.keeper.specs.declared.service.Call.TheVariants.{Permits, Pick, Grant, Report, PermitsIn, Spoiler}
use Rattle.keeper.specs.declared.service.Answer.{Answer}
use Rattle.keeper.specs.declared.service.Answer.TheVariants.{Permitted, Picked, Granted, Taken, Spoiled, Refused, OutOfTurn}
use Rattle.keeper.specs.declared.service.Exchange.{Exchange}
use Rattle.keeper.specs.Slots.{granted, reported}

abbrev pub after_grant : Result Waiting (SlotFault × Ready) → Keeper × Answer
after_grant (Ok k) = (AtWaiting k, Granted)
after_grant (Err e) = (AtReady e.1, Refused e.0)

abbrev pub after_report : Result Ready (SlotFault × Waiting) → Keeper × Answer
after_report (Ok k) = (AtReady k, Taken)
after_report (Err e) = (AtWaiting e.1, Refused e.0)

-- the calls of a row of exchanges
abbrev pub calls : List Exchange → List Call
calls row = map (λ (x : Exchange). x.call) row

-- the row of these calls, each with its answer
abbrev pub exchanged : List Call → List Answer → List Exchange
exchanged cs said = map both (zip cs said)
  where
    both : Call × Answer → Exchange
    both x = record { call = x.0; answer = Some x.1 }

module _ (M : Meaning) (map : List ℕ) where
  -- what is said of a state
  abbrev pub said : ℕ → Answer → Answer
  said s a = unless (λ f. Refused (Map f)) (turned_away M (length map) s) a

  abbrev pub permits_answer : ℕ → ℕ → Answer
  permits_answer s m = said s (Permitted (permitted_by M (on map) s m))

  abbrev pub pick_answer : ℕ → Answer
  pick_answer s = said s (Picked (pick_by M (on map) s))

  abbrev pub spoiler_answer : ℕ → ℕ → Answer
  spoiler_answer s m = said s (Spoiled (spoiler_by M (on map) s m))

  -- a call out of turn is answered so, and changes nothing
  abbrev pub stepped : Keeper → Call → Keeper × Answer
  stepped (AtReady k) (Permits m) = (AtReady k, permits_answer k.state m)
  stepped (AtReady k) Pick = (AtReady k, pick_answer k.state)
  stepped (AtReady k) (Grant m) = after_grant (granted M map k m)
  stepped (AtReady k) (Report t) = (AtReady k, OutOfTurn)
  stepped (AtReady k) (PermitsIn s m) = (AtReady k, permits_answer s m)
  stepped (AtReady k) (Spoiler s m) = (AtReady k, spoiler_answer s m)
  stepped (AtWaiting k) (Permits m) = (AtWaiting k, OutOfTurn)
  stepped (AtWaiting k) Pick = (AtWaiting k, OutOfTurn)
  stepped (AtWaiting k) (Grant m) = (AtWaiting k, OutOfTurn)
  stepped (AtWaiting k) (Report t) = after_report (reported M map k t)
  stepped (AtWaiting k) (PermitsIn s m) = (AtWaiting k, permits_answer s m)
  stepped (AtWaiting k) (Spoiler s m) = (AtWaiting k, spoiler_answer s m)

  -- the keeper after a list of calls, and the answers in their order
  abbrev pub after_calls : Keeper → List Call → Keeper
  after_calls k [] = k
  after_calls k (c ∷ cs) = after_calls (stepped k c).0 cs

  abbrev pub answers : Keeper → List Call → List Answer
  answers k [] = []
  answers k (c ∷ cs) = (stepped k c).1 ∷ answers (stepped k c).0 cs

  -- a row after its calls
  abbrev pub answered : Keeper → List Exchange → List Exchange
  answered k row = exchanged (calls row) (answers k (calls row))
