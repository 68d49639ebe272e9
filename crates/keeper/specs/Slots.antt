-- What a grant and a report answer, by any map.
use Rattle.std.specs.Prelude.{ℕ, Bool, List, [], ◌∷◌, length, Ok, Err, Option, Result}
use Rattle.std.specs.Option.{option_map, option_or}
use Rattle.traffic.specs.Meaning.{Meaning}
use Rattle.game.specs.declared.map_fault.MapFault.{MapFault}
use Rattle.game.specs.Game.{permitted_by}
use Rattle.game.specs.Standing.{on}
use Rattle.traffic.specs.Refusals.{first_unmet, unless}
use Rattle.game.specs.Maps.{turned_away}
use Rattle.keeper.specs.declared.slot.Ready.{Ready}
use Rattle.keeper.specs.declared.slot.Waiting.{Waiting}
use Rattle.keeper.specs.declared.slot_fault.SlotFault.{SlotFault}
use Rattle.keeper.specs.declared.slot_fault.SlotFault.TheVariants.{Map, NotPermitted, NoNextState}

-- a call on a keeper is turned away for the map, or where its own condition does not hold
abbrev pub slot_fault : Option MapFault → Bool → SlotFault → Option SlotFault
slot_fault away holds fault = option_or (option_map (λ f. Map f) away) (first_unmet ((holds, fault) ∷ []))

-- then the keeper is handed back
abbrev pub unless_handed_back : {K A : Type 0} → K → Option SlotFault → A → Result A (SlotFault × K)
unless_handed_back k away a = unless (λ f. Err (f, k)) away (Ok a)

-- a grant wants a move that is permitted
abbrev pub granted : Meaning → List ℕ → Ready → ℕ → Result Waiting (SlotFault × Ready)
granted M map k m =
    unless_handed_back k (slot_fault (turned_away M (length map) k.state) (permitted_by M (on map) k.state m) NotPermitted)
    (record { state = k.state; mv = m })

-- both the state held and the state reported must be there
abbrev pub unreportable : Meaning → List ℕ → ℕ → ℕ → Option MapFault
unreportable M map s t = option_or (turned_away M (length map) s) (turned_away M (length map) t)

-- a report wants a next state of the granted move
abbrev pub reported : Meaning → List ℕ → Waiting → ℕ → Result Ready (SlotFault × Waiting)
reported M map k t =
    unless_handed_back k (slot_fault (unreportable M map k.state t) (M.leads k.state k.mv t) NoNextState) (record { state = t })
