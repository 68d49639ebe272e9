-- What the keeper's refusals tell.
use Rattle.std.specs.Prelude.{[]}
use Rattle.traffic.specs.Refusals.{Told}
use Rattle.game.specs.Maps as maps
use Rattle.keeper.specs.declared.slot_fault.SlotFault.{SlotFault}
use Rattle.keeper.specs.declared.slot_fault.SlotFault.TheVariants.{Map, NotPermitted, NoNextState}

abbrev pub told : SlotFault → Told
told (Map f) = maps.told f
told NotPermitted = record { number = 13; values = [] }
told NoNextState = record { number = 14; values = [] }
