-- What synthesis answers with a keeper.
use Rattle.std.specs.Prelude.{ℕ, Ok, Err, Result}
use Rattle.game.specs.declared.solution.Tally.{Tally}
use Rattle.keeper.specs.declared.arming.Armed.{Armed}

-- the keeper is armed at the start where that is safe; a refusal brings none
abbrev pub armed : {E : Type 0} → ℕ → Result Tally E → Result Armed E
armed start (Ok t) = Ok (record { keeper = record { state = start }; tally = t })
armed start (Err e) = Err e
