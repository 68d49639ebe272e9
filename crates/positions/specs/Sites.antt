-- The sites of the worked examples. A loop (e, d) may send from its check e on, and must at its check d.
use Rattle.std.specs.Prelude.{ℕ, ◌+◌, ◌-◌, [], ◌∷◌, replicate, Some, None, Option}
use Rattle.site_read.specs.Tables.{Table, by_regions, by_contract}
use Rattle.site_read.specs.Format.{Places}

-- the loop (e, d): it has one region, and every send leads back to it
abbrev pub loop_of : ℕ → ℕ → Option Table
loop_of e d = Some (by_regions (record { earliest = e; deadline = d; targets = replicate (d + 1 - e) 1 } ∷ []))

-- the contract: one or two checks pass between messages, and a message holds the channel for one or two
abbrev pub contract : Option Table
contract = Some (by_contract (record { least_gap = 1; greatest_gap = 2; least_hold = 1; greatest_hold = 2 }))

-- three places, and the fourth is vacant
abbrev pub holding : Option Table → Option Table → Option Table → Places
holding a b c = record { first = a; second = b; third = c; fourth = None }

abbrev pub no_loops : Places
no_loops = holding None None None

abbrev pub always_due : Places
always_due = holding (loop_of 1 1) None None

abbrev pub two_always_due : Places
two_always_due = holding (loop_of 1 1) (loop_of 1 1) None

abbrev pub two_of_two_checks : Places
two_of_two_checks = holding (loop_of 1 2) (loop_of 1 2) None

abbrev pub three_of_two_checks : Places
three_of_two_checks = holding (loop_of 1 2) (loop_of 1 2) (loop_of 1 2)

-- the site of examples/contract-pair.lkt
abbrev pub contract_and_two_checks : Places
contract_and_two_checks = holding contract (loop_of 1 2) None

abbrev pub contract_and_three_checks : Places
contract_and_three_checks = holding contract (loop_of 1 3) None
