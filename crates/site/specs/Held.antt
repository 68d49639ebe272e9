-- What four places hold.
use Rattle.std.specs.Prelude.{Bool, true, false, ◌||◌, Some, None, Option}
use Rattle.loops.specs.declared.place.Place.{Place}
use Rattle.loops.specs.Places.{place_table}
use Rattle.site_read.specs.Tables.{Table, by_regions, by_contract}
use Rattle.site_read.specs.Format.{Places}

abbrev pub held_by : Place → Place → Place → Place → Places
held_by a b c d = record { first = place_table a; second = place_table b; third = place_table c; fourth = place_table d }

-- a place, and a site, with a region loop; nothing else takes memory
abbrev pub is_region_loop : Option Table → Bool
is_region_loop None = false
is_region_loop (Some (by_regions rs)) = true
is_region_loop (Some (by_contract g)) = false

abbrev pub has_region_loop : Places → Bool
has_region_loop p = is_region_loop p.first || is_region_loop p.second || is_region_loop p.third || is_region_loop p.fourth

abbrev pub vacant : Places
vacant = record { first = None; second = None; third = None; fourth = None }
