-- What a place holds.
use Rattle.std.specs.Prelude.{Some, None, Option}
use Rattle.site_read.specs.Tables.{Table, by_regions, by_contract}
use Rattle.loops.specs.declared.place.Place.{Place}
use Rattle.loops.specs.declared.place.Place.TheVariants.{Vacant, Region, Contract}
use Rattle.loops.specs.Loading.{gaps_of, table_of}

-- a vacant place holds no table
abbrev pub place_table : Place → Option Table
place_table Vacant = None
place_table (Region x) = Some (by_regions (table_of x))
place_table (Contract x) = Some (by_contract (gaps_of x))
