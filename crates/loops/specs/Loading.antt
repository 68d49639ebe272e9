-- What a loader answers: what the parser reads, and the bytes that are left; the parser's fault; or want of memory.
use Rattle.std.specs.Prelude.{◌≡◌, ℕ, List, Some, None, Ok, Err, vec_items, Option, Result}
use Rattle.std.specs.Borrow.{Bor}
use Rattle.site_read.specs.declared.fault.Fault.{Fault}
use Rattle.site_read.specs.Parse.{Parsed}
use Rattle.site_read.specs.declared.fault.Report.{Report}
use Rattle.site_read.specs.Faults.{report}
use Rattle.site_read.specs.Tables.{Row, Gaps, Table, by_regions}
use Rattle.site_read.specs.Records.{gaps_in}
use Rattle.loops.specs.declared.load_fault.LoadFault.{LoadFault}
use Rattle.loops.specs.declared.load_fault.LoadFault.TheVariants.{File, Memory}
use Rattle.loops.specs.declared.contract_loop.ContractLoop.{ContractLoop}
use Rattle.loops.specs.declared.region_loop.RegionLoop.{RegionLoop}
use Rattle.loops.specs.Regions.{rows_of}

-- what a refused load is reported by; want of memory has no number, and is none of the file's doing
abbrev pub load_report : LoadFault → Option Report
load_report (File e) = Some (report e)
load_report Memory = None

-- of a table and the rest of the file
abbrev pub Loads : {Y X : Type 0} → (Y → X) → Parsed X → Result (Y × Bor (List ℕ)) LoadFault → Type 0
Loads f s (Ok p) = s ≡ Ok (f p.0, p.1.now)
Loads f s (Err (File e)) = s ≡ Err e
Loads f s (Err Memory) = Unit {0}

-- of a table alone; memory may be wanted only where what was read is such that `wants` holds
abbrev pub Holds : {Y X : Type 0} → (Y → X) → (Result X Fault → Type 0) → Result X Fault → Result Y LoadFault → Type 0
Holds f wants s (Ok x) = s ≡ Ok (f x)
Holds f wants s (Err (File e)) = s ≡ Err e
Holds f wants s (Err Memory) = wants s

-- whatever was read, be it a fault
abbrev pub Anything : {X : Type 0} → Result X Fault → Type 0
Anything s = Unit {0}

-- nothing is at fault
abbrev pub Faultless : {X : Type 0} → Result X Fault → Type 0
Faultless {X} s = (x : X) × (s ≡ Ok x)

-- nothing is at fault, and it is a region loop
abbrev pub RegionLoopRead : Result (Option Table) Fault → Type 0
RegionLoopRead s = (rs : List Row) × (s ≡ Ok (Some (by_regions rs)))

-- the tables that the code's loops stand for
abbrev pub gaps_of : ContractLoop → Gaps
gaps_of x = gaps_in x.terms

abbrev pub table_of : RegionLoop → List Row
table_of x = rows_of (vec_items x.regions)

abbrev pub seen_gaps : Result ContractLoop Fault → Result Gaps Fault
seen_gaps (Ok x) = Ok (gaps_of x)
seen_gaps (Err e) = Err e
