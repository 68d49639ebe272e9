-- The verdict on a site file, the map afterwards, and the lines that say the verdict.
use Rattle.std.specs.Prelude.{◌≡◌, ℕ, List, ◌++◌, Ok, Err, codes, decimal, Result}
use Rattle.std.specs.declared.alloc.AllocError.{AllocError}
use Rattle.site_read.specs.declared.fault.Fault.{Fault}
use Rattle.site_read.specs.Faults.{report, report_with, refusal}
use Rattle.site_read.specs.Format.{Places}
use Rattle.site_read.specs.Sites.{site}
use Rattle.site.specs.Loaded.{RegionLoopsRead}
use Rattle.site.specs.SiteTraffic.{site_meaning}
use Rattle.game.specs.declared.solution.Refusal.{Refusal}
use Rattle.game.specs.declared.solution.Refusal.TheVariants.{NoSchedule as NoSchedule-found, Map}
use Rattle.game.specs.Maps as maps
use Rattle.game.specs.Answers.{solved, map_after}
use Rattle.keeper.specs.declared.arming.Armed.{Armed}
use Rattle.keeper.specs.Arming.{armed}
use Rattle.verdict.specs.declared.Verdict.{Verdict}
use Rattle.verdict.specs.declared.Verdict.TheVariants.{Schedule, NoSchedule, Refused}

-- what synthesis found, said of a site of n joint states; what turns it away is a refusal of the whole file
abbrev pub ruled : ℕ → Result Armed Refusal → Verdict
ruled n (Ok a) = Schedule n a.tally
ruled n (Err (NoSchedule-found k t)) = NoSchedule n t k
ruled n (Err (Map f)) = Refused (report_with (maps.told f).number 0 0)

-- synthesis from joint state 0
abbrev pub site_verdict : Places → List ℕ → Verdict
site_verdict p map = ruled (site_meaning p).states (armed 0 (solved (site_meaning p) 0 map))

abbrev pub site_map : Places → List ℕ → List ℕ
site_map p map = map_after (site_meaning p) 0 map

abbrev pub verdict_by : Result Places Fault → List ℕ → Verdict
verdict_by (Ok p) map = site_verdict p map
verdict_by (Err e) map = Refused (report e)

abbrev pub map_by : Result Places Fault → List ℕ → List ℕ
map_by (Ok p) map = site_map p map
map_by (Err e) map = map

-- the verdict on a file, on this map; there may be none, for want of memory, only for an accepted file with a region loop
abbrev pub Judged : List ℕ → List ℕ → Result Verdict AllocError → Type 0
Judged file map (Ok v) = v ≡ verdict_by (site file) map
Judged file map (Err _) = RegionLoopsRead (site file)

-- the map afterwards; for want of memory it is as it was
abbrev pub judged_map : List ℕ → List ℕ → Result Verdict AllocError → List ℕ
judged_map file map (Ok v) = map_by (site file) map
judged_map file map (Err _) = map

abbrev pub lines : Verdict → List ℕ
lines (Schedule n t) =
    codes "states " ++ (decimal n ++ (codes "\nwinning " ++ (decimal t.winning ++ (codes "\nrounds " ++ (decimal t.rounds ++ codes "\nstart yes")))))
lines (NoSchedule n t k) =
    codes "states " ++ (decimal n ++ (codes "\nwinning " ++ (decimal t.winning ++ (codes "\nrounds " ++ (decimal t.rounds ++ (codes "\nstart no " ++ decimal k))))))
lines (Refused r) = refusal r
