-- What a verdict says of a file.
use Rattle.std.specs.Prelude.{◌≡◌, ℕ, ◌<◌, ◌≤◌, ◌⊎◌, List, Ok, Result}
use Rattle.std.specs.declared.alloc.AllocError.{AllocError}
use Rattle.site_read.specs.declared.fault.Fault.{Fault}
use Rattle.site_read.specs.declared.fault.Report.{Report}
use Rattle.site_read.specs.Faults.{report}
use Rattle.site_read.specs.Beginnings.{FaultIn}
use Rattle.site_read.specs.Format.{Places, LawfulSite, file_of}
use Rattle.site.specs.SiteTraffic.{site_meaning}
use Rattle.game.specs.Filling.{winning, rounds}
use Rattle.game.specs.Plays.{Rule, Led, Safe}
use Rattle.game.specs.Laws.{LeastCount}
use Rattle.game.specs.declared.solution.Tally.{Tally}
use Rattle.verdict.specs.declared.Verdict.{Verdict}
use Rattle.verdict.specs.declared.Verdict.TheVariants.{Schedule, NoSchedule, Refused}

-- the file is that of a lawful site p of n joint states, at most 32,768, and t counts its winning states and its rounds
pub record GameOf (file : List ℕ) (n : ℕ) (t : Tally) (p : Places) : Type 0 where
  pub lawful : LawfulSite p
  pub written : file ≡ file_of p
  pub states : (site_meaning p).states ≡ n
  pub few : n ≤ 32768
  pub won : t.winning ≡ winning (site_meaning p)
  pub lasted : t.rounds ≡ rounds (site_meaning p)

-- the file is refused for its fault; and a refusal by a fault's number, 1 to 8, is for its fault
abbrev pub FaultIsRefused : List ℕ → Result Verdict AllocError → Type 0
FaultIsRefused file r =
    ((fault : Fault) → FaultIn file fault → r ≡ Ok (Refused (report fault)))
    × ((x : Report) → r ≡ Ok (Refused x) → x.number ≤ 8 → (fault : Fault) × FaultIn file fault × (report fault ≡ x))

-- A schedule: some move is safe in state 0. No schedule: every rule is led into a jam from state 0, and the count is the
-- least number of checks within which every rule is. Refused: every lawful site that has this file, if there is one, has
-- more than 32,768 joint states, or more than the map has room for
abbrev pub Tells : List ℕ → ℕ → Verdict → Type 0
Tells file room (Schedule n t) = (p : Places) × GameOf file n t p × ((m : ℕ) × Safe (site_meaning p) 0 m)
Tells file room (NoSchedule n t k) = (p : Places) × GameOf file n t p × ((ρ : Rule (site_meaning p)) → Led ρ 0) × LeastCount (site_meaning p) 0 k
Tells file room (Refused r) = (p : Places) → LawfulSite p → file ≡ file_of p → (32768 < (site_meaning p).states) ⊎ (room < (site_meaning p).states)
