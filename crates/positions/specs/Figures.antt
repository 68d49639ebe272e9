-- The figures that the definitions give.
use Rattle.std.specs.Prelude.{ℕ, List, Some, None, Ok, Err, Option, Result}
use Rattle.traffic.specs.Meaning.{Meaning}
use Rattle.traffic.specs.Models.{empty_meaning}
use Rattle.game.specs.declared.solution.Tally.{Tally}
use Rattle.game.specs.declared.solution.Refusal.{Refusal}
use Rattle.game.specs.declared.solution.Refusal.TheVariants.{Map, NoSchedule}
use Rattle.game.specs.Game.{mark}
use Rattle.game.specs.Choice.{pick_by}
use Rattle.game.specs.Filling.{values}
use Rattle.game.specs.Answers.{solved}
use Rattle.site_read.specs.Format.{Places}
use Rattle.site.specs.SiteTraffic.{site_meaning}
use Rattle.positions.specs.declared.WorkedSite.{WorkedSite}
use Rattle.positions.specs.declared.WorkedFile.{WorkedFile}
use Rattle.positions.specs.declared.WorkedExamples.{WorkedExamples}
use Rattle.positions.specs.Sites.{no_loops, always_due, two_always_due, two_of_two_checks, three_of_two_checks, contract_and_two_checks, contract_and_three_checks}
use Rattle.positions.specs.Files.{whole, cut_short, stray_set, refused}
use Rattle.positions.specs.Outcomes.{counterplay}

-- the count of "no schedule"
abbrev pub count_in : Result Tally Refusal → Option ℕ
count_in (Ok t) = None
count_in (Err (Map f)) = None
count_in (Err (NoSchedule k t)) = Some k

-- solved from state 0, on a map with a mark for each state
abbrev pub of_traffic : {n : ℕ} → Meaning → WorkedSite n
of_traffic M =
    let marks = values (mark M) 0 M.states in
    record { marks = marks; count = count_in (solved M 0 marks); pick = pick_by M (mark M) 0 }

abbrev pub of_site : {n : ℕ} → Places → WorkedSite n
of_site p = of_traffic (site_meaning p)

abbrev pub of_file : {n : ℕ} → List ℕ → WorkedFile n
of_file file = record { bytes = file; refused = refused file }

abbrev pub worked_out : WorkedExamples
worked_out = record {
  empty_traffic = of_traffic empty_meaning;
  no_loops = of_site no_loops;
  always_due = of_site always_due;
  two_always_due = of_site two_always_due;
  two_of_two_checks = of_site two_of_two_checks;
  three_of_two_checks = of_site three_of_two_checks;
  contract_and_two_checks = of_site contract_and_two_checks;
  counterplay = counterplay contract_and_two_checks 2 1;
  contract_and_three_checks = of_site contract_and_three_checks;
  whole = of_file whole;
  cut_short = of_file cut_short;
  stray_set = of_file stray_set;
}
