-- What small sites and files come to. Each figure can be worked out by hand.
use Rattle.std.specs.Prelude.{◌≡◌, ℕ, ◌||◌, [], ◌∷◌, Some, Ok, ◌==◌}
use Rattle.traffic.specs.Models.{empty_meaning}
use Rattle.game.specs.Game.{mark}
use Rattle.game.specs.Choice.{pick_by}
use Rattle.site_read.specs.Faults.{report_with}
use Rattle.site_read.specs.Format.{LawfulSite}
use Rattle.site_read.specs.Sites.{site}
use Rattle.positions.specs.Sites.{no_loops, always_due, two_always_due, two_of_two_checks, three_of_two_checks, contract_and_two_checks, contract_and_three_checks}
use Rattle.positions.specs.Files.{whole, cut_short, stray_set, refused}
use Rattle.positions.specs.Outcomes.{marks_of, may_begin, first_pick, counterplay, HasSchedule, HasNoSchedule}

-- the empty traffic by itself: no loop and one state
pub record TrafficWithoutLoops : Type 0 where
  pub the_empty_traffic_is_safe : mark empty_meaning 0 ≡ 0
  pub the_empty_traffic_picks_silence : pick_by empty_meaning (mark empty_meaning) 0 ≡ Some 0

-- loops that are due at every check
pub record LoopsAlwaysDue : Type 0 where
  pub an_empty_site_is_safe : marks_of no_loops ≡ 0 ∷ []
  pub an_empty_site_picks_silence : first_pick no_loops ≡ Some 0
  pub a_loop_due_at_every_check_is_safe : marks_of always_due ≡ 0 ∷ []
  pub a_loop_due_at_every_check_may_only_send : (m : ℕ) → may_begin always_due m ≡ (m == 1)
  pub two_such_loops_jam_at_once : marks_of two_always_due ≡ 1 ∷ []
  pub two_such_loops_have_no_schedule : HasNoSchedule two_always_due 0 (record { winning = 0; rounds = 1 })

-- loops that are due at the second check since their last send
pub record LoopsOfTwoChecks : Type 0 where
  pub two_loops_of_two_checks_are_unsafe_only_in_a_jam : marks_of two_of_two_checks ≡ 0 ∷ 0 ∷ 0 ∷ 1 ∷ []
  pub one_of_two_such_loops_must_send : (m : ℕ) → may_begin two_of_two_checks m ≡ (m == 1 || m == 2)
  pub the_first_of_two_such_loops_is_picked : first_pick two_of_two_checks ≡ Some 1
  pub two_such_loops_have_a_schedule : HasSchedule two_of_two_checks (record { winning = 3; rounds = 1 })
  pub three_loops_of_two_checks_are_one_too_many : marks_of three_of_two_checks ≡ 2 ∷ 2 ∷ 2 ∷ 1 ∷ 2 ∷ 1 ∷ 1 ∷ 1 ∷ []
  pub three_such_loops_have_no_schedule : HasNoSchedule three_of_two_checks 1 (record { winning = 0; rounds = 2 })

-- a loop beside the contract, whose message may hold the channel for two checks
pub record LoopsBesideAContract : Type 0 where
  pub beside_a_loop_of_two_checks_no_state_is_safe : marks_of contract_and_two_checks ≡ 3 ∷ 3 ∷ 2 ∷ 1 ∷ 4 ∷ 1 ∷ []
  pub beside_a_loop_of_two_checks_there_is_no_schedule : HasNoSchedule contract_and_two_checks 2 (record { winning = 0; rounds = 4 })
  pub the_plants_reply_by_holding_on : counterplay contract_and_two_checks 2 1 ≡ Some 5
  pub beside_a_loop_of_three_checks_most_states_are_safe : marks_of contract_and_three_checks ≡ 0 ∷ 0 ∷ 0 ∷ 0 ∷ 2 ∷ 1 ∷ 0 ∷ 0 ∷ 1 ∷ []
  pub beside_a_loop_of_three_checks_there_is_a_schedule : HasSchedule contract_and_three_checks (record { winning = 6; rounds = 2 })
  pub beside_a_loop_of_three_checks_the_contract_is_picked : first_pick contract_and_three_checks ≡ Some 1

-- every site here but the empty one is lawful: it has a file, and can be loaded from it
pub record SitesOfFiles : Type 0 where
  pub always_due_is_lawful : LawfulSite always_due
  pub two_always_due_are_lawful : LawfulSite two_always_due
  pub two_of_two_checks_are_lawful : LawfulSite two_of_two_checks
  pub three_of_two_checks_are_lawful : LawfulSite three_of_two_checks
  pub contract_and_two_checks_are_lawful : LawfulSite contract_and_two_checks
  pub contract_and_three_checks_are_lawful : LawfulSite contract_and_three_checks

pub record FilesRead : Type 0 where
  pub the_file_has_22_bytes : whole ≡ 76 ∷ 75 ∷ 84 ∷ 0 ∷ 1 ∷ 2 ∷ 1 ∷ 1 ∷ 1 ∷ 2 ∷ 0 ∷ 1 ∷ 0 ∷ 1 ∷ 1 ∷ 1 ∷ 1 ∷ 2 ∷ 0 ∷ 1 ∷ 0 ∷ 1 ∷ []
  pub the_whole_file_is_read_as_its_site : site whole ≡ Ok two_of_two_checks
  pub cut_short_it_ends_within_its_second_loop : refused cut_short ≡ Some (report_with 1 2 21)
  pub a_set_must_name_regions_that_there_are : refused stray_set ≡ Some (report_with 7 1 10)

pub record CheckedPositions : Type 0 where
  pub without_loops : TrafficWithoutLoops
  pub always_due : LoopsAlwaysDue
  pub two_checks : LoopsOfTwoChecks
  pub beside_a_contract : LoopsBesideAContract
  pub sites : SitesOfFiles
  pub files : FilesRead
