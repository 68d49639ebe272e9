-- The facts, by computing.
use Rattle.std.proofs.Common.{◌≡◌, ℕ, zero, suc, ◌<◌, false, ◌||◌, sym, refl, ◌∙◌, ap₂, arith}
use Rattle.std.specs.Prelude.{◌==◌}
use Rattle.std.proofs.lemmas.Bool.{ne_eqb}
use Rattle.traffic.specs.Searches.{some_below, every_below, least}
use Rattle.traffic.specs.Meaning.{jam, legal}
use Rattle.traffic.specs.Answered.{within_limits}
use Rattle.game.specs.Game.{keeps_in, holds_out, Z, mark_by, mark, permitted_by}
use Rattle.game.specs.Choice.{pick_by, threat, comes_before, worst, spoiler_by}
use Rattle.game.specs.Filling.{values, how_many, winning, largest, rounds}
use Rattle.positions.specs.Sites.{always_due, two_of_two_checks}
use Rattle.positions.specs.Outcomes.{may_begin}
use Rattle.positions.specs.Facts.{SitesOfFiles, CheckedPositions}
use Rattle.positions.proofs.Lawful.{contract_lawful, holding_lawful, has_schedule, has_no_schedule, none_above}

sites : SitesOfFiles
sites = record {
  always_due_is_lawful = holding_lawful _ _ _ refl tt tt refl;
  two_always_due_are_lawful = holding_lawful _ _ _ refl refl tt refl;
  two_of_two_checks_are_lawful = holding_lawful _ _ _ refl refl tt refl;
  three_of_two_checks_are_lawful = holding_lawful _ _ _ refl refl refl refl;
  contract_and_two_checks_are_lawful = holding_lawful _ _ _ contract_lawful refl tt refl;
  contract_and_three_checks_are_lawful = holding_lawful _ _ _ contract_lawful refl tt refl;
}

not_below : (m k : ℕ) → k < m → (m == k) ≡ false
not_below m k l = ne_eqb m k (λ e. absurd (omega (arith, e)))

pub checked_positions : CheckedPositions
unfolding some_below every_below least legal within_limits jam keeps_in holds_out Z mark_by mark permitted_by pick_by threat comes_before worst spoiler_by values how_many winning largest rounds
checked_positions = record {
  without_loops = record {
    the_empty_traffic_is_safe = refl;
    the_empty_traffic_picks_silence = refl;
  };
  always_due = record {
    an_empty_site_is_safe = refl;
    an_empty_site_picks_silence = refl;
    a_loop_due_at_every_check_is_safe = refl;
    a_loop_due_at_every_check_may_only_send = only_sends;
    two_such_loops_jam_at_once = refl;
    two_such_loops_have_no_schedule = has_no_schedule _ sites.two_always_due_are_lawful refl 0 refl;
  };
  two_checks = record {
    two_loops_of_two_checks_are_unsafe_only_in_a_jam = refl;
    one_of_two_such_loops_must_send = one_sends;
    the_first_of_two_such_loops_is_picked = refl;
    two_such_loops_have_a_schedule = has_schedule _ sites.two_of_two_checks_are_lawful refl refl 1 refl;
    three_loops_of_two_checks_are_one_too_many = refl;
    three_such_loops_have_no_schedule = has_no_schedule _ sites.three_of_two_checks_are_lawful refl 1 refl;
  };
  beside_a_contract = record {
    beside_a_loop_of_two_checks_no_state_is_safe = refl;
    beside_a_loop_of_two_checks_there_is_no_schedule = has_no_schedule _ sites.contract_and_two_checks_are_lawful refl 2 refl;
    the_plants_reply_by_holding_on = refl;
    beside_a_loop_of_three_checks_most_states_are_safe = refl;
    beside_a_loop_of_three_checks_there_is_a_schedule = has_schedule _ sites.contract_and_three_checks_are_lawful refl refl 1 refl;
    beside_a_loop_of_three_checks_the_contract_is_picked = refl;
  };
  sites = sites;
  files = record {
    the_file_has_22_bytes = refl;
    the_whole_file_is_read_as_its_site = refl;
    cut_short_it_ends_within_its_second_loop = refl;
    a_set_must_name_regions_that_there_are = refl;
  };
}
  where
    only_sends : (m : ℕ) → may_begin always_due m ≡ (m == 1)
    only_sends zero = refl
    only_sends (suc zero) = refl
    only_sends (suc (suc m)) =
        let n = suc (suc m) in
        none_above always_due sites.always_due_is_lawful n (omega arith) ∙ sym (not_below n 1 (omega arith))

    one_sends : (m : ℕ) → may_begin two_of_two_checks m ≡ (m == 1 || m == 2)
    one_sends zero = refl
    one_sends (suc zero) = refl
    one_sends (suc (suc zero)) = refl
    one_sends (suc (suc (suc m))) =
        let n = suc (suc (suc m)) in
        none_above two_of_two_checks sites.two_of_two_checks_are_lawful n (omega arith)
        ∙ sym (ap₂ (λ a b. a || b) (not_below n 1 (omega arith)) (not_below n 2 (omega arith)))
