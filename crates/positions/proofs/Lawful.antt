-- The sites are lawful, and what the theorems of the game say of a lawful site.
use Rattle.std.proofs.Common.{◌≡◌, ℕ, suc, ◌<◌, true, false, length, Some, Option, ap, ◌∙◌, arith}
use Rattle.std.proofs.lemmas.Bool.{false_from_ne_true}
use Rattle.traffic.specs.Meaning.{Lawful}
use Rattle.traffic.specs.Answered.{within_limits}
use Rattle.game.specs.Game.{mark}
use Rattle.game.specs.Laws.{MarksTell}
use Rattle.game.specs.Answers.{tally, judged}
use Rattle.game.proofs.Admitted.{not_turned_away}
use Rattle.game.proofs.Solved.{solved_open}
use Rattle.game.proofs.Kept.{legal_low}
use Rattle.game.proofs.Rules.{permitted_legal, marks_tell}
use Rattle.keeper.specs.Arming.{armed}
use Rattle.site_read.specs.Tables.{Table}
use Rattle.site_read.specs.Format.{Places, in_order, LawfulPlace, LawfulSite}
use Rattle.site.specs.SiteTraffic.{site_meaning}
use Rattle.site.specs.SiteLaws.{places_lawful}
use Rattle.positions.specs.Sites.{contract, holding}
use Rattle.positions.specs.Outcomes.{may_begin, Synthesis, HasSchedule, HasNoSchedule}

pub contract_lawful : LawfulPlace contract
contract_lawful = record {
  gap_low = omega arith;
  gap_order = omega arith;
  gap_high = omega arith;
  hold_low = omega arith;
  hold_order = omega arith;
  hold_high = omega arith;
}

pub holding_lawful : (t : Table) (b c : Option Table) → LawfulPlace (Some t) → LawfulPlace b → LawfulPlace c → in_order (holding (Some t) b c) ≡ true → LawfulSite (holding (Some t) b c)
holding_lawful t b c first second third order =
    record { first = first; second = second; third = third; fourth = tt; order = order; some = λ e. absurd (omega (arith, e)) }

module _ (p : Places) (l : LawfulSite p) where
  law : Lawful (site_meaning p)
  law = places_lawful p l

  -- what `solved` answers by the mark of state 0, and what that mark says of rules
  synthesis : within_limits (site_meaning p) ≡ true → Synthesis p (armed 0 (judged (mark (site_meaning p) 0) (tally (site_meaning p))))
  synthesis few map room =
      ap (armed 0)
      (solved_open (site_meaning p) 0 map (not_turned_away (site_meaning p) (length map) 0 (record { limits = few; room = room; inside = law.inhabited })))

  tell : MarksTell (site_meaning p)
  tell = marks_tell (site_meaning p) law

  pub has_schedule : within_limits (site_meaning p) ≡ true → mark (site_meaning p) 0 ≡ 0 → (m : ℕ) → may_begin p m ≡ true → HasSchedule p (tally (site_meaning p))
  has_schedule few unmarked m permitted =
      let safe = (tell.permit 0 m law.inhabited).0 permitted in
      (λ map room. synthesis few map room ∙ ap (λ k. armed 0 (judged k (tally (site_meaning p)))) unmarked, (safe.0, safe.2))

  pub has_no_schedule : within_limits (site_meaning p) ≡ true → (k : ℕ) → mark (site_meaning p) 0 ≡ suc k → HasNoSchedule p k (tally (site_meaning p))
  has_no_schedule few k marked = (
    λ map room. synthesis few map room ∙ ap (λ n. armed 0 (judged n (tally (site_meaning p)))) marked,
    tell.count 0 k law.inhabited marked,
  )

  pub none_above : (m : ℕ) → (site_meaning p).loops < m → may_begin p m ≡ false
  none_above m above =
      false_from_ne_true _
      (λ e. absurd (omega (arith, legal_low (site_meaning p) law 0 m (permitted_legal (site_meaning p) 0 m e))))
