use Rattle.std.proofs.Common.{sym, ap, ap₂, ◌∙◌}
use Rattle.site.specs.Loaded.{site_places}
use Rattle.site.specs.SiteTraffic.{site_meaning}
use Rattle.keeper.specs.Arming.{armed}
use Rattle.verdict.specs.Verdicts.{ruled}
use Rattle.verdict.proofs.Sized.{states_is, refused_over, left_over}
use Rattle.verdict.proofs.Verdict.of_site.Goals as goal

pub returns-in-None : goal.returns-in-None
returns-in-None c =
    let M = site_meaning (site_places c.args.site.now) in
    let none = sym c.in-None.is ∙ c.states.ensures in
    record {
      value =
          rw (c.refused_whole.ensures, c.number.ensures)
          (sym (ap (λ found. ruled M.states (armed 0 found)) (refused_over M 0 c.args.map.now none)));
      after = sym (left_over M 0 c.args.map.now none);
    }

pub returns-in-Some : goal.returns-in-Some
returns-in-Some c =
    let M = site_meaning (site_places c.args.site.now) in
    let some = sym c.in-Some.is ∙ c.states.ensures in
    record {
      value = c.of_synthesis.ensures ∙ ap₂ ruled (states_is M c.in-Some.states some) c.synthesise-found.ensures.answer;
      after = c.synthesise-found.ensures.after;
    }
