use Rattle.std.proofs.Common.{◌≡◌, ℕ, Bool, suc, sym, ap, ◌∙◌, rules}
use Rattle.std.proofs.lemmas.Iterator.Adapters.{option_map_id}
use Rattle.std.proofs.lemmas.Iterator.Search.{find_from_yields_List}
use borrow.Author.Tests.{tests}
use Rattle.std.specs.List.{find, range_with_len}
use Rattle.traffic.specs.Meaning.{Meaning}
use Rattle.game.specs.Game.{permitted_by}
use Rattle.game.specs.Choice.{pick_by}
use Rattle.game.specs.Standing.{on, standing}
use Rattle.traffic.specs.Searches.{least}
use Rattle.game.proofs.Searched.{inclusive_yields, find_least}
use Rattle.game.proofs.marks.Marks.lowest_permitted.Goals as goal

pub returns : goal.returns
unfolding pick_by permitted_by standing
returns g c =
    let M : Meaning = g.T.Traffic.meaning c.args.self.now.bounded.traffic.now in
    let test : ℕ → Bool = permitted_by M (on c.args.self.now.map.now) c.args.state in
    let road = inclusive_yields c.new.result _ c.new.ensures.start c.new.ensures.end c.new.ensures.exhausted in
    let found : c.find.result ≡ find test (range_with_len 0 (suc c.args.self.now.bounded.size.loops)) =
    sym (option_map_id c.find.result) ∙ find_from_yields_List test _ _ c.find.result c.find.ensures.ran road (λ x b q k. search (rules, tests)) in
    found ∙ find_least test _ 0 ∙ ap (λ n. least test 0 (suc n)) c.args.self.now.bounded.loops
