use Rattle.std.proofs.Common.{◌≡◌}
use Rattle.traffic.specs.Meaning.{Meaning}
use Rattle.game.specs.Choice.{pick_by}
use Rattle.game.specs.Standing.{on}
use Rattle.game.proofs.Admitted.{answer_is}
use Rattle.game.proofs.Counsel.{lowest_safe}
use Rattle.game.proofs.board.Board.pick.Goals as goal

pub returns : goal.returns
returns g c =
    let M : Meaning = g.T.Traffic.meaning c.args.self.traffic.now in
    let e = c.in_ok-marks.ensures in
    let found : c.lowest_permitted.result ≡ pick_by M (on c.args.self.map.now) c.args.state = rw (e.1, e.2) at c.lowest_permitted.ensures in
    let answer = answer_is _ _ _ e.0 found in
    record { answer = answer; safe = λ filled. lowest_safe M (g.met.T.Traffic.lawful c.args.self.traffic.now) c.args.self.map.now filled c.args.state _ answer }
