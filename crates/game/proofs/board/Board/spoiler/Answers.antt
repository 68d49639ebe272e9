use Rattle.std.proofs.Common.{◌≡◌}
use Rattle.traffic.specs.Meaning.{Meaning}
use Rattle.game.specs.Choice.{spoiler_by}
use Rattle.game.specs.Standing.{on}
use Rattle.game.proofs.Admitted.{answer_is}
use Rattle.game.proofs.Counsel.{leads_down}
use Rattle.game.proofs.board.Board.spoiler.Goals as goal

pub returns : goal.returns
returns g c =
    let M : Meaning = g.T.Traffic.meaning c.args.self.traffic.now in
    let e = c.in_ok-marks.ensures in
    let found : c.worst_next.result ≡ spoiler_by M (on c.args.self.map.now) c.args.state c.args.mv = rw (e.1, e.2) at c.worst_next.ensures in
    let answer = answer_is _ _ _ e.0 found in
    record { answer = answer; down = λ filled. leads_down M (g.met.T.Traffic.lawful c.args.self.traffic.now) c.args.self.map.now filled c.args.state c.args.mv _ answer }
