use Rattle.std.proofs.Common.{◌≡◌, ℕ, List, is_some, None, ◌∙◌}
use Rattle.traffic.specs.Meaning.{Meaning}
use Rattle.game.specs.Game.{keeps_in, permitted_by}
use Rattle.game.specs.Standing.{on, standing}
use Rattle.game.proofs.Admitted.{answer_is}
use Rattle.game.proofs.Choosing.{found_permitted}
use Rattle.game.proofs.Counsel.{exactly_safe}
use Rattle.game.proofs.board.Board.permits.Goals as goal

pub returns : goal.returns
returns g c =
    let M : Meaning = g.T.Traffic.meaning c.args.self.traffic.now in
    let map : List ℕ = c.args.self.map.now in
    let e = c.in_ok-marks.ensures in
    let keeps : is_some c.standing_next.result ≡ keeps_in M (standing map None) c.args.state c.args.mv = rw (e.1, e.2) at c.standing_next.ensures.keeps in
    let answer = answer_is _ (permitted_by M (on map) c.args.state c.args.mv) _ e.0 (found_permitted M map c.args.state c.args.mv _ (c.is_some.ensures ∙ keeps)) in
    record { answer = answer; safe = λ filled. exactly_safe M (g.met.T.Traffic.lawful c.args.self.traffic.now) map filled c.args.state c.args.mv _ answer }
