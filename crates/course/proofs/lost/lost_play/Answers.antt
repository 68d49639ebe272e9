use Rattle.course.proofs.IntoJam.{into_jam}
use Rattle.course.proofs.lost.lost_play.Goals as goal

pub returns-clause-jam : goal.returns-clause-jam
returns-clause-jam g c =
    let done = c.admit_and_note.ensures in
    into_jam _ (g.met.T.Traffic.lawful c.args.board.traffic.now) _ _ _ _ _ done.answer done.noted
