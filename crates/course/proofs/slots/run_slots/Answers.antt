use Rattle.course.proofs.SafeCourses.{runs}
use Rattle.course.proofs.LostStarts.{tells_lost}
use Rattle.course.proofs.slots.run_slots.Goals as goal

pub returns-clause-course : goal.returns-clause-course
returns-clause-course g c =
    let done = c.arm_and_run.ensures in
    runs _ (g.met.T.Traffic.lawful c.args.traffic.now) _ _ _ _ _ done.answer done.noted

pub returns-clause-lost : goal.returns-clause-lost
returns-clause-lost g c =
    let done = c.arm_and_run.ensures in
    tells_lost _ _ _ _ _ _ c.arm_and_run.auto.map done.answer done.after
