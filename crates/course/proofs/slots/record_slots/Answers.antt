use Rattle.course.proofs.RecordedSlots.{records_course, records_lost}
use Rattle.course.proofs.slots.record_slots.Goals as goal

pub returns-clause-course : goal.returns-clause-course
returns-clause-course g c =
    records_course _ (g.met.T.Traffic.lawful c.args.traffic.now) _ _ _ _ c.arm_and_record.ensures.answer

pub returns-clause-lost : goal.returns-clause-lost
returns-clause-lost g c =
    let done = c.arm_and_record.ensures in
    records_lost _ _ _ _ _ _ c.arm_and_record.auto.map done.answer done.after
