use Rattle.course.proofs.SafeCourses.{armed_safe}
use Rattle.course.proofs.slots.arm_and_record.Goals as goal

pub run_all-keeper-requires : goal.run_all-keeper-requires
run_all-keeper-requires g c =
    record { safe = armed_safe _ _ _ _ c.in_ok-armed.armed _ c.synthesise.auto.map c.synthesise.ensures.answer c.in_ok-armed.was c.synthesise.ensures.after }
