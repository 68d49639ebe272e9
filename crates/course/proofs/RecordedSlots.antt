-- What is recorded is a safe course, and what is left where there is no schedule.
use Rattle.std.proofs.Common.{◌≡◌, ℕ, List, length, Ok, Err, Result, sym, refl, ap, subst}
use Rattle.traffic.specs.Meaning.{Meaning, Lawful}
use Rattle.game.specs.declared.solution.Tally.{Tally}
use Rattle.game.specs.declared.solution.Refusal.{Refusal}
use Rattle.game.specs.declared.solution.Refusal.TheVariants.{NoSchedule}
use Rattle.game.specs.Answers.{solved, map_after}
use Rattle.keeper.specs.Arming.{armed}
use Rattle.course.specs.declared.slots.Recorded.{Recorded}
use Rattle.course.specs.declared.slots.RecordFault.{RecordFault}
use Rattle.course.specs.Slots.{slots, state_after, SafeCourse}
use Rattle.course.specs.Recorded.{RecordsSlots, RecordsCourse, RecordsLost}
use Rattle.course.proofs.SafeCourses.{safe_course, start_admitted, start_unmarked}
use Rattle.course.proofs.LostStarts.{tells_lost}

module _ (M : Meaning) (law : Lawful M) (start n : ℕ) (before : List ℕ) where
  one_course : (x : Recorded) (o : Result Tally Refusal) → solved M start before ≡ o → armed (state_after M n start) o ≡ Ok x.armed → x.checks.items ≡ slots M n start → SafeCourse M start x.checks.items x.armed
  one_course x (Ok t) w e f =
      let b : x.armed ≡ record { keeper = record { state = state_after M n start }; tally = t } = cc in
      subst (λ cs. SafeCourse M start cs x.armed) (sym f)
      (subst (SafeCourse M start (slots M n start)) (sym b)
      (safe_course M law n start (start_admitted M start before t w).inside (start_unmarked M start before t w) t))
  one_course x (Err r) w e f = absurd (cc)

  pub records_course : (r : Result Recorded RecordFault) → RecordsSlots M start n (solved M start before) r → RecordsCourse M start r
  records_course (Ok x) a = one_course x (solved M start before) refl a.0 a.1
  records_course (Err e) a = tt

pub records_lost : (M : Meaning) (start n : ℕ) (before map : List ℕ) (r : Result Recorded RecordFault) → length map ≡ length before → RecordsSlots M start n (solved M start before) r → map ≡ map_after M start before → RecordsLost M start map r
records_lost M start n before map r long a f k t q =
    let s : solved M start before ≡ Err (NoSchedule k t) = subst (RecordsSlots M start n (solved M start before)) q a in
    tells_lost M start start before map (armed start (Err (NoSchedule k t))) long (sym (ap (armed start) s)) f k t refl
