-- What is recorded of slots, on memory that is wanted once a keeper is armed.
use Rattle.std.specs.Prelude.{◌≡◌, ℕ, true, List, Some, None, Option, Ok, Err, is_ok, Result, IfOk}
use Rattle.traffic.specs.Meaning.{Meaning}
use Rattle.traffic.specs.Refusals.{Told}
use Rattle.game.specs.declared.solution.Tally.{Tally}
use Rattle.game.specs.declared.solution.Refusal.{Refusal}
use Rattle.game.specs.declared.solution.Refusal.TheVariants.{NoSchedule}
use Rattle.game.specs.Answers.{told}
use Rattle.keeper.specs.Arming.{armed}
use Rattle.course.specs.declared.slots.Recorded.{Recorded}
use Rattle.course.specs.declared.slots.RecordFault.{RecordFault}
use Rattle.course.specs.declared.slots.RecordFault.TheVariants.{Refused, Memory}
use Rattle.course.specs.Slots.{slots, state_after, SafeCourse}
use Rattle.course.specs.Lost.{LostFrom}

-- what a fault tells: what synthesis' refusal tells, and nothing for want of memory
abbrev pub record_told : RecordFault → Option Told
record_told (Refused e) = Some (told e)
record_told Memory = None

-- the record has so many slots, and the keeper is ready behind them; a refusal is that of synthesis; and memory is wanted only
-- where a keeper is armed
abbrev pub RecordsSlots : Meaning → ℕ → ℕ → Result Tally Refusal → Result Recorded RecordFault → Type 0
RecordsSlots M start n s (Ok r) = (armed (state_after M n start) s ≡ Ok r.armed) × (r.checks.items ≡ slots M n start)
RecordsSlots M start n s (Err (Refused e)) = s ≡ Err e
RecordsSlots M start n s (Err Memory) = is_ok s ≡ true

-- wherever there is a record, it is a safe course
abbrev pub RecordsCourse : Meaning → ℕ → Result Recorded RecordFault → Type 0
RecordsCourse M start r = IfOk r (λ x. SafeCourse M start x.checks.items x.armed)

-- wherever there is no schedule, the lost play can be asked for on the map
abbrev pub RecordsLost : Meaning → ℕ → List ℕ → Result Recorded RecordFault → Type 0
RecordsLost M start map r = (k : ℕ) (t : Tally) → r ≡ Err (Refused (NoSchedule k t)) → LostFrom M start map k
