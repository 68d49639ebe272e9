-- What running slots leaves, and what it is as a play.
use Rattle.std.specs.Prelude.{◌≡◌, ℕ, zero, suc, ◌<◌, ◌≤◌, true, cond, List, [], ◌∷◌, length, Ok, is_ok, Result}
use Rattle.traffic.specs.Searches.{or_zero}
use Rattle.traffic.specs.Meaning.{Meaning}
use Rattle.traffic.specs.Answered.{within_limits}
use Rattle.game.specs.Game.{mark}
use Rattle.game.specs.Choice.{pick_by}
use Rattle.game.specs.Plays.{begin, last, Play, NoJamMet, Safe}
use Rattle.game.specs.Maps.{Filled}
use Rattle.game.specs.Answers.{solved}
use Rattle.keeper.specs.declared.arming.Armed.{Armed}
use Rattle.course.specs.declared.check.Check.{Check}
use Rattle.course.specs.Plants.{reply_by}
use Rattle.course.specs.Courses.{course_of, AllMade}

-- the map is filled for a traffic within the limits, and the state is one of mark 0
pub record SafeOn (M : Meaning) (map : List ℕ) (s : ℕ) : Type 0 where
  pub limits : within_limits M ≡ true
  pub room : M.states ≤ length map
  pub full : Filled M map
  pub inside : s < M.states
  pub unmarked : mark M s ≡ 0

-- the pick, which is there in each state of mark 0
abbrev pub picked : Meaning → ℕ → ℕ
picked M s = or_zero (pick_by M (mark M) s)

-- a slot: the pick is made, and the plants reply, as they can to each legal move
abbrev pub slot : Meaning → ℕ → Check
slot M s = record { state = s; mv = picked M s; next = or_zero (reply_by M (mark M) s (picked M s)) }

-- so many slots, each in the state that the one before it came to
unfoldable pub slots : Meaning → ℕ → ℕ → List Check
slots M zero s = []
slots M (suc n) s = slot M s ∷ slots M n (slot M s).next

-- the state after them
unfoldable pub state_after : Meaning → ℕ → ℕ → ℕ
state_after M zero s = s
state_after M (suc n) s = state_after M n (slot M s).next

-- the record afterwards: a slot in each of its places, and as it was where no keeper is armed
abbrev pub record_after : Meaning → ℕ → List ℕ → List Check → List Check
record_after M start map cs = cond (is_ok (solved M start map)) (slots M (length cs) start) cs

-- the course is a play without a jam, in which the lowest safe move is made at each check, and the keeper is ready in its
-- last state
pub record SafeCourse (M : Meaning) (start : ℕ) (cs : List Check) (a : Armed) : Type 0 where
  pub plays : Play M (course_of start cs)
  pub no_jam : NoJamMet M (course_of start cs)
  pub made : AllMade M (Safe M) (begin start) cs
  pub ends : a.keeper.state ≡ last (course_of start cs)

-- wherever a keeper is armed
abbrev pub RunsSlots : {E : Type 0} → Meaning → ℕ → List Check → Result Armed E → Type 0
RunsSlots M start cs r = (a : Armed) → r ≡ Ok a → SafeCourse M start cs a
