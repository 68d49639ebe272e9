-- The play that is lost where there is no schedule.
use Rattle.std.specs.Prelude.{◌≡◌, ℕ, zero, suc, ◌≤◌, true, false, List, [], ◌∷◌, ◌++◌, length, take, drop, Some, None, Ok, Err, Option, Result}
use Rattle.std.specs.Option.{option_map}
use Rattle.traffic.specs.Searches.{least, or_zero}
use Rattle.traffic.specs.Meaning.{Meaning, legal, jam}
use Rattle.game.specs.declared.map_fault.MapFault.{MapFault}
use Rattle.game.specs.declared.solution.Tally.{Tally}
use Rattle.game.specs.declared.solution.Refusal.{Refusal}
use Rattle.game.specs.declared.solution.Refusal.TheVariants.{NoSchedule}
use Rattle.game.specs.Game.{mark}
use Rattle.game.specs.Choice.{spoiler_by}
use Rattle.game.specs.Maps.{turned_away, Filled}
use Rattle.game.specs.Plays.{Past, begin, after, last, Play}
use Rattle.course.specs.declared.check.Check.{Check}
use Rattle.course.specs.Plants.{reply_by}
use Rattle.course.specs.Courses.{course_of, Lowest}

-- the lowest legal move is made, and the plants reply, as they can to each legal move
abbrev pub check_by : Meaning → (ℕ → ℕ) → ℕ → ℕ → Check
check_by M marks s m = record { state = s; mv = m; next = or_zero (reply_by M marks s m) }

unfoldable pub lost_check : Meaning → (ℕ → ℕ) → ℕ → Option Check
lost_check M marks s = option_map (check_by M marks s) (least (legal M s) 0 (suc M.loops))

-- checks one after another, while some move is legal and there is room for them
unfoldable pub lost_play : Meaning → (ℕ → ℕ) → ℕ → ℕ → List Check
lost_play M marks zero s = []
lost_play M marks (suc room) s = elim (lost_check M marks s) [ None ↦ [] | Some c ↦ c ∷ lost_play M marks room c.next ]

-- the play stands first in the record, and what is behind it is as it was
abbrev pub play_written : List Check → List Check → List Check
play_written play cs = play ++ drop (length play) cs

-- each check is made in the last state before it, which is no jam, by the lowest legal move, and the plants reply as the spoiler
pub record Spoiled (M : Meaning) (p : Past) (c : Check) : Type 0 where
  pub from_last : c.state ≡ last p
  pub no_jam : jam M c.state ≡ false
  pub lowest : Lowest (λ m. legal M c.state m ≡ true) c.mv
  pub replied : spoiler_by M (mark M) c.state c.mv ≡ Some c.next

abbrev pub AllSpoiled : Meaning → Past → List Check → Type 0
AllSpoiled M p [] = Unit {0}
AllSpoiled M p (c ∷ cs) = Spoiled M p c × AllSpoiled M (after p c.mv c.next) cs

-- where there is no schedule from the start, with this count, the play has at most so many checks and, if there is room for as
-- many, ends in a jam
pub record LostPlay (M : Meaning) (start count room : ℕ) (cs : List Check) : Type 0 where
  pub plays : Play M (course_of start cs)
  pub made : AllSpoiled M (begin start) cs
  pub short : length cs ≤ count
  pub ends : count ≤ room → jam M (last (course_of start cs)) ≡ true

abbrev pub PlaysIntoJam : Meaning → ℕ → ℕ → List Check → Result ℕ MapFault → Type 0
PlaysIntoJam M start room cs r = (n count : ℕ) → r ≡ Ok n → mark M start ≡ suc count → LostPlay M start count room (take n cs)

-- the lost play can be asked for on this map, which is filled, and the count is the mark of the start less one
pub record LostFrom (M : Meaning) (start : ℕ) (map : List ℕ) (k : ℕ) : Type 0 where
  pub admitted : turned_away M (length map) start ≡ None
  pub full : Filled M map
  pub counted : mark M start ≡ suc k

-- wherever there is no schedule
abbrev pub TellsLost : {A : Type 0} → Meaning → ℕ → List ℕ → Result A Refusal → Type 0
TellsLost M start map r = (k : ℕ) (t : Tally) → r ≡ Err (NoSchedule k t) → LostFrom M start map k
