-- What a course of checks came to.
use Rattle.std.specs.Prelude.{◌≡◌, ℕ, suc, ◌+◌, ◌≤◌, max, Bool, true, false, cond, ◌||◌, ◌↔◌, List, [], ◌∷◌, length, take, drop, Some, None, Option, nat_eq, nat_le, map}
use Rattle.std.specs.List.{list_all, list_any, count_by, range_with_len}
use Rattle.traffic.specs.Meaning.{Meaning}
use Rattle.traffic.specs.Answered.{within_limits, due_of}
use Rattle.game.specs.Plays.{Play, NoJamMet}
use Rattle.course.specs.declared.check.Check.{Check}
use Rattle.course.specs.declared.account.Sends.{Sends}
use Rattle.course.specs.declared.account.Account.{Account}
use Rattle.course.specs.Courses.{course_of}

-- how often the loop of this number sent
abbrev pub sends : ℕ → List Check → ℕ
sends place cs = count_by (λ (c : Check). nat_eq c.mv place) cs

-- the longest silence, where no loop had sent for `run` checks before these
unfoldable pub silence_after : ℕ → List Check → ℕ
silence_after run [] = run
silence_after run (c ∷ cs) = cond (nat_eq c.mv 0) (silence_after (suc run) cs) (max run (silence_after 0 cs))

abbrev pub longest_silence_in : List Check → ℕ
longest_silence_in cs = silence_after 0 cs

-- no loop sent in these checks
abbrev pub silent : List Check → Bool
silent cs = list_all (λ (c : Check). nat_eq c.mv 0) cs

-- so many checks on end, behind these first ones, in which no loop sent
pub record Silence (n : ℕ) (cs : List Check) : Type 0 where
  pub first : ℕ
  pub fits : first + n ≤ length cs
  pub stays : silent (take n (drop first cs)) ≡ true

-- there is a silence of so many checks, and none of more
pub record LongestSilence (n : ℕ) (cs : List Check) : Type 0 where
  pub there : Silence n cs
  pub longest : (k : ℕ) → Silence k cs → k ≤ n

-- a state is a jam by what is told of the loops due in it; one of which nothing is told counts as one
abbrev pub jam_told : Option ℕ → Bool
jam_told None = true
jam_told (Some due) = nat_le 2 due

-- the start is a jam, or some state that was come to
abbrev pub meets_jam : Meaning → ℕ → List Check → Bool
meets_jam M start cs = jam_told (due_of M start) || list_any (λ (c : Check). jam_told (due_of M c.next)) cs

-- of a play it is told exactly whether a state of it is a jam
abbrev pub TellsJam : Meaning → ℕ → List Check → Bool → Type 0
TellsJam M start cs met =
    within_limits M ≡ true → Play M (course_of start cs) → (met ≡ false) ↔ NoJamMet M (course_of start cs)

-- the loops of a traffic; over the limits none is told
abbrev pub loops_told : Meaning → ℕ
loops_told M = cond (within_limits M) M.loops 0

-- how often a loop sent, where there are so many; of one that there is not nothing is told
abbrev pub sends_told : ℕ → List Check → ℕ → Option ℕ
sends_told loops cs place = cond (nat_le place loops) (Some (sends place cs)) None

-- of each loop that a traffic may have
abbrev pub all_sends : Meaning → List Check → Sends
all_sends M cs = record { counts = map (sends_told (loops_told M) cs) (range_with_len 1 8) }

-- what a course from a start came to
abbrev pub account_of : Meaning → ℕ → List Check → Account
account_of M start cs = record {
  slots = length cs;
  sends = all_sends M cs;
  longest_silence = longest_silence_in cs;
  met_jam = meets_jam M start cs;
}
