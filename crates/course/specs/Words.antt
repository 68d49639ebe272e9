-- What a course came to, in words.
use Rattle.std.specs.Prelude.{ℕ, suc, Bool, true, false, List, [], ◌∷◌, ◌++◌, Some, None, Option, codes, decimal}
use Rattle.course.specs.declared.account.Sends.{Sends}
use Rattle.course.specs.declared.account.Account.{Account}

-- a line for a loop of which something is told
abbrev pub sends_line : ℕ → Option ℕ → List ℕ
sends_line place None = []
sends_line place (Some n) = codes "sends of loop " ++ (decimal place ++ (codes ": " ++ (decimal n ++ codes "\n")))

-- the lines of the loops, numbered from this one on
abbrev pub sends_lines : ℕ → List (Option ℕ) → List ℕ
sends_lines place [] = []
sends_lines place (o ∷ os) = sends_line place o ++ sends_lines (suc place) os

abbrev pub sends_words : Sends → List ℕ
sends_words s = sends_lines 1 s.counts

abbrev pub jam_words : Bool → List ℕ
jam_words true = codes "a jam was met"
jam_words false = codes "no jam met"

abbrev pub account_words : Account → List ℕ
account_words a =
    codes "slots: " ++ (decimal a.slots ++ (codes "\n" ++ (sends_words a.sends ++ (codes "longest silence: " ++ (decimal a.longest_silence ++ (codes "\n" ++ jam_words a.met_jam))))))
