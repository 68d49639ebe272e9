-- Runs in words: `0*3 1` says that the first three states have mark 0 and the fourth has mark 1.
use Rattle.std.specs.Prelude.{◌≡◌, ℕ, ◌^◌, ◌<◌, Bool, cond, ◌&&◌, ◌==◌, nat_lt, length, map, List, [], ◌∷◌, ◌++◌, Option, Some, None, decimal}
use Rattle.std.specs.List.{All, slice_split, join_with_byte, position_or_len, before_first, after_first}
use Rattle.std.specs.Str.{byte, all_ascii_digits}
use Rattle.std.specs.Str.Parse.{digits_value, without_leading_plus}
use Rattle.cases.specs.declared.runs.Run.{Run}

-- a run in a word: its mark, and its count behind a star unless it is a single state
abbrev pub word_of : Run → List ℕ
word_of r = decimal r.mark ++ cond (r.count == 1) [] (byte "*" ∷ decimal r.count)

-- the words of the runs, with a blank between them
abbrev pub words_of : List Run → List ℕ
words_of rs = join_with_byte (byte " ") (map word_of rs)

-- the numbers of a run that the product can have
abbrev pub IsRun : Run → Type 0
IsRun r = (r.mark < 2 ^ 16) × (r.count < 2 ^ 16)

-- whichever runs these are the words of, they are found in them
abbrev pub ReadsBack : List ℕ → Option (List Run) → Type 0
ReadsBack text found = (rs : List Run) → All IsRun rs → text ≡ words_of rs → found ≡ Some rs

-- ---- and back

-- the number that these digits stand for, if it is below 2 ^ 16
abbrev pub number_in : List ℕ → Option ℕ
number_in ds =
    cond (nat_lt 0 (length ds) && all_ascii_digits ds && nat_lt (digits_value 10 ds) (2 ^ 16)) (Some (digits_value 10 ds)) None

-- a number may have a plus before it
abbrev pub number_of : List ℕ → Option ℕ
number_of text = number_in (without_leading_plus text)

abbrev pub run_with : Option ℕ → Option ℕ → Option Run
run_with (Some m) (Some n) = Some (record { mark = m; count = n })
run_with _ _ = None

abbrev pub is_star : ℕ → Bool
is_star b = b == byte "*"

abbrev pub has_star : List ℕ → Bool
has_star word = nat_lt (position_or_len is_star word) (length word)

-- the run of a word, if it is one
abbrev pub run_of : List ℕ → Option Run
run_of word =
    cond (has_star word) (run_with (number_of (before_first is_star word)) (number_of (after_first is_star word)))
    (run_with (number_of word) (Some 1))

-- a run before the runs behind it
abbrev pub with_run : Option Run → Option (List Run) → Option (List Run)
with_run (Some r) (Some rs) = Some (r ∷ rs)
with_run _ _ = None

-- the runs of so many words, if all are
abbrev pub runs_in : List (List ℕ) → Option (List Run)
runs_in [] = Some []
runs_in (w ∷ ws) = with_run (run_of w) (runs_in ws)

abbrev pub is_blank : ℕ → Bool
is_blank b = b == byte " "

-- the runs of a text: none at all in an empty one
abbrev pub runs_of : List ℕ → Option (List Run)
runs_of text = cond (length text == 0) (Some []) (runs_in (slice_split is_blank text))
