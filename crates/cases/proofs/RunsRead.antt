-- The runs of a text, read word by word.
use Rattle.std.proofs.Common.{◌≡◌, ℕ, ◌+◌, ◌<◌, ◌≤◌, ◌==◌, true, false, get_or, drop, length, List, [], ◌∷◌, ◌++◌, Option, Some, None, append_assoc, lit<, refl, ap}
use Rattle.std.specs.List.{slice_split}
use Rattle.std.proofs.lemmas.List.{at_drop_more, at_drop_all, append-nil}
use Rattle.std.specs.Str.Iter.{split_steps, split_text, split_has_more, split_pattern}
use Rattle.std.specs.Str.Pattern.{FindsChar}
use Rattle.std.specs.declared.str.Split.{Split}
use Rattle.std.proofs.lemmas.Iterator.{YieldsList}
use Rattle.std.proofs.lemmas.Iterator.Splits.{YieldsList-from_str_split}
use Rattle.cases.specs.declared.runs.Run.{Run}
use Rattle.cases.specs.Words.{is_blank, run_of, runs_in, with_run, runs_of}
use Rattle.cases.proofs.Ends.{behind}

pub behind_nothing : (rs : Option (List Run)) → behind [] rs ≡ rs
behind_nothing (Some rs) = refl
behind_nothing None = refl

one_more : (rs : List Run) (r : Run) (more : Option (List Run)) → behind (rs ++ (r ∷ [])) more ≡ behind rs (with_run (Some r) more)
one_more rs r (Some more) = ap (λ xs. Some xs) (append_assoc rs (r ∷ []) more)
one_more rs r None = refl

-- one word more is read
pub word_read : (rs : List Run) (ws : List (List ℕ)) (n m : ℕ) (w : List ℕ) (r : Run) → (n < length ws) × (w ≡ get_or ws n w) → m ≡ n + 1
    → Some r ≡ run_of w → behind (rs ++ (r ∷ [])) (runs_in (drop m ws)) ≡ behind rs (runs_in (drop n ws))
word_read rs ws n m w r turn e is =
    let step = at_drop_more runs_in ws n w turn.0 in
    rw (e, step, ← turn.1, ← is) (one_more rs r (runs_in (drop (n + 1) ws)))

-- a word is no run
pub no_word : (rs : List Run) (ws : List (List ℕ)) (n : ℕ) (w : List ℕ) → (n < length ws) × (w ≡ get_or ws n w)
    → None ≡ run_of w → behind rs (runs_in (drop n ws)) ≡ None
no_word rs ws n w turn is = rw (at_drop_more runs_in ws n w turn.0, ← turn.1, ← is) refl

-- no word is left
pub all_read : (rs : List Run) (ws : List (List ℕ)) (n : ℕ) → length ws ≤ n → behind rs (runs_in (drop n ws)) ≡ Some rs
all_read rs ws n h = rw (at_drop_all runs_in ws n h) (ap (λ xs. Some xs) (append-nil rs))

pub in_words : (text : List ℕ) → (length text == 0) ≡ false → runs_of text ≡ runs_in (slice_split is_blank text)
in_words text e = rw e refl

-- the words come one by one
pub words_come : (text : List ℕ) (s made : Split ℕ) → s ≡ made → split_text made ≡ text → split_has_more made ≡ true → split_pattern made ≡ 32
    → YieldsList (split_steps FindsChar (λ a b. b ≡ a)) (λ x. x.now) s (slice_split is_blank text)
words_come text s made e rest more pattern =
    YieldsList-from_str_split {s = s} 32 text (lit< tt) (rw e rest) (rw e more) (rw e pattern)
