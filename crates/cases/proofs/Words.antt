-- The words of runs are read as these runs.
use Rattle.std.proofs.Common.{◌≡◌, ℕ, ◌^◌, ◌<◌, ◌==◌, eqb, cond, Bool, true, false, length, map, List, [], ◌∷◌, ◌++◌, Option, Some, sym, refl, ap, ◌∙◌, arith}
use Rattle.std.specs.Prelude.{decimal}
use Rattle.std.specs.List.{All, slice_split, join_with_byte, position_or_len, before_first, after_first}
use Rattle.std.specs.Str.Parse.{AllDigits, without_leading_plus}
use Rattle.std.proofs.lemmas.Fmt.{decimal_is_IsNumeral, decimal_nonempty}
use Rattle.std.proofs.lemmas.Str.Parse.{digit_from_value, without_leading_plus_none, not_in_digits}
use Rattle.std.proofs.lemmas.List.{append-nil, length-append}
use Rattle.std.proofs.Math.Seq.{take-append_seam, drop-append-add}
use Rattle.std.proofs.lemmas.List.Splits.{slice_split_none, slice_split_at}
use Rattle.std.proofs.lemmas.List.Elements.{All-nil, All-cons, All-head, All-tail, All-append, All-map, All-weaker}
use Rattle.std.proofs.lemmas.Bool.Decides.{nat_tests}
use Rattle.cases.specs.declared.runs.Run.{Run}
use Rattle.cases.specs.Words.{is_blank, is_star, has_star, word_of, words_of, IsRun, ReadsBack, number_of, run_of, runs_in, runs_of}
use Rattle.cases.proofs.RunsRead.{in_words}
use Rattle.cases.proofs.Reading.{own, is_number, is_number-decides}

-- no element passes
abbrev Free : (ℕ → Bool) → List ℕ → Type 0
Free p xs = All (λ x. p x ≡ false) xs

-- no digit is a character below the digits
no_digit : (c : ℕ) → c < 48 → (ds : List ℕ) → AllDigits 10 ds → Free (λ b. eqb b c) ds
no_digit c low [] h = All-nil _
no_digit c low (d ∷ ds) h =
    let range = digit_from_value d h.0 in
    let other : eqb d c ≡ false = grind (arith, nat_tests) in
    All-cons (λ b. eqb b c ≡ false) d ds other (no_digit c low ds h.1)

decimal_free : (c n : ℕ) → c < 48 → n < 2 ^ 16 → Free (λ b. eqb b c) (decimal n)
decimal_free c n low small = no_digit c low (decimal n) (decimal_is_IsNumeral n (omega arith)).0.1

number_back : (n : ℕ) → n < 2 ^ 16 → number_of (decimal n) ≡ Some n
number_back n small =
    let is = decimal_is_IsNumeral n (omega arith) in
    let plain : without_leading_plus (decimal n) ≡ decimal n = without_leading_plus_none (decimal n) (not_in_digits own (decimal n) 43 (own.from _ is.0.1) (λ r. omega arith) 0 is.0.0) in
    let yes : is_number (decimal n) ≡ true = (is_number-decides (decimal n)).1 (is.0, omega (arith, is.1)) in
    rw (plain, yes, is.1) refl

-- the place of the first element that passes, and what there is where none does
place_of : (p : ℕ → Bool) (xs : List ℕ) (y : ℕ) (ys : List ℕ) → Free p xs → p y ≡ true → position_or_len p (xs ++ (y ∷ ys)) ≡ length xs
place_of p [] y ys free here = rw here refl
place_of p (x ∷ xs) y ys free here =
    let more = place_of p xs y ys (All-tail (λ x. p x ≡ false) x xs free) here in
    let first = All-head (λ x. p x ≡ false) x xs free in
    rw (first, more) (omega arith)

no_place : (p : ℕ → Bool) (xs : List ℕ) → Free p xs → position_or_len p xs ≡ length xs
no_place p [] free = refl
no_place p (x ∷ xs) free =
    let more = no_place p xs (All-tail (λ x. p x ≡ false) x xs free) in
    let first = All-head (λ x. p x ≡ false) x xs free in
    rw (first, more) (omega arith)

-- words without a blank, joined by blanks, are cut into these words
words_cut : (w : List ℕ) (ws : List (List ℕ)) → All (Free is_blank) (w ∷ ws) → slice_split is_blank (join_with_byte 32 (w ∷ ws)) ≡ w ∷ ws
words_cut w [] free = slice_split_none is_blank w (All-head (Free is_blank) w [] free)
words_cut w (v ∷ vs) free =
    slice_split_at is_blank w 32 (join_with_byte 32 (v ∷ vs)) (All-head (Free is_blank) w (v ∷ vs) free) refl
    ∙ ap (λ xs. w ∷ xs) (words_cut v vs (All-tail (Free is_blank) w (v ∷ vs) free))

-- a word has no blank in it
word_solid : (r : Run) → IsRun r → Free is_blank (word_of r)
word_solid r fit =
    All-append (λ b. is_blank b ≡ false) (decimal r.mark) _ (decimal_free 32 r.mark (omega arith) fit.0)
    (elim (r.count == 1) as (λ t. Free is_blank (cond t [] (42 ∷ decimal r.count))) [
      | true ↦ All-nil _
      | false ↦ All-cons (λ b. is_blank b ≡ false) 42 (decimal r.count) refl (decimal_free 32 r.count (omega arith) fit.1)
    ])

single_back : (m : ℕ) → m < 2 ^ 16 → run_of (decimal m) ≡ Some (record { mark = m; count = 1 })
single_back m small =
    let none = no_place is_star (decimal m) (decimal_free 42 m (omega arith) small) in
    let no : has_star (decimal m) ≡ false = rw none (grind (arith, nat_tests)) in
    rw (no, number_back m small) refl

many_back : (m n : ℕ) → m < 2 ^ 16 → n < 2 ^ 16 → run_of (decimal m ++ (42 ∷ decimal n)) ≡ Some (record { mark = m; count = n })
many_back m n small few =
    let word = decimal m ++ (42 ∷ decimal n) in
    let place : position_or_len is_star word ≡ length (decimal m) = place_of is_star (decimal m) 42 (decimal n) (decimal_free 42 m (omega arith) small) refl in
    let yes : has_star word ≡ true = rw place (simp length-append (grind (arith, nat_tests))) in
    let before : before_first is_star word ≡ decimal m = rw place (take-append_seam (decimal m) _) in
    let after : after_first is_star word ≡ decimal n = rw place (drop-append-add (decimal m) (42 ∷ decimal n) 1) in
    rw (yes, before, after, number_back m small, number_back n few) refl

run_back : (r : Run) → IsRun r → run_of (word_of r) ≡ Some r
run_back r fit =
    let single = single_back r.mark fit.0 in
    let many = many_back r.mark r.count fit.0 fit.1 in
    let one : (r.count == 1) ≡ true → r.count ≡ 1 = λ e. grind (arith, nat_tests) in
    elim (r.count == 1) as (λ t. ((t ≡ true) → r.count ≡ 1) → run_of (decimal r.mark ++ cond t [] (42 ∷ decimal r.count)) ≡ Some r) [
      | true ↦ λ e. rw (append-nil (decimal r.mark)) (single ∙ ap (λ n. Some (record { mark = r.mark; count = n })) (sym (e refl)))
      | false ↦ λ e. many
    ] one

all_back : (rs : List Run) → All IsRun rs → runs_in (map word_of rs) ≡ Some rs
all_back [] fit = refl
all_back (r ∷ rs) fit = rw (run_back r (All-head IsRun r rs fit), all_back rs (All-tail IsRun r rs fit)) refl

not_empty : (w : List ℕ) (ws : List (List ℕ)) → 0 < length w → (length (join_with_byte 32 (w ∷ ws)) == 0) ≡ false
not_empty w [] h = grind (arith, nat_tests)
not_empty w (v ∷ vs) h = simp length-append (grind (arith, nat_tests))

-- the words of runs are read as these runs
pub words_back : (rs : List Run) → All IsRun rs → runs_of (words_of rs) ≡ Some rs
words_back [] fit = refl
words_back (r ∷ rs) fit =
    let here = All-head IsRun r rs fit in
    let long : 0 < length (word_of r) = simp length-append (omega (arith, decimal_nonempty r.mark (omega (arith, here.0)))) in
    let solid = All-map (Free is_blank) word_of (r ∷ rs) (All-weaker IsRun (λ x. Free is_blank (word_of x)) word_solid (r ∷ rs) fit) in
    in_words (words_of (r ∷ rs)) (not_empty (word_of r) (map word_of rs) long)
    ∙ ap runs_in (words_cut (word_of r) (map word_of rs) solid) ∙ all_back (r ∷ rs) fit

-- so what is read of a text is read back
pub reads_back : (text : List ℕ) (found : Option (List Run)) → found ≡ runs_of text → ReadsBack text found
reads_back text found read rs fit e = read ∙ ap runs_of e ∙ words_back rs fit
