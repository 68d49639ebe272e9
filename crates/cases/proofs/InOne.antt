-- Lines told in one, taken off one by one.
use Rattle.std.proofs.Common.{◌≡◌, ◌≢◌, ◌↔◌, IsTrue, ℕ, ◌+◌, ◌<◌, ◌≤◌, ◌==◌, Bool, get_or, drop, length, List, [], ◌∷◌, ◌++◌, sym, refl, ap, ◌∙◌, arith}
use Rattle.std.specs.Str.Iter.{lines_steps, lines_rest}
use Rattle.std.specs.Str.Lines.{lines}
use Rattle.std.proofs.lemmas.List.{at_drop_more, at_drop_all, append_cancel_left}
use Rattle.std.specs.declared.str.Lines.{Lines}
use Rattle.std.proofs.lemmas.Bool.Decides.{nat_tests}
use Rattle.std.proofs.lemmas.Iterator.{YieldsList}
use Rattle.std.proofs.lemmas.Iterator.Splits.{YieldsList-from_lines}
use Rattle.cases.specs.Lines.{in_one_behind}

-- one line more is taken off
pub line_taken : (ls : List (List ℕ)) (n m : ℕ) (before line text left : List ℕ) → (n < length ls) × (line ≡ get_or ls n line) → m ≡ n + 1
    → text ≡ before ++ (line ++ left) → (text ≡ in_one_behind before (drop n ls)) ↔ (left ≡ in_one_behind (44 ∷ 32 ∷ []) (drop m ls))
line_taken ls n m before line text left turn e cut =
    let step = at_drop_more (in_one_behind before) ls n line turn.0 in
    rw (e, step, ← turn.1, cut) (
      (λ h. append_cancel_left line left _ (append_cancel_left before _ _ h)),
      λ h. ap (λ x. before ++ (line ++ x)) h,
    )

-- another line stands there
pub other_line : (ls : List (List ℕ)) (n : ℕ) (before line text : List ℕ) → (n < length ls) × (line ≡ get_or ls n line)
    → ((rest : List ℕ) → text ≢ before ++ (line ++ rest)) → text ≢ in_one_behind before (drop n ls)
other_line ls n before line text turn other h =
    other _ (h ∙ at_drop_more (in_one_behind before) ls n line turn.0 ∙ ap (λ l. before ++ (l ++ in_one_behind (44 ∷ 32 ∷ []) (drop (n + 1) ls))) (sym turn.1))

-- no line is left
pub no_line : (ls : List (List ℕ)) (n : ℕ) (before text : List ℕ) → length ls ≤ n → (text ≡ in_one_behind before (drop n ls)) ↔ (text ≡ [])
no_line ls n before text h = rw (at_drop_all (in_one_behind before) ls n h) (λ e. e, λ e. e)

pub empty_is : (text : List ℕ) (r : Bool) → r ≡ (length text == 0) → IsTrue r ↔ (text ≡ [])
empty_is [] r e = (λ h. refl, λ h. e)
empty_is (b ∷ bs) r e = (λ h. absurd (grind (arith, nat_tests)), λ h. absurd (cc))

-- the lines come one by one
pub lines_come : (text : List ℕ) (s made : Lines) → s ≡ made → lines_rest made ≡ text → YieldsList lines_steps (λ x. x.now) s (lines text)
lines_come text s made e rest = YieldsList-from_lines {s = s} text (rw e rest)
