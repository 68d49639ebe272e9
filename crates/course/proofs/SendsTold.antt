-- What is told of the loops, one by one.
use Rattle.std.proofs.Common.{◌≡◌, ℕ, ◌+◌, ◌-◌, ◌<◌, ◌≤◌, List, length, get_or, set, None, Option, sym, ap, ◌∙◌, subst, arith}
use Rattle.std.proofs.lemmas.List.Edits.{fill_by_more}

-- of one loop more
pub told_more : (f : ℕ → Option ℕ) (row : List (Option ℕ)) (place : ℕ) (told : Option ℕ) → 1 ≤ place → place ≤ length row → told ≡ f place → ((k : ℕ) → k + 1 < place → get_or row k None ≡ f (k + 1)) → (k : ℕ) → k + 1 < place + 1 → get_or (set row (place - 1) told) k None ≡ f (k + 1)
told_more f row place told low high e so_far k h =
    let is : place - 1 + 1 ≡ place = omega arith in
    subst (λ x. get_or (set row (place - 1) x) k None ≡ f (k + 1)) (ap f is ∙ sym e)
    (fill_by_more (λ j. f (j + 1)) row (place - 1) None (omega arith) (λ j l. so_far j (omega arith)) k (omega arith))
