-- The lines of the loops, one by one.
use Rattle.std.proofs.Common.{◌≡◌, ℕ, zero, suc, ◌+◌, List, [], ◌∷◌, ◌++◌, take, get_or, None, Option, sym, refl, ap, append-nil, arith}
use mathlib.Core.List.{append_assoc}
use Rattle.course.specs.Words.{sends_line, sends_lines}

-- one line more
pub line_more : (place : ℕ) (row : List (Option ℕ)) (i : ℕ) → sends_lines place (take i row) ++ sends_line (place + i) (get_or row i None) ≡ sends_lines place (take (suc i) row)
line_more place [] zero = refl
line_more place [] (suc i) = refl
line_more place (o ∷ row) zero = let e : place + 0 ≡ place = omega arith in rw e (sym (append-nil (sends_line place o)))
line_more place (o ∷ row) (suc i) =
    let e : place + suc i ≡ suc place + i = omega arith in
    rw (e, append_assoc) (ap (λ rest. sends_line place o ++ rest) (line_more (suc place) row i))
