-- The turns of a loop over the bytes of a mark.
use Rattle.std.proofs.Common.{◌≡◌, ℕ, ◌+◌, ◌⊎◌, inl, inr, cond, eqb, List, [], ◌∷◌, length, Ok, Err, Result, refl, arith}
use Rattle.std.proofs.lemmas.Bool.{ne_eqb}
use Rattle.site_read.specs.declared.fault.Fault.{Fault}
use Rattle.site_read.specs.declared.fault.Fault.TheVariants.{Mark}

-- the first byte from `at` on that differs from the right one
abbrev pub wrong_from : ℕ → List ℕ → List ℕ → Result (Unit {0}) Fault
wrong_from at [] ys = Ok tt
wrong_from at (x ∷ xs) [] = Ok tt
wrong_from at (x ∷ xs) (y ∷ ys) = cond (eqb x y) (wrong_from (at + 1) xs ys) (Err (Mark at))

pub wrong_here : (at x y : ℕ) (xs ys : List ℕ) → (x ≡ y → ⊥) → wrong_from at (x ∷ xs) (y ∷ ys) ≡ Err (Mark at)
wrong_here at x y xs ys ne = rw (ne_eqb x y ne) refl

pub wrong_ends : (at : ℕ) (xs ys : List ℕ) → (length xs ≡ 0) ⊎ (length ys ≡ 0) → wrong_from at xs ys ≡ Ok tt
wrong_ends at [] ys h = refl
wrong_ends at (x ∷ xs) [] h = refl
wrong_ends at (x ∷ xs) (y ∷ ys) (inl h) = absurd (omega arith)
wrong_ends at (x ∷ xs) (y ∷ ys) (inr h) = absurd (omega arith)
