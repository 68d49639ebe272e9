-- Where a text in hex and two maps come to an end, and one byte more of the text.
use Rattle.std.proofs.Common.{◌≡◌, ℕ, ◌-◌, ◌≤◌, min, length, take, drop, get_or, List, [], ◌∷◌, ◌++◌, Option, Some, None, refl, arith, ap, append_assoc}
use Rattle.std.proofs.Math.Seq.{take-length}
use Rattle.cases.specs.Hex.{before, byte_of, bytes_of}
use Rattle.cases.specs.Differences.{first_difference_from}

-- no place is left in one of the two maps
pub no_difference : (p : ℕ) (xs ys : List ℕ) → min (length xs) (length ys) ≡ 0 → first_difference_from p xs ys ≡ None
no_difference p [] ys h = refl
no_difference p (x ∷ xs) [] h = refl
no_difference p (x ∷ xs) (y ∷ ys) h = absurd (omega arith)

-- more of them behind those that were read
abbrev pub behind : {X : Type 0} → List X → Option (List X) → Option (List X)
behind xs (Some ys) = Some (xs ++ ys)
behind xs None = None

behind_one_more : (bs : List ℕ) (b : ℕ) (ds : Option (List ℕ)) → behind (bs ++ (b ∷ [])) ds ≡ behind bs (before (Some b) ds)
behind_one_more bs b (Some ds) = ap (λ xs. Some xs) (append_assoc bs (b ∷ []) ds)
behind_one_more bs b None = refl

-- two digits read
pub one_byte_more : (bs text : List ℕ) (b : ℕ) → 2 ≤ length text → byte_of (get_or text 0 0) (get_or text 1 0) ≡ Some b
    → behind (bs ++ (b ∷ [])) (bytes_of (take (length text - 2) (drop 2 text))) ≡ behind bs (bytes_of text)
one_byte_more bs [] b long e = absurd (omega arith)
one_byte_more bs (h ∷ []) b long e = absurd (omega arith)
one_byte_more bs (h ∷ l ∷ text) b long e =
    let all : length (h ∷ l ∷ text) - 2 ≡ length text = omega arith in
    rw all (rw (take-length text) (rw e (behind_one_more bs b (bytes_of text))))
