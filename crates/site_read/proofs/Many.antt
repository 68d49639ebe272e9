-- The turns of a loop over `skips`, and what many parts leave.
use Rattle.std.proofs.Common.{◌≡◌, ℕ, zero, suc, ◌+◌, ◌-◌, ◌<◌, List, ◌∷◌, Ok, Err, Result, refl, ◌∙◌, arith}
use Rattle.site_read.specs.declared.fault.Fault.{Fault}
use Rattle.site_read.specs.Parse.{Parsed, then, many, rest_of, skips}

-- one more part, by what it leaves
pub skips_turn : (part : List ℕ → Result (List ℕ) Fault) (n i : ℕ) (bs : List ℕ) (r : Result (List ℕ) Fault) → i < n → r ≡ part bs → skips part (n - i) bs ≡ then r (skips part (n - (i + 1)))
skips_turn part n i bs r h e =
    let s : n - i ≡ suc (n - (i + 1)) = omega arith in
    rw (s, e) refl

-- what many values leave
pub skips_many : {X : Type 0} (p : List ℕ → Parsed X) (n : ℕ) (bs : List ℕ) → skips (λ b. rest_of (p b)) n bs ≡ rest_of (many p n bs)
skips_many p zero bs = refl
skips_many {X} p (suc n) bs = go (skips_many p n) (p bs)
  where
    last : (x : X) (r : Parsed (List X)) → rest_of r ≡ rest_of (then {Y = List X × List ℕ} r λ t. Ok (x ∷ t.0, t.1))
    last x (Ok t) = refl
    last x (Err e) = refl

    go : ((b : List ℕ) → skips (λ b. rest_of (p b)) n b ≡ rest_of (many p n b)) → (r : Parsed X) → then (rest_of r) (skips (λ b. rest_of (p b)) n) ≡ rest_of (then {Y = List X × List ℕ} r λ x. then (many p n x.1) λ t. Ok (x.0 ∷ t.0, t.1))
    go ih (Ok x) = ih x.1 ∙ last x.0 (many p n x.1)
    go ih (Err e) = refl
