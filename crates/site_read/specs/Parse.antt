-- What a parser of the file's bytes answers, and how parsers follow one another.
use Rattle.std.specs.Prelude.{◌≡◌, ℕ, zero, suc, List, [], ◌∷◌, Ok, Err, Result}
use Rattle.std.specs.Borrow.{Bor}
use Rattle.site_read.specs.declared.fault.Fault.{Fault}

-- a value and the bytes that are left, or a fault
abbrev pub Parsed : Type 0 → Type 0
Parsed X = Result (X × List ℕ) Fault

-- goes on with what came, or stays at the fault
abbrev pub then : {X Y : Type 0} → Result X Fault → (X → Result Y Fault) → Result Y Fault
then (Ok x) f = f x
then (Err e) f = Err e

-- a result of the code that lends what is left of the file, with the bytes in place of the loan
abbrev pub seen : {X : Type 0} → Result (X × Bor (List ℕ)) Fault → Parsed X
seen (Ok p) = Ok (p.0, p.1.now)
seen (Err e) = Err e

-- the same where what is read stands for something else
abbrev pub seen_as : {Y X : Type 0} → (Y → X) → Result (Y × Bor (List ℕ)) Fault → Parsed X
seen_as f (Ok p) = Ok (f p.0, p.1.now)
seen_as f (Err e) = Err e

-- the same of a result that lends only what is left
abbrev pub seen_rest : Result (Bor (List ℕ)) Fault → Result (List ℕ) Fault
seen_rest (Ok r) = Ok r.now
seen_rest (Err e) = Err e

-- what a parser leaves
abbrev pub rest_of : {X : Type 0} → Parsed X → Result (List ℕ) Fault
rest_of (Ok p) = Ok p.1
rest_of (Err e) = Err e

-- what a parser reads
abbrev pub value_of : {X : Type 0} → Parsed X → Result X Fault
value_of (Ok p) = Ok p.0
value_of (Err e) = Err e

-- n values, one after another
abbrev pub many : {X : Type 0} → (List ℕ → Parsed X) → ℕ → List ℕ → Parsed (List X)
many p zero bs = Ok ([], bs)
many p (suc n) bs = then (p bs) λ x. then (many p n x.1) λ t. Ok (x.0 ∷ t.0, t.1)

-- what n parts leave, one after another, each skipped by `part`
abbrev pub skips : (List ℕ → Result (List ℕ) Fault) → ℕ → List ℕ → Result (List ℕ) Fault
skips part zero bs = Ok bs
skips part (suc n) bs = then (part bs) (skips part n)

-- each answer of the code is what `part` leaves
abbrev pub Skips : (Bor (List ℕ) → Result (Bor (List ℕ)) Fault → Type 0) → (List ℕ → Result (List ℕ) Fault) → Type 0
Skips answers part = (bs : Bor (List ℕ)) (r : Result (Bor (List ℕ)) Fault) → answers bs r → seen_rest r ≡ part bs.now
