-- Which files are read, and as which sites.
use Rattle.std.proofs.Common.{◌≡◌, ℕ, zero, suc, ◌+◌, ◌<◌, ◌≤◌, Bool, true, false, cond, leb, List, [], ◌∷◌, ◌++◌, length, Some, None, Ok, Err, Option, sym, refl, ap, ◌∙◌, ap₂, append-nil, arith}
use Rattle.std.proofs.lemmas.Bool.{le-leb, leb-true, lt-leb, leb-false, false≢true}
use Rattle.site_read.specs.declared.fault.Fault.{Fault}
use Rattle.site_read.specs.Header.{header}
use Rattle.site_read.specs.Parse.{then}
use Rattle.site_read.specs.Tables.{Table}
use Rattle.site_read.specs.Fields.{table}
use Rattle.site_read.specs.Format.{Bytes, encode, Places, placed, held, loop_count, file_of, no_gap, LawfulPlace}
use Rattle.site_read.specs.Sites.{slot_table, FilesAreRead, OnlyFilesAreRead}
use Rattle.site_read.proofs.Sound.{never, same_ok, then_ok, all_three, table_lawful}
use Rattle.site_read.proofs.Decoded.{decodes, three_parts}
use Rattle.site_read.proofs.Encoded.{encodes, bytes_after}
use Rattle.site_read.proofs.Headers.{header_exact, header_back}

-- in a file of `count` loops, place `place` holds a loop exactly where there are so many
abbrev Filled : ℕ → ℕ → ℕ → Type 0
Filled count place held = (place ≤ count → held ≡ 1) × (count < place → held ≡ 0)

-- the places that hold a loop are as many as the loops
counted : (n a b c d : ℕ) → 1 ≤ n → n ≤ 4 → Filled n 1 a → Filled n 2 b → Filled n 3 c → Filled n 4 d → a + b + c + d ≡ n
counted zero a b c d low high fa fb fc fd = absurd (omega arith)
counted (suc zero) a b c d low high fa fb fc fd = omega (arith, fa.0 (omega arith), fb.1 (omega arith), fc.1 (omega arith), fd.1 (omega arith))
counted (suc (suc zero)) a b c d low high fa fb fc fd = omega (arith, fa.0 (omega arith), fb.0 (omega arith), fc.1 (omega arith), fd.1 (omega arith))
counted (suc (suc (suc zero))) a b c d low high fa fb fc fd = omega (arith, fa.0 (omega arith), fb.0 (omega arith), fc.0 (omega arith), fd.1 (omega arith))
counted (suc (suc (suc (suc n)))) a b c d low high fa fb fc fd = omega (arith, fa.0 (omega arith), fb.0 (omega arith), fc.0 (omega arith), fd.0 (omega arith))

-- a place holds no more than the one before it
falls : (n k a b : ℕ) → Filled n k a → Filled n (k + 1) b → b ≤ a
falls n k a b fa fb = go (leb k n) (leb (k + 1) n) refl refl
  where
    go : (s t : Bool) → leb k n ≡ s → leb (k + 1) n ≡ t → b ≤ a
    go true true e f = omega (arith, fa.0 (leb-true k n e), fb.0 (leb-true (k + 1) n f))
    go s false e f = omega (arith, fb.1 (leb-false (k + 1) n f))
    go false true e f = let x = leb-false k n e in let y = leb-true (k + 1) n f in absurd (omega arith)

-- the part of a file that place `place` was read from, in a file of `count` loops
record Read (count place : ℕ) (bs : List ℕ) (x : Option Table × List ℕ) : Type 0 where
  lawful : LawfulPlace x.0
  exact : bs ≡ placed x.0 ++ x.1
  bytes : Bytes x.1
  filled : Filled count place (held x.0)

slot_read : (size count place : ℕ) (bs : List ℕ) → Bytes bs → (x : Option Table × List ℕ) → slot_table size count place bs ≡ Ok x → Read count place bs x
slot_read size count place bs h x q = go (leb place count) refl q
  where
    go : (b : Bool) → leb place count ≡ b → cond b (then (table place size bs) λ t. Ok (Some t.0, t.1)) (Ok (None, bs)) ≡ Ok x → Read count place bs x
    go true e r =
        let t = then_ok (table place size bs) (λ t. Ok (Some t.0, t.1)) x r in
        let w = encodes place size bs h t.0 t.1 in
        let l : place ≤ count = leb-true place count e in
        rw (← same_ok (Some t.0.0, t.0.1) x t.2)
        (record { lawful = table_lawful place size bs t.0 t.1; exact = w; bytes = bytes_after (encode t.0.0) t.0.1 (rw w at h); filled = (λ _. refl, λ m. absurd (omega arith)) })
    go false e r =
        let l : count < place = leb-false place count e in
        rw (← same_ok (None, bs) x r)
        (record { lawful = tt; exact = refl; bytes = h; filled = (λ m. absurd (omega arith), λ _. refl) })

-- places are filled in order where the numbers held do not rise
ordered : (p q : Option Table) → held q ≤ held p → no_gap p q ≡ true
ordered (Some t) q h = refl
ordered None None h = refl
ordered None (Some t) h = absurd (omega arith)

falling : (p q : Option Table) → no_gap p q ≡ true → held q ≤ held p
falling (Some t) None h = omega arith
falling (Some t) (Some u) h = omega arith
falling None None h = omega arith
falling None (Some t) h = absurd (false≢true h)

pub at_most_one : (p : Option Table) → held p ≤ 1
at_most_one None = omega arith
at_most_one (Some t) = omega arith

nothing_left : (bs : List ℕ) → leb 1 (length bs) ≡ false → bs ≡ []
nothing_left [] h = refl
nothing_left (b ∷ bs) h = let l = leb-false 1 (length (b ∷ bs)) h in absurd (omega arith)

pub only_files_are_read : OnlyFilesAreRead
only_files_are_read file h p q =
    let size : ℕ = length file in
    let hd = then_ok (header file) _ p q in
    let n : ℕ = hd.0.0 in
    let e₀ = header_exact file h hd.0 hd.1 in
    let a = then_ok (slot_table size n 1 hd.0.1) _ p hd.2 in
    let ra = slot_read size n 1 hd.0.1 e₀.bytes a.0 a.1 in
    let b = then_ok (slot_table size n 2 a.0.1) _ p a.2 in
    let rb = slot_read size n 2 a.0.1 ra.bytes b.0 b.1 in
    let c = then_ok (slot_table size n 3 b.0.1) _ p b.2 in
    let rc = slot_read size n 3 b.0.1 rb.bytes c.0 c.1 in
    let d = then_ok (slot_table size n 4 c.0.1) _ p c.2 in
    let rd = slot_read size n 4 c.0.1 rc.bytes d.0 d.1 in
    let z = last (leb 1 (length d.0.1)) _ _ d.2 in
    let end : d.0.1 ≡ [] = nothing_left d.0.1 z.0 in
    let n-is : held a.0.0 + held b.0.0 + held c.0.0 + held d.0.0 ≡ n
    = counted n (held a.0.0) (held b.0.0) (held c.0.0) (held d.0.0) e₀.low e₀.high ra.filled rb.filled rc.filled rd.filled in
    let o₁ = ordered a.0.0 b.0.0 (falls n 1 (held a.0.0) (held b.0.0) ra.filled rb.filled) in
    let o₂ = ordered b.0.0 c.0.0 (falls n 2 (held b.0.0) (held c.0.0) rb.filled rc.filled) in
    let o₃ = ordered c.0.0 d.0.0 (falls n 3 (held c.0.0) (held d.0.0) rc.filled rd.filled) in
    let t₄ : c.0.1 ≡ placed d.0.0 = rd.exact ∙ ap (λ (l : List ℕ). placed d.0.0 ++ l) end ∙ append-nil (placed d.0.0) in
    let t₃ : b.0.1 ≡ placed c.0.0 ++ placed d.0.0 = rc.exact ∙ ap (λ (l : List ℕ). placed c.0.0 ++ l) t₄ in
    let t₂ : a.0.1 ≡ placed b.0.0 ++ (placed c.0.0 ++ placed d.0.0) = rb.exact ∙ ap (λ (l : List ℕ). placed b.0.0 ++ l) t₃ in
    let t₁ : hd.0.1 ≡ placed a.0.0 ++ (placed b.0.0 ++ (placed c.0.0 ++ placed d.0.0)) = ra.exact ∙ ap (λ (l : List ℕ). placed a.0.0 ++ l) t₂ in
    rw (← z.1) (
      record {
        first = ra.lawful;
        second = rb.lawful;
        third = rc.lawful;
        fourth = rd.lawful;
        order = all_three (no_gap a.0.0 b.0.0) (no_gap b.0.0 c.0.0) (no_gap c.0.0 d.0.0) o₁ o₂ o₃;
        some = λ none. omega (arith, none, n-is, e₀.low);
      },
      e₀.exact ∙ ap₂ (λ (m : ℕ) (l : List ℕ). 76 ∷ 75 ∷ 84 ∷ 0 ∷ 1 ∷ m ∷ l) (sym n-is) t₁,
    )
  where
    last : (b : Bool) (x : Places) (e : Fault) → cond b (Err e) (Ok x) ≡ Ok p → (b ≡ false) × (x ≡ p)
    last true x e q = never e p q
    last false x e q = (refl, same_ok x p q)

-- a place reads its own record, if it has one
slot_back : (size count place : ℕ) (o : Option Table) (rest : List ℕ) → LawfulPlace o → (held o ≡ 1 → place ≤ count) → (held o ≡ 0 → count < place) → slot_table size count place (placed o ++ rest) ≡ Ok (o, rest)
slot_back size count place None rest l some none = rw (lt-leb place count (none refl)) refl
slot_back size count place (Some t) rest l some none = rw (le-leb place count (some refl), decodes t l place size rest) refl

pub files_are_read : FilesAreRead
files_are_read p l =
    let n : ℕ = loop_count p in
    let size : ℕ = length (file_of p) in
    let o = three_parts (no_gap p.first p.second) (no_gap p.second p.third) (no_gap p.third p.fourth) l.order in
    let f₁ = falling p.first p.second o.0 in
    let f₂ = falling p.second p.third o.1 in
    let f₃ = falling p.third p.fourth o.2 in
    let m = at_most_one p.first in
    let low : 1 ≤ n = above_none n l.some in
    let high : n ≤ 4 = omega arith in
    let r₄ = ap (slot_table size n 4) (sym (append-nil (placed p.fourth))) ∙ slot_back size n 4 p.fourth [] l.fourth (λ e. omega arith) (λ e. omega arith) in
    let r₃ = slot_back size n 3 p.third (placed p.fourth) l.third (λ e. omega arith) (λ e. omega arith) in
    let r₂ = slot_back size n 2 p.second (placed p.third ++ placed p.fourth) l.second (λ e. omega arith) (λ e. omega arith) in
    let r₁ = slot_back size n 1 p.first (placed p.second ++ (placed p.third ++ placed p.fourth)) l.first (λ e. omega arith) (λ e. omega arith) in
    rw (header_back n (placed p.first ++ (placed p.second ++ (placed p.third ++ placed p.fourth))) low high, r₁, r₂, r₃, r₄) refl
  where
    above_none : (n : ℕ) → (n ≡ 0 → ⊥) → 1 ≤ n
    above_none zero h = absurd (h refl)
    above_none (suc n) h = omega arith
