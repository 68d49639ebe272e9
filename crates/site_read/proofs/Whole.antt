-- Loading the records of a file gives the tables of the file.
use Rattle.std.proofs.Common.{◌≡◌, ℕ, suc, ◌-◌, ◌<◌, Bool, true, false, cond, ltb, leb, List, [], ◌∷◌, ◌++◌, ◌↔◌, length, get_or, take, Some, None, Ok, Err, Option, Result, sym, refl, ap, ◌∙◌, append-nil, arith}
use Rattle.std.specs.List.{flat_map}
use Rattle.std.proofs.lemmas.List.{take_at, length-append}
use Rattle.std.proofs.lemmas.Bool.{and_from, lt-ltb}
use Rattle.site_read.specs.declared.fault.Fault.{Fault}
use Rattle.site_read.specs.declared.fault.Fault.TheVariants.{Trailing}
use Rattle.site_read.specs.Header.{header}
use Rattle.site_read.specs.Parse.{Parsed, then}
use Rattle.site_read.specs.Tables.{Table, by_regions, by_contract, every, Lawful}
use Rattle.site_read.specs.Fields.{regions, table}
use Rattle.site_read.specs.Format.{encode, encode_row, Bytes, Places}
use Rattle.site_read.specs.Sites.{piece_table, slot_table, file_tables, site}
use Rattle.site_read.specs.Records.{Piece, Pieces, piece, before, slot, pieces}
use Rattle.site_read.proofs.Sound.{never, table_lawful}
use Rattle.site_read.proofs.Decoded.{gaps_back, regions_back}
use Rattle.site_read.proofs.Encoded.{encodes, bytes_after}
use Rattle.site_read.proofs.Headers.{header_exact}

front_is : (xs ys bs : List ℕ) → bs ≡ xs ++ ys → before bs ys ≡ xs
front_is xs ys bs e =
    let n : length xs ≡ length bs - length ys = omega (arith, ap length e ∙ length-append xs ys) in
    ap (take (length bs - length ys)) e ∙ take_at xs ys (length bs - length ys) n

module _ (place size : ℕ) where
  -- a record by itself reads as its table
  piece_reads : (t : Table) (at : ℕ) → Lawful t → piece_table place size (Some (piece t (encode t) at)) ≡ Ok (Some t)
  piece_reads (by_regions rs) at l =
      let e : regions place size (length rs ∷ flat_map encode_row rs) ≡ Ok (rs, [])
      = ap (λ (b : List ℕ). regions place size (length rs ∷ b)) (sym (append-nil (flat_map encode_row rs))) ∙ regions_back place size rs [] l in
      rw e refl
  piece_reads (by_contract g) at l =
      let e = gaps_back place size g [] l in rw e refl

  read : (bs : List ℕ) → Bytes bs → (x : Table × List ℕ) → table place size bs ≡ Ok x → (piece_table place size (Some (piece x.0 (before bs x.1) (size - length bs))) ≡ Ok (Some x.0)) × Bytes x.1
  read bs h x q =
      let e = encodes place size bs h x q in
      (rw (front_is (encode x.0) x.1 bs e) (piece_reads x.0 (size - length bs) (table_lawful place size bs x q)), bytes_after (encode x.0) x.1 (rw e at h))

  module _ {Y : Type 0} (count : ℕ) (K : Option Piece × List ℕ → Result Y Fault) (L : Option Table × List ℕ → Result Y Fault) where
    slot_step : (bs : List ℕ) → Bytes bs → ((p : Option Piece) (t : Option Table) (r : List ℕ) → piece_table place size p ≡ Ok t → Bytes r → K (p, r) ≡ L (t, r)) → then (slot size count place bs) K ≡ then (slot_table size count place bs) L
    slot_step bs h k = go (leb place count) (table place size bs) refl
      where
        go : (s : Bool) (r : Parsed Table) → table place size bs ≡ r → then {X = Option Piece × List ℕ} (cond s (then {X = Piece × List ℕ} (then r λ t. Ok (piece t.0 (before bs t.1) (size - length bs), t.1)) λ p. Ok (Some p.0, p.1)) (Ok (None, bs))) K ≡ then {X = Option Table × List ℕ} (cond s (then r λ t. Ok (Some t.0, t.1)) (Ok (None, bs))) L
        go false r q = k None None bs refl h
        go true (Ok x) q = let w = read bs h x q in k _ (Some x.0) x.1 w.0 w.1
        go true (Err e) q = refl

-- the four loads
abbrev loads : ℕ → Pieces → Result Places Fault
loads size p =
    then (piece_table 1 size p.first) λ a.
    then (piece_table 2 size p.second) λ b.
    then (piece_table 3 size p.third) λ c.
    then (piece_table 4 size p.fourth) λ d.
    Ok (record { first = a; second = b; third = c; fourth = d })

then_assoc : {X Y Z : Type 0} (r : Result X Fault) (f : X → Result Y Fault) (g : Y → Result Z Fault) → then (then r f) g ≡ then r (λ x. then (f x) g)
then_assoc (Ok x) f g = refl
then_assoc (Err e) f g = refl

-- the last check, and the four tables
last_step : (b : Bool) (size : ℕ) (p₁ p₂ p₃ p₄ : Option Piece) (t₁ t₂ t₃ t₄ : Option Table) (e : Fault) → piece_table 1 size p₁ ≡ Ok t₁ → piece_table 2 size p₂ ≡ Ok t₂ → piece_table 3 size p₃ ≡ Ok t₃ → piece_table 4 size p₄ ≡ Ok t₄ → then (cond b (Err e) (Ok (record { first = p₁; second = p₂; third = p₃; fourth = p₄ }))) (loads size) ≡ cond b (Err e) (Ok (record { first = t₁; second = t₂; third = t₃; fourth = t₄ }))
last_step true size p₁ p₂ p₃ p₄ t₁ t₂ t₃ t₄ e h₁ h₂ h₃ h₄ = refl
last_step false size p₁ p₂ p₃ p₄ t₁ t₂ t₃ t₄ e h₁ h₂ h₃ h₄ = rw (h₁, h₂, h₃, h₄) refl

pub whole : (file : List ℕ) → Bytes file → file_tables file ≡ site file
whole file h = go (header file) refl
  where
    go : (r : Parsed ℕ) → header file ≡ r → file_tables file ≡ site file
    go (Err e) q = rw q refl
    go (Ok x) q =
        rw q
        (then_assoc (slot (length file) x.0 1 x.1) _ (loads (length file))
        ∙ slot_step 1 (length file) x.0 _ _ x.1 (header_exact file h x q).bytes (λ p₁ t₁ r₁ e₁ b₁.
        then_assoc (slot (length file) x.0 2 r₁) _ (loads (length file))
        ∙ slot_step 2 (length file) x.0 _ _ r₁ b₁ (λ p₂ t₂ r₂ e₂ b₂.
        then_assoc (slot (length file) x.0 3 r₂) _ (loads (length file))
        ∙ slot_step 3 (length file) x.0 _ _ r₂ b₂ (λ p₃ t₃ r₃ e₃ b₃.
        then_assoc (slot (length file) x.0 4 r₃) _ (loads (length file))
        ∙ slot_step 4 (length file) x.0 _ _ r₃ b₃ (λ p₄ t₄ r₄ e₄ b₄.
        last_step (leb 1 (length r₄)) (length file) p₁ p₂ p₃ p₄ t₁ t₂ t₃ t₄ (Trailing (length file - length r₄)) e₁ e₂ e₃ e₄)))))

-- the last check, by what it refuses
last_fault : {X Y : Type 0} (b : Bool) (x : X) (y : Y) (e : Fault) → then {Y = Unit {0}} (cond b (Err e) (Ok x)) (λ _. Ok tt) ≡ then {Y = Unit {0}} (cond b (Err e) (Ok y)) (λ _. Ok tt)
last_fault true x y e = refl
last_fault false x y e = refl

-- the records are refused as the tables are
whole_fault : (file : List ℕ) → Bytes file → then {Y = Unit {0}} (pieces file) (λ _. Ok tt) ≡ then {Y = Unit {0}} (site file) (λ _. Ok tt)
whole_fault file h = go (header file) refl
  where
    step : {X Y : Type 0} (place count : ℕ) (bs : List ℕ) (f : Option Piece × List ℕ → Result X Fault) (g : Option Table × List ℕ → Result Y Fault) → Bytes bs → ((p : Option Piece) (t : Option Table) (r : List ℕ) → Bytes r → then {Y = Unit {0}} (f (p, r)) (λ _. Ok tt) ≡ then {Y = Unit {0}} (g (t, r)) (λ _. Ok tt)) → then {Y = Unit {0}} (then (slot (length file) count place bs) f) (λ _. Ok tt) ≡ then {Y = Unit {0}} (then (slot_table (length file) count place bs) g) (λ _. Ok tt)
    step place count bs f g b k =
        then_assoc (slot (length file) count place bs) f (λ _. Ok tt)
        ∙ slot_step place (length file) count _ _ bs b (λ p t r _ c. k p t r c)
        ∙ sym (then_assoc (slot_table (length file) count place bs) g (λ _. Ok tt))

    go : (r : Parsed ℕ) → header file ≡ r → then {Y = Unit {0}} (pieces file) (λ _. Ok tt) ≡ then {Y = Unit {0}} (site file) (λ _. Ok tt)
    go (Err e) q = rw q refl
    go (Ok x) q =
        rw q
        (step 1 x.0 x.1 _ _ (header_exact file h x q).bytes (λ p₁ t₁ r₁ b₁.
        step 2 x.0 r₁ _ _ b₁ (λ p₂ t₂ r₂ b₂.
        step 3 x.0 r₂ _ _ b₂ (λ p₃ t₃ r₃ b₃.
        step 4 x.0 r₃ _ _ b₃ (λ p₄ t₄ r₄ b₄.
        last_fault (leb 1 (length r₄)) _ _ (Trailing (length file - length r₄)))))))

same_fault : {X Y : Type 0} (r : Result X Fault) (s : Result Y Fault) → then {Y = Unit {0}} r (λ _. Ok tt) ≡ then {Y = Unit {0}} s (λ _. Ok tt) → (e : Fault) → r ≡ Err e → s ≡ Err e
same_fault (Ok x) s h e q = never e x (sym q)
same_fault (Err d) (Ok y) h e q = absurd (cc)
same_fault (Err d) (Err f) h e q = let a : f ≡ e = cc in ap (λ (e : Fault). Err e) a

pub records_fault : (file : List ℕ) → Bytes file → (e : Fault) → (pieces file ≡ Err e) ↔ (site file ≡ Err e)
records_fault file h e =
    let w = whole_fault file h in
    (same_fault (pieces file) (site file) w e, same_fault (site file) (pieces file) (sym w) e)

-- a file whose records are found is accepted
pub records_accepted : (file : List ℕ) → Bytes file → (p : Pieces) → pieces file ≡ Ok p → (q : Places) × (site file ≡ Ok q)
records_accepted file h p e = go (site file) (records_fault file h)
  where
    go : (r : Result Places Fault) → ((y : Fault) → (pieces file ≡ Err y) ↔ (r ≡ Err y)) → (q : Places) × (r ≡ Ok q)
    go (Ok q) w = (q, refl)
    go (Err y) w = never y p (sym ((w y).1 refl) ∙ e)

-- a slice of bytes
pub bytes_from : (bs : List ℕ) → ((i : ℕ) → get_or bs i 0 < 256) → Bytes bs
bytes_from [] k = refl
bytes_from (b ∷ bs) k = and_from (ltb b 256) (every (λ b. ltb b 256) bs) (lt-ltb b 256 (k 0)) (bytes_from bs (λ i. k (suc i)))
