-- What was read is the table's bytes.
use Rattle.std.proofs.Common.{◌≡◌, ℕ, zero, suc, ◌+◌, ◌-◌, ◌*◌, ◌/◌, ◌%◌, ◌<◌, Bool, true, false, cond, eqb, ltb, List, [], ◌∷◌, ◌++◌, length, Ok, Err, sym, refl, ap, ◌∙◌, ap₂, append_assoc, arith}
use Rattle.std.specs.List.{flat_map}
use Rattle.std.proofs.lemmas.Bool.{and_parts, ltb-true, eqb-true}
use Rattle.site_read.specs.declared.fault.Fault.TheVariants.{Kind}
use Rattle.site_read.specs.Parse.{Parsed, then, many}
use Rattle.site_read.specs.Tables.{Row, Table, by_regions, by_contract, every, lawful_set}
use Rattle.site_read.specs.Fields.{ranged, target_set, span, row, regions, gaps, table}
use Rattle.site_read.specs.Format.{word, encode_row, encode, Bytes}
use Rattle.site_read.proofs.Sound.{never, same_ok, then_ok, cond_ok, in_range, span_read, gaps_read, many_ok}

-- what is read is the front of the bytes, and what is left are bytes
abbrev Exact : {X : Type 0} → (X → List ℕ) → List ℕ → X × List ℕ → Type 0
Exact enc bs x = (bs ≡ enc x.0 ++ x.1) × Bytes x.1

rest_bytes : (b : ℕ) (bs : List ℕ) → Bytes (b ∷ bs) → Bytes bs
rest_bytes b bs h = (and_parts (ltb b 256) (every (λ b. ltb b 256) bs) h).1

pub bytes_after : (xs ys : List ℕ) → Bytes (xs ++ ys) → Bytes ys
bytes_after [] ys h = h
bytes_after (x ∷ xs) ys h = bytes_after xs ys (and_parts (ltb x 256) (every (λ b. ltb b 256) (xs ++ ys)) h).1

pub many_exact : {X : Type 0} (p : List ℕ → Parsed X) (enc : X → List ℕ) → ((bs : List ℕ) → Bytes bs → (x : X × List ℕ) → p bs ≡ Ok x → Exact enc bs x) → (n : ℕ) (bs : List ℕ) → Bytes bs → (t : List X × List ℕ) → many p n bs ≡ Ok t → Exact (flat_map enc) bs t
many_exact p enc each zero bs h t q = rw (← same_ok ([], bs) t q) (refl, h)
many_exact p enc each (suc n) bs h t q =
    let a = then_ok (p bs) (λ x. then (many p n x.1) λ t. Ok (x.0 ∷ t.0, t.1)) t q in
    let b = then_ok (many p n a.0.1) (λ t. Ok (a.0.0 ∷ t.0, t.1)) t a.2 in
    let x = each bs h a.0 a.1 in
    let ih = many_exact p enc each n a.0.1 x.1 b.0 b.1 in
    rw (← same_ok (a.0.0 ∷ b.0.0, b.0.1) t b.2)
    (x.0 ∙ ap (λ (l : List ℕ). enc a.0.0 ++ l) ih.0 ∙ sym (append_assoc (enc a.0.0) (flat_map enc b.0.0) b.0.1), ih.1)

module _ (place size : ℕ) where
  set_exact : (count : ℕ) (bs : List ℕ) → Bytes bs → (x : ℕ × List ℕ) → target_set place size count bs ≡ Ok x → Exact word bs x
  set_exact count [] h x q = never _ x q
  set_exact count (a ∷ []) h x q = never _ x q
  set_exact count (a ∷ b ∷ bs) h x q =
      let c = cond_ok (lawful_set count (a * 256 + b)) (a * 256 + b, bs) x _ q in
      let ha = and_parts (ltb a 256) (every (λ b. ltb b 256) (b ∷ bs)) h in
      let hb = and_parts (ltb b 256) (every (λ b. ltb b 256) bs) ha.1 in
      let la : a < 256 = ltb-true a 256 ha.0 in
      let lb : b < 256 = ltb-true b 256 hb.0 in
      let da : (a * 256 + b) / 256 % 256 ≡ a = omega arith in
      let db : (a * 256 + b) % 256 ≡ b = omega arith in
      rw (← c.1) (rw (da, db) refl, hb.1)

  row_exact : (count : ℕ) (bs : List ℕ) → Bytes bs → (x : Row × List ℕ) → row place size count bs ≡ Ok x → Exact encode_row bs x
  row_exact count bs h x q =
      let a = then_ok (span place size bs) _ x q in
      let e = (span_read place size bs a.0 a.1).exact in
      let n : ℕ = a.0.0.deadline + 1 - a.0.0.earliest in
      let c = then_ok (many (target_set place size count) n a.0.1) _ x a.2 in
      let t = many_exact (target_set place size count) word (set_exact count) n a.0.1 (bytes_after (a.0.0.earliest ∷ a.0.0.deadline ∷ []) a.0.1 (rw e at h)) c.0 c.1 in
      let r : Row = record { earliest = a.0.0.earliest; deadline = a.0.0.deadline; targets = c.0.0 } in
      rw (← same_ok (r, c.0.1) x c.2)
      (e ∙ ap (λ (l : List ℕ). r.earliest ∷ r.deadline ∷ l) t.0, t.1)

module _ (place size : ℕ) where
  regions_exact : (bs : List ℕ) → Bytes bs → (x : List Row × List ℕ) → regions place size bs ≡ Ok x → bs ≡ length x.0 ∷ (flat_map encode_row x.0 ++ x.1)
  regions_exact bs h x q =
      let n = then_ok (ranged place size 1 16 bs) _ x q in
      let e = (in_range place size 1 16 bs n.0 n.1).exact in
      let k = many_ok (row place size n.0.0) (λ _. true) (λ _ _ _. refl) n.0.0 n.0.1 x n.2 in
      let t = many_exact (row place size n.0.0) encode_row (row_exact place size n.0.0) n.0.0 n.0.1 (bytes_after (n.0.0 ∷ []) n.0.1 (rw e at h)) x n.2 in
      e ∙ ap₂ (λ (m : ℕ) (l : List ℕ). m ∷ l) (sym k.0) t.0

pub encodes : (place size : ℕ) (bs : List ℕ) → Bytes bs → (x : Table × List ℕ) → table place size bs ≡ Ok x → bs ≡ encode x.0 ++ x.1
encodes place size [] h x q = never _ x q
encodes place size (k ∷ bs) h x q = go (eqb k 1) (eqb k 2) refl refl q
  where
    go : (s t : Bool) → eqb k 1 ≡ s → eqb k 2 ≡ t → cond s (then (regions place size bs) λ t. Ok (by_regions t.0, t.1)) (cond t (then (gaps place size bs) λ t. Ok (by_contract t.0, t.1)) (Err (Kind place (size - length (k ∷ bs))))) ≡ Ok x → k ∷ bs ≡ encode x.0 ++ x.1
    go true t e₁ e₂ r =
        let a = then_ok (regions place size bs) (λ t. Ok (by_regions t.0, t.1)) x r in
        let i = regions_exact place size bs (rest_bytes k bs h) a.0 a.1 in
        rw (← same_ok (by_regions a.0.0, a.0.1) x a.2) (ap₂ (λ (m : ℕ) (l : List ℕ). m ∷ l) (eqb-true k 1 e₁) i)
    go false true e₁ e₂ r =
        let a = then_ok (gaps place size bs) (λ t. Ok (by_contract t.0, t.1)) x r in
        let i = (gaps_read place size bs a.0 a.1).exact in
        rw (← same_ok (by_contract a.0.0, a.0.1) x a.2) (ap₂ (λ (m : ℕ) (l : List ℕ). m ∷ l) (eqb-true k 2 e₂) i)
    go false false e₁ e₂ r = never _ x r
