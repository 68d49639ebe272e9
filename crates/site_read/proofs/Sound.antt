-- What is read is lawful; of the limits also the bytes that they were read from.
use Rattle.std.proofs.Common.{◌≡◌, ℕ, zero, suc, ◌+◌, ◌-◌, ◌*◌, ◌≤◌, Bool, true, false, cond, ◌&&◌, eqb, leb, List, [], ◌∷◌, ◌++◌, length, Ok, Err, Result, sym, refl, ap, ◌∙◌, arith}
use Rattle.std.proofs.lemmas.Bool.{and_parts, and_from, eq-eqb, le-leb, leb-true}
use Rattle.site_read.specs.declared.fault.Fault.{Fault}
use Rattle.site_read.specs.declared.fault.Fault.TheVariants.{Kind}
use Rattle.site_read.specs.declared.limits.Span.{Span}
use Rattle.site_read.specs.Parse.{Parsed, then, many, value_of}
use Rattle.site_read.specs.Tables.{Row, Gaps, Table, by_regions, by_contract, every, lawful_set, lawful_row, lawful_rows, LawfulGaps, Lawful}
use Rattle.site_read.specs.Fields.{ranged, target_set, span, row, regions, gaps, table}
use Rattle.site_read.specs.Format.{encode_gaps}

pub never : {X : Type 0} {P : Type 0} (e : Fault) (x : X) → Err e ≡ Ok x → P
never e x q = absurd (cc)

pub same_ok : {X : Type 0} (x y : X) → ◌≡◌ {A = Result X Fault} (Ok x) (Ok y) → x ≡ y
same_ok x y q = cc

-- a parser that went on had its value
pub then_ok : {X Y : Type 0} (r : Result X Fault) (f : X → Result Y Fault) (y : Y) → then r f ≡ Ok y → (x : X) × (r ≡ Ok x) × (f x ≡ Ok y)
then_ok (Ok x) f y q = (x, refl, q)
then_ok (Err e) f y q = never e y q

-- a test that was passed
pub cond_ok : {X : Type 0} (t : Bool) (x y : X) (e : Fault) → cond t (Ok x) (Err e) ≡ Ok y → (t ≡ true) × (x ≡ y)
cond_ok true x y e q = (refl, same_ok x y q)
cond_ok false x y e q = never e y q

pub many_ok : {X : Type 0} (p : List ℕ → Parsed X) (test : X → Bool) → ((bs : List ℕ) (x : X × List ℕ) → p bs ≡ Ok x → test x.0 ≡ true) → (n : ℕ) (bs : List ℕ) (t : List X × List ℕ) → many p n bs ≡ Ok t → (length t.0 ≡ n) × (every test t.0 ≡ true)
many_ok p test each zero bs t q = let e : ([], bs) ≡ t = same_ok ([], bs) t q in rw (← e) (refl, refl)
many_ok p test each (suc n) bs t q =
    let a = then_ok (p bs) (λ x. then (many p n x.1) λ t. Ok (x.0 ∷ t.0, t.1)) t q in
    let b = then_ok (many p n a.0.1) (λ t. Ok (a.0.0 ∷ t.0, t.1)) t a.2 in
    let ih = many_ok p test each n a.0.1 b.0 b.1 in
    let e = same_ok (a.0.0 ∷ b.0.0, b.0.1) t b.2 in
    rw (← e) (ap suc ih.0, and_from (test a.0.0) (every test b.0.0) (each bs a.0 a.1) ih.1)

-- a number that was read: its limits, and its byte
pub record InRange (low high : ℕ) (bs : List ℕ) (x : ℕ × List ℕ) : Type 0 where
  pub least : low ≤ x.0
  pub most : x.0 ≤ high
  pub exact : bs ≡ x.0 ∷ x.1

-- the same of a span, and of a contract's gaps
pub record SpanRead (bs : List ℕ) (x : Span × List ℕ) : Type 0 where
  pub least : 1 ≤ x.0.earliest
  pub order : x.0.earliest ≤ x.0.deadline
  pub most : x.0.deadline ≤ 64
  pub exact : bs ≡ x.0.earliest ∷ x.0.deadline ∷ x.1

pub record GapsRead (bs : List ℕ) (x : Gaps × List ℕ) : Type 0 where
  pub lawful : LawfulGaps x.0
  pub exact : bs ≡ encode_gaps x.0 ++ x.1

module _ (place size : ℕ) where
  pub in_range : (low high : ℕ) (bs : List ℕ) (x : ℕ × List ℕ) → ranged place size low high bs ≡ Ok x → InRange low high bs x
  in_range low high [] x q = never _ x q
  in_range low high (b ∷ bs) x q =
      let c = cond_ok (leb low b && leb b high) (b, bs) x _ q in
      let p = and_parts (leb low b) (leb b high) c.0 in
      rw (← c.1) (record { least = leb-true low b p.0; most = leb-true b high p.1; exact = refl })

  pub span_read : (bs : List ℕ) (x : Span × List ℕ) → span place size bs ≡ Ok x → SpanRead bs x
  span_read bs x q =
      let a = then_ok (ranged place size 1 64 bs) _ x q in
      let e = in_range 1 64 bs a.0 a.1 in
      let b = then_ok (ranged place size a.0.0 64 a.0.1) _ x a.2 in
      let d = in_range a.0.0 64 a.0.1 b.0 b.1 in
      let s : Span = record { earliest = a.0.0; deadline = b.0.0 } in
      rw (← same_ok (s, b.0.1) x b.2)
      (record { least = e.least; order = d.least; most = d.most; exact = e.exact ∙ ap (λ (l : List ℕ). a.0.0 ∷ l) d.exact })

  pub gaps_read : (bs : List ℕ) (x : Gaps × List ℕ) → gaps place size bs ≡ Ok x → GapsRead bs x
  gaps_read bs x q =
      let a = then_ok (ranged place size 1 64 bs) _ x q in
      let a' = in_range 1 64 bs a.0 a.1 in
      let b = then_ok (ranged place size a.0.0 64 a.0.1) _ x a.2 in
      let b' = in_range a.0.0 64 a.0.1 b.0 b.1 in
      let c = then_ok (ranged place size 1 16 b.0.1) _ x b.2 in
      let c' = in_range 1 16 b.0.1 c.0 c.1 in
      let d = then_ok (ranged place size c.0.0 16 c.0.1) _ x c.2 in
      let d' = in_range c.0.0 16 c.0.1 d.0 d.1 in
      let g : Gaps = record { least_gap = a.0.0; greatest_gap = b.0.0; least_hold = c.0.0; greatest_hold = d.0.0 } in
      rw (← same_ok (g, d.0.1) x d.2)
      (record {
        lawful = record { gap_low = a'.least; gap_order = b'.least; gap_high = b'.most; hold_low = c'.least; hold_order = d'.least; hold_high = d'.most };
        exact = a'.exact ∙ ap (λ (l : List ℕ). a.0.0 ∷ l) (b'.exact ∙ ap (λ (l : List ℕ). b.0.0 ∷ l) (c'.exact ∙ ap (λ (l : List ℕ). c.0.0 ∷ l) d'.exact));
      })

  pub set_ok : (count : ℕ) (bs : List ℕ) (x : ℕ × List ℕ) → target_set place size count bs ≡ Ok x → lawful_set count x.0 ≡ true
  set_ok count [] x q = never _ x q
  set_ok count (h ∷ []) x q = never _ x q
  set_ok count (h ∷ l ∷ bs) x q = let c = cond_ok (lawful_set count (h * 256 + l)) (h * 256 + l, bs) x _ q in rw (← c.1) c.0

all_five : (a b c d e : Bool) → a ≡ true → b ≡ true → c ≡ true → d ≡ true → e ≡ true → (a && b && c && d && e) ≡ true
all_five a b c d e p q r s t = rw (p, q, r, s, t) refl

pub all_three : (a b c : Bool) → a ≡ true → b ≡ true → c ≡ true → (a && b && c) ≡ true
all_three a b c p q r = rw (p, q, r) refl

module _ (place size : ℕ) where
  pub row_ok : (count : ℕ) (bs : List ℕ) (x : Row × List ℕ) → row place size count bs ≡ Ok x → lawful_row count x.0 ≡ true
  row_ok count bs x q =
      let a = then_ok (span place size bs) _ x q in
      let e = span_read place size bs a.0 a.1 in
      let n : ℕ = a.0.0.deadline + 1 - a.0.0.earliest in
      let c = then_ok (many (target_set place size count) n a.0.1) _ x a.2 in
      let t = many_ok (target_set place size count) (lawful_set count) (set_ok place size count) n a.0.1 c.0 c.1 in
      let r : Row = record { earliest = a.0.0.earliest; deadline = a.0.0.deadline; targets = c.0.0 } in
      rw (← same_ok (r, c.0.1) x c.2)
      (all_five (leb 1 r.earliest) (leb r.earliest r.deadline) (leb r.deadline 64) (eqb (length c.0.0) n) (every (lawful_set count) c.0.0)
      (le-leb 1 r.earliest e.least) (le-leb r.earliest r.deadline e.order) (le-leb r.deadline 64 e.most) (eq-eqb (length c.0.0) n t.0) t.1)

  pub rows_ok : (count : ℕ) (bs : List ℕ) (rs : List Row) → 1 ≤ count → count ≤ 16 → value_of (many (row place size count) count bs) ≡ Ok rs → lawful_rows rs ≡ true
  rows_ok count bs rs lo hi q = go (many (row place size count) count bs) refl q
    where
      go : (r : Parsed (List Row)) → many (row place size count) count bs ≡ r → value_of r ≡ Ok rs → lawful_rows rs ≡ true
      go (Err e) m v = never e rs v
      go (Ok t) m v =
          let k = many_ok (row place size count) (lawful_row count) (row_ok count) count bs t m in
          let s : t.0 ≡ rs = same_ok t.0 rs v in
          let n : length rs ≡ count = ap length (sym s) ∙ k.0 in
          let w : every (lawful_row (length rs)) rs ≡ true = rw (n, ← s) k.1 in
          all_three (leb 1 (length rs)) (leb (length rs) 16) (every (lawful_row (length rs)) rs) (le-leb 1 (length rs) (omega arith)) (le-leb (length rs) 16 (omega arith)) w

module _ (place size : ℕ) where
  regions_lawful : (bs : List ℕ) (x : List Row × List ℕ) → regions place size bs ≡ Ok x → lawful_rows x.0 ≡ true
  regions_lawful bs x q =
      let n = then_ok (ranged place size 1 16 bs) _ x q in
      let n' = in_range place size 1 16 bs n.0 n.1 in
      rows_ok place size n.0.0 n.0.1 x.0 n'.least n'.most (ap value_of n.2)

  -- what is read is lawful
  pub table_lawful : (bs : List ℕ) (x : Table × List ℕ) → table place size bs ≡ Ok x → Lawful x.0
  table_lawful [] x q = never _ x q
  table_lawful (k ∷ bs) x q = go (eqb k 1) (eqb k 2) q
    where
      go : (s t : Bool) → cond s (then (regions place size bs) λ t. Ok (by_regions t.0, t.1)) (cond t (then (gaps place size bs) λ t. Ok (by_contract t.0, t.1)) (Err (Kind place (size - length (k ∷ bs))))) ≡ Ok x → Lawful x.0
      go true t r =
          let a = then_ok (regions place size bs) (λ t. Ok (by_regions t.0, t.1)) x r in
          rw (← same_ok (by_regions a.0.0, a.0.1) x a.2) (regions_lawful bs a.0 a.1)
      go false true r =
          let a = then_ok (gaps place size bs) (λ t. Ok (by_contract t.0, t.1)) x r in
          rw (← same_ok (by_contract a.0.0, a.0.1) x a.2) (gaps_read place size bs a.0 a.1).lawful
      go false false r = never _ x r
