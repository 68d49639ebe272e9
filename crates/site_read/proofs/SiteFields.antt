-- The fields that lead through the plan of a site file are those of the site's file.
use Rattle.std.proofs.Common.{◌≡◌, ℕ, zero, suc, ◌+◌, ◌-◌, ◌*◌, ◌/◌, ◌%◌, ◌<◌, ◌≤◌, Bool, true, false, cond, ◌&&◌, ◌||◌, eqb, ltb, leb, List, [], ◌∷◌, ◌++◌, length, map, Some, None, Option, sym, refl, ap, ◌∙◌, ap₂, append-nil, arith}
use Rattle.std.specs.List.{flat_map}
use Rattle.std.proofs.lemmas.Bool.{and_parts, eqb-true, leb-true, ltb-true}
use Rattle.std.proofs.lemmas.List.Concat.{flat_map_single}
use Rattle.site_read.specs.declared.limits.Span.{Span}
use Rattle.site_read.specs.Tables.{Row, Gaps, Table, every}
use Rattle.site_read.specs.Format.{Bytes, word, Places, the_mark}
use Rattle.site_read.specs.Beginnings.{What, mark, version, loops, kind, number, set, Field, field, a_number, a_set, row_fields, table_fields, placed_fields}
use Rattle.site_read.proofs.Plans.{Plan, done, bind, width, Leads, parted}
use Rattle.site_read.proofs.SitePlan.{one, two, byte, times, within, number_plan, set_plan, span_plan, row_plan, regions_plan, gaps_plan, table_of_kind, table_plan, slot_plan, is_mark, header_plan, site_plan}

single : (xs : List ℕ) → length xs ≡ 1 → xs ≡ one xs ∷ []
single [] n = absurd (omega arith)
single (x ∷ []) n = refl
single (x ∷ y ∷ xs) n = absurd (omega arith)

pair : (xs : List ℕ) → length xs ≡ 2 → Bytes xs → xs ≡ word (two xs)
pair [] n h = absurd (omega arith)
pair (x ∷ []) n h = absurd (omega arith)
pair (a ∷ b ∷ []) n h =
    let ha = and_parts (ltb a 256) (every (λ b. ltb b 256) (b ∷ [])) h in
    let hb = and_parts (ltb b 256) (every (λ b. ltb b 256) []) ha.1 in
    let la : a < 256 = ltb-true a 256 ha.0 in
    let lb : b < 256 = ltb-true b 256 hb.0 in
    let da : (a * 256 + b) / 256 % 256 ≡ a = omega arith in
    let db : (a * 256 + b) % 256 ≡ b = omega arith in
    rw (da, db) refl
pair (x ∷ y ∷ z ∷ xs) n h = absurd (omega arith)

-- a byte's field, and the test that it passed
pub byte_leads : (w : What) (q : ℕ) (t : ℕ → Bool) → width w ≡ 1 → (fs : List Field) (x : ℕ) → Leads (byte w q t) fs x → (fs ≡ field w q (x ∷ []) ∷ []) × (t x ≡ true)
byte_leads w q t n fs x l =
    let s = single l.found (l.fits.full ∙ n) in
    let r = l.goes_on in (
      l.fields ∙ ap₂ (λ (b : List ℕ) (r : List Field). field w q b ∷ r) (s ∙ ap (λ (b : ℕ). b ∷ []) r.1) r.0,
      rw (← r.1) l.fits.right,
    )

pub times_leads : {X : Type 0} (p : Plan X) (fields : X → List Field) → ((fs : List Field) (x : X) → Leads p fs x → fs ≡ fields x) → (n : ℕ) (fs : List Field) (xs : List X) → Leads (times n p) fs xs → (length xs ≡ n) × (fs ≡ flat_map fields xs)
times_leads p fields each zero fs xs l = rw (← l.1) (refl, l.0)
times_leads {X} p fields each (suc n) fs xs l =
    let a = parted p _ fs xs l in
    let b = parted (times n p) _ a.back xs a.second in
    let ih = times_leads p fields each n b.front b.value b.first in
    rw (← b.second.1)
    (ap suc ih.0, a.fields ∙ ap₂ (λ (u v : List Field). u ++ v) (each a.front a.value a.first) (b.fields ∙ ap₂ (λ (u v : List Field). u ++ v) ih.1 b.second.0 ∙ append-nil (flat_map fields b.value)))

module _ (place : ℕ) where
  set_leads : (count : ℕ) (fs : List Field) (x : ℕ) → Leads (set_plan place count) fs x → fs ≡ a_set place x ∷ []
  set_leads count fs x l =
      let s = pair l.found l.fits.full l.fits.bytes in
      let r = l.goes_on in
      l.fields ∙ ap₂ (λ (b : List ℕ) (r : List Field). field set place b ∷ r) (s ∙ ap word r.1) r.0

  pub number_leads : (low high : ℕ) (fs : List Field) (x : ℕ) → Leads (number_plan place low high) fs x → (fs ≡ a_number place x ∷ []) × (low ≤ x) × (x ≤ high)
  number_leads low high fs x l =
      let b = byte_leads number place (within low high) refl fs x l in
      let p = and_parts (leb low x) (leb x high) b.1 in
      (b.0, leb-true low x p.0, leb-true x high p.1)

  span_leads : (fs : List Field) (s : Span) → Leads (span_plan place) fs s → fs ≡ a_number place s.earliest ∷ a_number place s.deadline ∷ []
  span_leads fs s l =
      let e = parted (number_plan place 1 64) _ fs s l in
      let d = parted (number_plan place e.value 64) _ e.back s e.second in
      rw (← d.second.1)
      (e.fields ∙ ap₂ (λ (u v : List Field). u ++ v) (number_leads 1 64 e.front e.value e.first).0 (d.fields ∙ ap₂ (λ (u v : List Field). u ++ v) (number_leads e.value 64 d.front d.value d.first).0 d.second.0))

  row_leads : (count : ℕ) (fs : List Field) (r : Row) → Leads (row_plan place count) fs r → fs ≡ row_fields place r
  row_leads count fs r l =
      let s = parted (span_plan place) _ fs r l in
      let t = parted (times (s.value.deadline + 1 - s.value.earliest) (set_plan place count)) _ s.back r s.second in
      let sets = times_leads (set_plan place count) (λ x. a_set place x ∷ []) (set_leads count) (s.value.deadline + 1 - s.value.earliest) t.front t.value t.first in
      rw (← t.second.1)
      (s.fields ∙ ap₂ (λ (u v : List Field). u ++ v) (span_leads s.front s.value s.first) (t.fields ∙ ap₂ (λ (u v : List Field). u ++ v) (sets.1 ∙ flat_map_single (a_set place) t.value) t.second.0 ∙ append-nil (map (a_set place) t.value)))

  regions_leads : (fs : List Field) (rs : List Row) → Leads (regions_plan place) fs rs → fs ≡ a_number place (length rs) ∷ flat_map (row_fields place) rs
  regions_leads fs rs l =
      let n = parted (number_plan place 1 16) _ fs rs l in
      let r = times_leads (row_plan place n.value) (row_fields place) (row_leads n.value) n.value n.back rs n.second in
      n.fields ∙ ap₂ (λ (u v : List Field). u ++ v) ((number_leads 1 16 n.front n.value n.first).0 ∙ ap (λ (m : ℕ). a_number place m ∷ []) (sym r.0)) r.1

  abbrev gaps_fields : Gaps → List Field
  gaps_fields x = a_number place x.least_gap ∷ a_number place x.greatest_gap ∷ a_number place x.least_hold ∷ a_number place x.greatest_hold ∷ []

  gaps_leads : (fs : List Field) (x : Gaps) → Leads (gaps_plan place) fs x → fs ≡ gaps_fields x
  gaps_leads fs x l =
      let a = parted (number_plan place 1 64) _ fs x l in
      let b = parted (number_plan place a.value 64) _ a.back x a.second in
      let c = parted (number_plan place 1 16) _ b.back x b.second in
      let d = parted (number_plan place c.value 16) _ c.back x c.second in
      rw (a.fields, (number_leads 1 64 a.front a.value a.first).0, b.fields, (number_leads a.value 64 b.front b.value b.first).0, c.fields, (number_leads 1 16 c.front c.value c.first).0, d.fields, (number_leads c.value 16 d.front d.value d.first).0, d.second.0)
      (ap gaps_fields d.second.1)

  table_leads : (fs : List Field) (t : Table) → Leads (table_plan place) fs t → fs ≡ table_fields place t
  table_leads fs t l = go (eqb (one l.found) 1) refl l.goes_on l.fits.right
    where
      k : l.found ≡ one l.found ∷ []
      k = single l.found l.fits.full

      go : (s : Bool) → eqb (one l.found) 1 ≡ s → Leads (table_of_kind place s) l.rest t → (s || eqb (one l.found) 2) ≡ true → fs ≡ table_fields place t
      go true e g r =
          let a = parted (regions_plan place) _ l.rest t g in
          rw (← a.second.1)
          (l.fields ∙ ap₂ (λ (b : List ℕ) (r : List Field). field kind place b ∷ r) (k ∙ ap (λ (b : ℕ). b ∷ []) (eqb-true (one l.found) 1 e)) (a.fields ∙ ap₂ (λ (u v : List Field). u ++ v) (regions_leads a.front a.value a.first) a.second.0 ∙ append-nil _))
      go false e g r =
          let a = parted (gaps_plan place) _ l.rest t g in
          rw (← a.second.1)
          (l.fields ∙ ap₂ (λ (b : List ℕ) (r : List Field). field kind place b ∷ r) (k ∙ ap (λ (b : ℕ). b ∷ []) (eqb-true (one l.found) 2 r)) (a.fields ∙ ap₂ (λ (u v : List Field). u ++ v) (gaps_leads a.front a.value a.first) a.second.0 ∙ append-nil _))

  slot_leads : (count : ℕ) (fs : List Field) (o : Option Table) → Leads (slot_plan place count) fs o → fs ≡ placed_fields place o
  slot_leads count fs o l = go (leb place count) l
    where
      go : (s : Bool) → Leads (cond s (bind (table_plan place) (λ t. done (Some t))) (done None)) fs o → fs ≡ placed_fields place o
      go true g =
          let a = parted (table_plan place) _ fs o g in
          rw (← a.second.1)
          (a.fields ∙ ap₂ (λ (u v : List Field). u ++ v) (table_leads a.front a.value a.first) a.second.0 ∙ append-nil _)
      go false g = rw (← g.1) g.0

marked : (xs : List ℕ) → length xs ≡ 3 → is_mark xs ≡ true → xs ≡ the_mark
marked [] n h = absurd (omega arith)
marked (a ∷ []) n h = absurd (omega arith)
marked (a ∷ b ∷ []) n h = absurd (omega arith)
marked (a ∷ b ∷ c ∷ []) n h =
    let p = and_parts (eqb a 76 && eqb b 75) (eqb c 84) h in
    let q = and_parts (eqb a 76) (eqb b 75) p.0 in
    rw (eqb-true a 76 q.0, eqb-true b 75 q.1, eqb-true c 84 p.1) refl
marked (a ∷ b ∷ c ∷ d ∷ xs) n h = absurd (omega arith)

first_version : (xs : List ℕ) → length xs ≡ 2 → eqb (two xs) 1 ≡ true → xs ≡ 0 ∷ 1 ∷ []
first_version [] n h = absurd (omega arith)
first_version (a ∷ []) n h = absurd (omega arith)
first_version (a ∷ b ∷ []) n h =
    let v = eqb-true (a * 256 + b) 1 h in
    let ea : a ≡ 0 = omega arith in
    let eb : b ≡ 1 = omega arith in
    rw (ea, eb) refl
first_version (a ∷ b ∷ c ∷ xs) n h = absurd (omega arith)

abbrev pub header_fields : ℕ → List Field
header_fields n = field mark 0 the_mark ∷ field version 0 (0 ∷ 1 ∷ []) ∷ field loops 0 (n ∷ []) ∷ []

header_leads : (fs : List Field) (n : ℕ) → Leads header_plan fs n → fs ≡ header_fields n
header_leads fs n l =
    let v = l.goes_on in
    let c = byte_leads loops 0 (within 1 4) refl v.rest n v.goes_on in
    rw (l.fields, marked l.found l.fits.full l.fits.right, v.fields, first_version v.found v.fits.full v.fits.right, c.0) refl

-- the fields of a file of n loops
abbrev pub fields_with : ℕ → Places → List Field
fields_with n p = header_fields n ++ (placed_fields 1 p.first ++ (placed_fields 2 p.second ++ (placed_fields 3 p.third ++ placed_fields 4 p.fourth)))

pub site_leads : (fs : List Field) (p : Places) → Leads site_plan fs p → (n : ℕ) × (fs ≡ fields_with n p)
site_leads fs p l =
    let h = parted header_plan _ fs p l in
    let a = parted (slot_plan 1 h.value) _ h.back p h.second in
    let b = parted (slot_plan 2 h.value) _ a.back p a.second in
    let c = parted (slot_plan 3 h.value) _ b.back p b.second in
    let d = parted (slot_plan 4 h.value) _ c.back p c.second in (
      h.value,
      h.fields ∙ ap₂ (λ (u v : List Field). u ++ v) (header_leads h.front h.value h.first)
          (a.fields ∙ ap₂ (λ (u v : List Field). u ++ v) (slot_leads 1 h.value a.front a.value a.first)
          (b.fields ∙ ap₂ (λ (u v : List Field). u ++ v) (slot_leads 2 h.value b.front b.value b.first)
          (c.fields ∙ ap₂ (λ (u v : List Field). u ++ v) (slot_leads 3 h.value c.front c.value c.first)
          (d.fields ∙ ap₂ (λ (u v : List Field). u ++ v) (slot_leads 4 h.value d.front d.value d.first) d.second.0 ∙ append-nil _))))
          ∙ ap (fields_with h.value) d.second.1,
    )
