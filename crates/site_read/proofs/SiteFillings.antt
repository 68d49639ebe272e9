-- Each field that the plan of a site file comes to can be filled.
use Rattle.std.proofs.Common.{◌≡◌, ℕ, zero, suc, ◌+◌, ◌-◌, ◌^◌, ◌<◌, ◌≤◌, Bool, true, false, cond, ltb, leb, [], ◌∷◌, Some, None, refl, arith, pow_mono}
use Rattle.std.proofs.lemmas.Bool.{and_from, le-leb, lt-ltb}
use Rattle.site_read.specs.Beginnings.{What, loops, number}
use Rattle.site_read.proofs.Plans.{Plan, done, bind, width, Fillable, fillable_bind}
use Rattle.site_read.proofs.SitePlan.{byte, times, within, number_plan, set_plan, span_plan, row_plan, regions_plan, gaps_plan, table_of_kind, table_plan, slot_plan, header_plan, site_plan}
use Rattle.site_read.proofs.SiteFields.{number_leads}

fillable_byte : (w : What) (q : ℕ) (t : ℕ → Bool) (b : ℕ) → width w ≡ 1 → b < 256 → t b ≡ true → Fillable (byte w q t)
fillable_byte w q t b n h r = ((b ∷ [], record { full = rw n refl; bytes = and_from (ltb b 256) true (lt-ltb b 256 h) refl; right = r }), λ _ _. tt)

fillable_times : {X : Type 0} (p : Plan X) → Fillable p → (n : ℕ) → Fillable (times n p)
fillable_times p o zero = tt
fillable_times p o (suc n) = fillable_bind p _ o (λ _ x _. fillable_bind (times n p) _ (fillable_times p o n) (λ _ _ _. tt))

module _ (place : ℕ) where
  fillable_number : (low high : ℕ) → low ≤ high → low < 256 → Fillable (number_plan place low high)
  fillable_number low high h b = fillable_byte number place (within low high) low refl b (and_from (leb low low) (leb low high) (le-leb low low (omega arith)) (le-leb low high h))

  fillable_set : (count : ℕ) → 1 ≤ count → Fillable (set_plan place count)
  fillable_set count h =
      let p : 2 ^ 1 ≤ 2 ^ count = pow_mono h in
      ((0 ∷ 1 ∷ [], record { full = refl; bytes = refl; right = lt-ltb 1 (2 ^ count) (omega arith) }), λ _ _. tt)

  fillable_span : Fillable (span_plan place)
  fillable_span =
      fillable_bind (number_plan place 1 64) _ (fillable_number 1 64 (omega arith) (omega arith)) (λ fs e l.
      let n = number_leads place 1 64 fs e l in
      fillable_bind (number_plan place e 64) _ (fillable_number e 64 n.2 (omega (arith, n.2))) (λ _ _ _. tt))

  fillable_row : (count : ℕ) → 1 ≤ count → Fillable (row_plan place count)
  fillable_row count h =
      fillable_bind (span_plan place) _ fillable_span (λ _ s _.
      fillable_bind (times (s.deadline + 1 - s.earliest) (set_plan place count)) _ (fillable_times (set_plan place count) (fillable_set count h) (s.deadline + 1 - s.earliest)) (λ _ _ _. tt))

  fillable_regions : Fillable (regions_plan place)
  fillable_regions =
      fillable_bind (number_plan place 1 16) _ (fillable_number 1 16 (omega arith) (omega arith)) (λ fs n l.
      fillable_times (row_plan place n) (fillable_row n (number_leads place 1 16 fs n l).1) n)

  fillable_gaps : Fillable (gaps_plan place)
  fillable_gaps =
      fillable_bind (number_plan place 1 64) _ (fillable_number 1 64 (omega arith) (omega arith)) (λ fs g l.
      let n = number_leads place 1 64 fs g l in
      fillable_bind (number_plan place g 64) _ (fillable_number g 64 n.2 (omega (arith, n.2))) (λ _ _ _.
      fillable_bind (number_plan place 1 16) _ (fillable_number 1 16 (omega arith) (omega arith)) (λ fs c l.
      let m = number_leads place 1 16 fs c l in
      fillable_bind (number_plan place c 16) _ (fillable_number c 16 m.2 (omega (arith, m.2))) (λ _ _ _. tt))))

  fillable_kind : (s : Bool) → Fillable (table_of_kind place s)
  fillable_kind true = fillable_bind (regions_plan place) _ fillable_regions (λ _ _ _. tt)
  fillable_kind false = fillable_bind (gaps_plan place) _ fillable_gaps (λ _ _ _. tt)

  fillable_table : Fillable (table_plan place)
  fillable_table = ((1 ∷ [], record { full = refl; bytes = refl; right = refl }), λ b _. fillable_kind _)

  fillable_slot : (count : ℕ) → Fillable (slot_plan place count)
  fillable_slot count = go (leb place count)
    where
      go : (s : Bool) → Fillable (cond s (bind (table_plan place) (λ t. done (Some t))) (done None))
      go true = fillable_bind (table_plan place) _ fillable_table (λ _ _ _. tt)
      go false = tt

fillable_header : Fillable header_plan
fillable_header = (
  (76 ∷ 75 ∷ 84 ∷ [], record { full = refl; bytes = refl; right = refl }),
  λ _ _. (
    (0 ∷ 1 ∷ [], record { full = refl; bytes = refl; right = refl }),
    λ _ _. fillable_byte loops 0 (within 1 4) 1 refl (omega arith) refl,
  ),
)

pub fillable_site : Fillable site_plan
fillable_site =
    fillable_bind header_plan _ fillable_header (λ _ n _.
    fillable_bind (slot_plan 1 n) _ (fillable_slot 1 n) (λ _ _ _.
    fillable_bind (slot_plan 2 n) _ (fillable_slot 2 n) (λ _ _ _.
    fillable_bind (slot_plan 3 n) _ (fillable_slot 3 n) (λ _ _ _.
    fillable_bind (slot_plan 4 n) _ (fillable_slot 4 n) (λ _ _ _. tt)))))
