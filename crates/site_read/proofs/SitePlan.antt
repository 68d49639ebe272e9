-- The plan of a site file. To run it is to read the site.
use Rattle.std.proofs.Common.{◌≡◌, ℕ, zero, suc, ◌+◌, ◌-◌, ◌*◌, Bool, true, false, cond, ◌&&◌, ◌||◌, eqb, leb, List, [], ◌∷◌, length, Some, None, Ok, Err, Option, refl}
use Rattle.site_read.specs.declared.fault.Fault.TheVariants.{Kind}
use Rattle.site_read.specs.declared.limits.Span.{Span}
use Rattle.site_read.specs.Parse.{Parsed, then, many}
use Rattle.site_read.specs.Tables.{Row, Gaps, Table, by_regions, by_contract, lawful_set}
use Rattle.site_read.specs.Fields.{ranged, target_set, span, row, regions, gaps, table}
use Rattle.site_read.specs.Format.{Places}
use Rattle.site_read.specs.Sites.{slot_table}
use Rattle.site_read.specs.Beginnings.{What, mark, version, loops, kind, number, set}
use Rattle.site_read.proofs.Plans.{Plan, done, due, bind, run, follows}

abbrev pub one : List ℕ → ℕ
one [] = 0
one (b ∷ bs) = b

abbrev pub two : List ℕ → ℕ
two [] = 0
two (h ∷ []) = 0
two (h ∷ l ∷ bs) = h * 256 + l

-- a byte that passes a test
abbrev pub byte : What → ℕ → (ℕ → Bool) → Plan ℕ
byte w q t = due w q (λ f. t (one f)) (λ f. done (one f))

-- a plan n times
abbrev pub times : {X : Type 0} → ℕ → Plan X → Plan (List X)
times zero p = done []
times (suc n) p = bind p λ x. bind (times n p) λ xs. done (x ∷ xs)

abbrev pub within : ℕ → ℕ → ℕ → Bool
within low high n = leb low n && leb n high

module _ (place : ℕ) where
  abbrev pub number_plan : ℕ → ℕ → Plan ℕ
  number_plan low high = byte number place (within low high)

  abbrev pub set_plan : ℕ → Plan ℕ
  set_plan count = due set place (λ f. lawful_set count (two f)) (λ f. done (two f))

  abbrev pub span_plan : Plan Span
  span_plan = bind (number_plan 1 64) λ e. bind (number_plan e 64) λ d. done (record { earliest = e; deadline = d })

  abbrev pub row_plan : ℕ → Plan Row
  row_plan count =
      bind span_plan λ s.
      bind (times (s.deadline + 1 - s.earliest) (set_plan count)) λ t.
      done (record { earliest = s.earliest; deadline = s.deadline; targets = t })

  abbrev pub regions_plan : Plan (List Row)
  regions_plan = bind (number_plan 1 16) λ n. times n (row_plan n)

  abbrev pub gaps_plan : Plan Gaps
  gaps_plan =
      bind (number_plan 1 64) λ g.
      bind (number_plan g 64) λ G.
      bind (number_plan 1 16) λ c.
      bind (number_plan c 16) λ C.
      done (record { least_gap = g; greatest_gap = G; least_hold = c; greatest_hold = C })

  abbrev pub table_of_kind : Bool → Plan Table
  table_of_kind true = bind regions_plan (λ rs. done (by_regions rs))
  table_of_kind false = bind gaps_plan (λ g. done (by_contract g))

  abbrev pub table_plan : Plan Table
  table_plan = due kind place (λ f. eqb (one f) 1 || eqb (one f) 2) (λ f. table_of_kind (eqb (one f) 1))

  abbrev pub slot_plan : ℕ → Plan (Option Table)
  slot_plan count = cond (leb place count) (bind table_plan (λ t. done (Some t))) (done None)

abbrev pub is_mark : List ℕ → Bool
is_mark [] = false
is_mark (a ∷ []) = false
is_mark (a ∷ b ∷ []) = false
is_mark (a ∷ b ∷ c ∷ bs) = eqb a 76 && eqb b 75 && eqb c 84

abbrev pub header_plan : Plan ℕ
header_plan = due mark 0 is_mark λ _. due version 0 (λ f. eqb (two f) 1) λ _. byte loops 0 (within 1 4)

abbrev pub site_plan : Plan Places
site_plan =
    bind header_plan λ n.
    bind (slot_plan 1 n) λ a.
    bind (slot_plan 2 n) λ b.
    bind (slot_plan 3 n) λ c.
    bind (slot_plan 4 n) λ d.
    done (record { first = a; second = b; third = c; fourth = d })

run_times : {X : Type 0} (size : ℕ) (p : Plan X) (r : List ℕ → Parsed X) → ((bs : List ℕ) → run size p bs ≡ r bs) → (n : ℕ) (bs : List ℕ) → run size (times n p) bs ≡ many r n bs
run_times size p r h zero bs = refl
run_times size p r h (suc n) bs =
    follows size p _ (r bs) _ bs (h bs) (λ x rest.
    follows size (times n p) _ (many r n rest) _ rest (run_times size p r h n rest) (λ xs rest. refl))

module _ (place size : ℕ) where
  run_number : (low high : ℕ) (bs : List ℕ) → run size (number_plan place low high) bs ≡ ranged place size low high bs
  run_number low high [] = refl
  run_number low high (b ∷ bs) = refl

  run_set : (count : ℕ) (bs : List ℕ) → run size (set_plan place count) bs ≡ target_set place size count bs
  run_set count [] = refl
  run_set count (h ∷ []) = refl
  run_set count (h ∷ l ∷ bs) = refl

  run_span : (bs : List ℕ) → run size (span_plan place) bs ≡ span place size bs
  run_span bs =
      follows size (number_plan place 1 64) _ (ranged place size 1 64 bs) _ bs (run_number 1 64 bs) (λ e rest.
      follows size (number_plan place e 64) _ (ranged place size e 64 rest) _ rest (run_number e 64 rest) (λ d rest. refl))

  run_row : (count : ℕ) (bs : List ℕ) → run size (row_plan place count) bs ≡ row place size count bs
  run_row count bs =
      follows size (span_plan place) _ (span place size bs) _ bs (run_span bs) (λ s rest.
      follows size (times (s.deadline + 1 - s.earliest) (set_plan place count)) _ (many (target_set place size count) (s.deadline + 1 - s.earliest) rest) _ rest (run_times size (set_plan place count) (target_set place size count) (run_set count) (s.deadline + 1 - s.earliest) rest) (λ t rest. refl))

  run_regions : (bs : List ℕ) → run size (regions_plan place) bs ≡ regions place size bs
  run_regions bs =
      follows size (number_plan place 1 16) _ (ranged place size 1 16 bs) _ bs (run_number 1 16 bs) (λ n rest.
      run_times size (row_plan place n) (row place size n) (run_row n) n rest)

  run_gaps : (bs : List ℕ) → run size (gaps_plan place) bs ≡ gaps place size bs
  run_gaps bs =
      follows size (number_plan place 1 64) _ (ranged place size 1 64 bs) _ bs (run_number 1 64 bs) (λ g rest.
      follows size (number_plan place g 64) _ (ranged place size g 64 rest) _ rest (run_number g 64 rest) (λ G rest.
      follows size (number_plan place 1 16) _ (ranged place size 1 16 rest) _ rest (run_number 1 16 rest) (λ c rest.
      follows size (number_plan place c 16) _ (ranged place size c 16 rest) _ rest (run_number c 16 rest) (λ C rest. refl))))

  run_table : (bs : List ℕ) → run size (table_plan place) bs ≡ table place size bs
  run_table [] = refl
  run_table (k ∷ bs) = go (eqb k 1) (eqb k 2)
    where
      go : (s t : Bool) → cond (s || t) (run size (table_of_kind place s) bs) (Err (Kind place (size - length (k ∷ bs)))) ≡ cond s (then (regions place size bs) λ t. Ok (by_regions t.0, t.1)) (cond t (then (gaps place size bs) λ t. Ok (by_contract t.0, t.1)) (Err (Kind place (size - length (k ∷ bs)))))
      go true t = follows size (regions_plan place) _ (regions place size bs) _ bs (run_regions bs) (λ rs rest. refl)
      go false true = follows size (gaps_plan place) _ (gaps place size bs) _ bs (run_gaps bs) (λ g rest. refl)
      go false false = refl

  pub run_slot : (count : ℕ) (bs : List ℕ) → run size (slot_plan place count) bs ≡ slot_table size count place bs
  run_slot count bs = go (leb place count)
    where
      go : (s : Bool) → run size (cond s (bind (table_plan place) (λ t. done (Some t))) (done None)) bs ≡ cond s (then (table place size bs) λ t. Ok (Some t.0, t.1)) (Ok (None, bs))
      go true = follows size (table_plan place) _ (table place size bs) _ bs (run_table bs) (λ t rest. refl)
      go false = refl
