-- The file of a lawful site is bytes, and they are its fields' bytes.
use Rattle.std.proofs.Common.{◌≡◌, ℕ, ◌+◌, ◌-◌, ◌/◌, ◌%◌, ◌<◌, ◌≤◌, Bool, true, eqb, ltb, leb, List, [], ◌∷◌, ◌++◌, length, Some, None, Option, sym, refl, ap, ◌∙◌, ap₂, arith}
use Rattle.std.specs.List.{flat_map}
use Rattle.std.proofs.lemmas.Bool.{and_parts, and_from, lt-ltb, leb-true}
use Rattle.std.proofs.lemmas.Grind.{flat_map-append}
use Rattle.std.proofs.lemmas.List.Folds.{flat_map-map}
use Rattle.site_read.specs.Tables.{Row, Table, by_regions, by_contract, every, lawful_set, lawful_row, Lawful}
use Rattle.site_read.specs.Format.{Bytes, word, encode_row, encode, Places, placed, loop_count, file_of, LawfulPlace, LawfulSite}
use Rattle.site_read.specs.Beginnings.{Field, bytes_of, a_set, row_fields, placed_fields, FieldsMakeFiles}
use Rattle.site_read.proofs.Decoded.{five_parts, three_parts}
use Rattle.site_read.proofs.Files.{at_most_one}

byte_first : (b : ℕ) (bs : List ℕ) → b < 256 → Bytes bs → Bytes (b ∷ bs)
byte_first b bs h k = and_from (ltb b 256) (every (λ b. ltb b 256) bs) (lt-ltb b 256 h) k

pub every_both : {X : Type 0} (test : X → Bool) (xs ys : List X) → every test xs ≡ true → every test ys ≡ true → every test (xs ++ ys) ≡ true
every_both test [] ys h k = k
every_both test (x ∷ xs) ys h k =
    let p = and_parts (test x) (every test xs) h in
    and_from (test x) (every test (xs ++ ys)) p.0 (every_both test xs ys p.1 k)

pub bytes_both : (xs ys : List ℕ) → Bytes xs → Bytes ys → Bytes (xs ++ ys)
bytes_both = every_both (λ b. ltb b 256)

bytes_each : {X : Type 0} (enc : X → List ℕ) (test : X → Bool) → ((x : X) → test x ≡ true → Bytes (enc x)) → (xs : List X) → every test xs ≡ true → Bytes (flat_map enc xs)
bytes_each enc test each [] h = refl
bytes_each enc test each (x ∷ xs) h =
    let p = and_parts (test x) (every test xs) h in
    bytes_both (enc x) (flat_map enc xs) (each x p.0) (bytes_each enc test each xs p.1)

word_bytes : (s : ℕ) → Bytes (word s)
word_bytes s = byte_first (s / 256 % 256) (s % 256 ∷ []) (omega arith) (byte_first (s % 256) [] (omega arith) refl)

row_bytes : (count : ℕ) (r : Row) → lawful_row count r ≡ true → Bytes (encode_row r)
row_bytes count r h =
    let k = five_parts (leb 1 r.earliest) (leb r.earliest r.deadline) (leb r.deadline 64) (eqb (length r.targets) (r.deadline + 1 - r.earliest)) (every (lawful_set count) r.targets) h in
    let mid : r.earliest ≤ r.deadline = leb-true r.earliest r.deadline k.1 in
    let high : r.deadline ≤ 64 = leb-true r.deadline 64 k.2 in
    bytes_both (r.earliest ∷ r.deadline ∷ []) (flat_map word r.targets) (byte_first r.earliest (r.deadline ∷ []) (omega arith) (byte_first r.deadline [] (omega arith) refl))
    (bytes_each word (lawful_set count) (λ s _. word_bytes s) r.targets k.4)

table_bytes : (t : Table) → Lawful t → Bytes (encode t)
table_bytes (by_regions rs) l =
    let k = three_parts (leb 1 (length rs)) (leb (length rs) 16) (every (lawful_row (length rs)) rs) l in
    let n : length rs ≤ 16 = leb-true (length rs) 16 k.1 in
    bytes_both (1 ∷ length rs ∷ []) (flat_map encode_row rs) (byte_first 1 (length rs ∷ []) (omega arith) (byte_first (length rs) [] (omega arith) refl))
    (bytes_each encode_row (lawful_row (length rs)) (row_bytes (length rs)) rs k.2)
table_bytes (by_contract g) l =
    byte_first g.least_gap (g.greatest_gap ∷ g.least_hold ∷ g.greatest_hold ∷ []) (omega arith)
    (byte_first g.greatest_gap (g.least_hold ∷ g.greatest_hold ∷ []) (omega arith)
    (byte_first g.least_hold (g.greatest_hold ∷ []) (omega arith) (byte_first g.greatest_hold [] (omega arith) refl)))

placed_bytes : (o : Option Table) → LawfulPlace o → Bytes (placed o)
placed_bytes None l = refl
placed_bytes (Some t) l = table_bytes t l

pub file_bytes : (p : Places) → LawfulSite p → Bytes (file_of p)
file_bytes p l =
    let a = at_most_one p.first in
    let b = at_most_one p.second in
    let c = at_most_one p.third in
    let d = at_most_one p.fourth in
    bytes_both (76 ∷ 75 ∷ 84 ∷ 0 ∷ 1 ∷ loop_count p ∷ []) (placed p.first ++ (placed p.second ++ (placed p.third ++ placed p.fourth))) (byte_first (loop_count p) [] (omega arith) refl)
    (bytes_both (placed p.first) (placed p.second ++ (placed p.third ++ placed p.fourth)) (placed_bytes p.first l.first)
    (bytes_both (placed p.second) (placed p.third ++ placed p.fourth) (placed_bytes p.second l.second)
    (bytes_both (placed p.third) (placed p.fourth) (placed_bytes p.third l.third) (placed_bytes p.fourth l.fourth))))

module _ (place : ℕ) where
  rows_fields : (rs : List Row) → flat_map encode_row rs ≡ bytes_of (flat_map (row_fields place) rs)
  rows_fields [] = refl
  rows_fields (r ∷ rs) =
      ap₂ (λ (u v : List ℕ). r.earliest ∷ r.deadline ∷ (u ++ v)) (sym (flat_map-map (λ (f : Field). f.bytes) (a_set place) r.targets)) (rows_fields rs)
      ∙ sym (flat_map-append (λ (f : Field). f.bytes) (row_fields place r) (flat_map (row_fields place) rs))

  placed_are : (o : Option Table) → placed o ≡ bytes_of (placed_fields place o)
  placed_are None = refl
  placed_are (Some (by_regions rs)) = ap (λ (u : List ℕ). 1 ∷ length rs ∷ u) (rows_fields rs)
  placed_are (Some (by_contract g)) = refl

pub file_fields : FieldsMakeFiles
file_fields p =
    let both = λ (fs gs : List Field). sym (flat_map-append (λ (f : Field). f.bytes) fs gs) in
    ap (λ (u : List ℕ). 76 ∷ 75 ∷ 84 ∷ 0 ∷ 1 ∷ loop_count p ∷ u)
    (ap₂ (λ (u v : List ℕ). u ++ v) (placed_are 1 p.first)
    (ap₂ (λ (u v : List ℕ). u ++ v) (placed_are 2 p.second)
    (ap₂ (λ (u v : List ℕ). u ++ v) (placed_are 3 p.third) (placed_are 4 p.fourth)
    ∙ both (placed_fields 3 p.third) (placed_fields 4 p.fourth))
    ∙ both (placed_fields 2 p.second) (placed_fields 3 p.third ++ placed_fields 4 p.fourth))
    ∙ both (placed_fields 1 p.first) (placed_fields 2 p.second ++ (placed_fields 3 p.third ++ placed_fields 4 p.fourth)))
