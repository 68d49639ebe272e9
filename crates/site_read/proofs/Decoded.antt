-- Reading the bytes of a lawful table gives the table back.
use Rattle.std.proofs.Common.{◌≡◌, ℕ, ◌+◌, ◌-◌, ◌*◌, ◌/◌, ◌%◌, ◌^◌, ◌<◌, ◌≤◌, Bool, true, false, ◌&&◌, eqb, ltb, leb, List, [], ◌∷◌, ◌++◌, length, Ok, refl, append_assoc, arith, pow_mono}
use Rattle.std.specs.List.{flat_map}
use Rattle.std.proofs.lemmas.Bool.{and_parts, and_from, eqb-true, le-leb, leb-true, ltb-true, false≢true}
use Rattle.site_read.specs.Parse.{Parsed, many}
use Rattle.site_read.specs.Tables.{Row, Gaps, Table, by_regions, by_contract, every, lawful_set, lawful_row, lawful_rows, LawfulGaps, Lawful}
use Rattle.site_read.specs.Fields.{target_set, row, regions, gaps, table}
use Rattle.site_read.specs.Format.{word, encode_row, encode_gaps, encode}

within : (low high x : ℕ) → low ≤ x → x ≤ high → (leb low x && leb x high) ≡ true
within low high x p q = and_from (leb low x) (leb x high) (le-leb low x p) (le-leb x high q)

pub many_back : {X : Type 0} (p : List ℕ → Parsed X) (enc : X → List ℕ) (test : X → Bool) → ((x : X) (rest : List ℕ) → test x ≡ true → p (enc x ++ rest) ≡ Ok (x, rest)) → (xs : List X) (rest : List ℕ) → every test xs ≡ true → many p (length xs) (flat_map enc xs ++ rest) ≡ Ok (xs, rest)
many_back p enc test each [] rest h = refl
many_back p enc test each (x ∷ xs) rest h =
    let k = and_parts (test x) (every test xs) h in
    rw (append_assoc (enc x) (flat_map enc xs) rest, each x (flat_map enc xs ++ rest) k.0, many_back p enc test each xs rest k.1) refl

pub five_parts : (a b c d e : Bool) → (a && b && c && d && e) ≡ true → (a ≡ true) × (b ≡ true) × (c ≡ true) × (d ≡ true) × (e ≡ true)
five_parts true true true true true h = (refl, refl, refl, refl, refl)
five_parts false b c d e h = absurd (false≢true h)
five_parts true false c d e h = absurd (false≢true h)
five_parts true true false d e h = absurd (false≢true h)
five_parts true true true false e h = absurd (false≢true h)
five_parts true true true true false h = absurd (false≢true h)

pub three_parts : (a b c : Bool) → (a && b && c) ≡ true → (a ≡ true) × (b ≡ true) × (c ≡ true)
three_parts true true true h = (refl, refl, refl)
three_parts false b c h = absurd (false≢true h)
three_parts true false c h = absurd (false≢true h)
three_parts true true false h = absurd (false≢true h)

module _ (place size : ℕ) where
  set_back : (count : ℕ) → count ≤ 16 → (s : ℕ) (rest : List ℕ) → lawful_set count s ≡ true → target_set place size count (word s ++ rest) ≡ Ok (s, rest)
  set_back count hc s rest h =
      let below : s < 2 ^ count = ltb-true s (2 ^ count) (and_parts (leb 1 s) (ltb s (2 ^ count)) h).1 in
      let p : 2 ^ count ≤ 2 ^ 16 = pow_mono hc in
      let e : s / 256 % 256 * 256 + s % 256 ≡ s = omega arith in
      rw (e, h) refl

  pub gaps_back : (g : Gaps) (rest : List ℕ) → LawfulGaps g → gaps place size (encode_gaps g ++ rest) ≡ Ok (g, rest)
  gaps_back g rest l =
      rw (within 1 64 g.least_gap (omega arith) (omega arith), within g.least_gap 64 g.greatest_gap (omega arith) (omega arith), within 1 16 g.least_hold (omega arith) (omega arith), within g.least_hold 16 g.greatest_hold (omega arith) (omega arith)) refl

  row_back : (count : ℕ) → count ≤ 16 → (r : Row) (rest : List ℕ) → lawful_row count r ≡ true → row place size count (encode_row r ++ rest) ≡ Ok (r, rest)
  row_back count hc r rest h =
      let k = five_parts (leb 1 r.earliest) (leb r.earliest r.deadline) (leb r.deadline 64) (eqb (length r.targets) (r.deadline + 1 - r.earliest)) (every (lawful_set count) r.targets) h in
      let low : 1 ≤ r.earliest = leb-true 1 r.earliest k.0 in
      let mid : r.earliest ≤ r.deadline = leb-true r.earliest r.deadline k.1 in
      let high : r.deadline ≤ 64 = leb-true r.deadline 64 k.2 in
      let n : length r.targets ≡ r.deadline + 1 - r.earliest = eqb-true (length r.targets) (r.deadline + 1 - r.earliest) k.3 in
      rw (within 1 64 r.earliest low (omega arith), within r.earliest 64 r.deadline mid high, ← n, many_back (target_set place size count) word (lawful_set count) (set_back count hc) r.targets rest k.4) refl

  pub regions_back : (rs : List Row) (rest : List ℕ) → lawful_rows rs ≡ true → regions place size ((length rs ∷ flat_map encode_row rs) ++ rest) ≡ Ok (rs, rest)
  regions_back rs rest h =
      let k = three_parts (leb 1 (length rs)) (leb (length rs) 16) (every (lawful_row (length rs)) rs) h in
      rw (within 1 16 (length rs) (leb-true 1 (length rs) k.0) (leb-true (length rs) 16 k.1))
      (many_back (row place size (length rs)) encode_row (lawful_row (length rs)) (row_back (length rs) (leb-true (length rs) 16 k.1)) rs rest k.2)

pub decodes : (t : Table) → Lawful t → (place size : ℕ) (rest : List ℕ) → table place size (encode t ++ rest) ≡ Ok (t, rest)
decodes (by_regions rs) l place size rest = rw (regions_back place size rs rest l) refl
decodes (by_contract g) l place size rest = rw (gaps_back place size g rest l) refl
