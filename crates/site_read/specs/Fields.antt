-- Reading a loop's record. A record is its kind; then for kind 1 the number of regions and for each region its
-- earliest send, its deadline and a two-byte set of regions for each check from the one to the other; and for
-- kind 2 the least and the greatest gap, the least and the greatest hold.
use Rattle.std.specs.Prelude.{ℕ, ◌+◌, ◌-◌, ◌*◌, cond, ◌&&◌, List, [], ◌∷◌, length, Ok, Err, ◌==◌, nat_le}
use Rattle.site_read.specs.declared.fault.Fault.TheVariants.{Truncated, Kind, Number, Set}
use Rattle.site_read.specs.declared.kind.Kind.TheVariants.{Region, Contract}
use Rattle.site_read.specs.declared.limits.Span.{Span}
use Rattle.site_read.specs.Kinds.{kind_byte}
use Rattle.site_read.specs.Parse.{Parsed, then, many}
use Rattle.site_read.specs.Tables.{Row, Gaps, Table, by_regions, by_contract, lawful_set}

-- of the record of loop `place` in a file of `size` bytes; what is left of the file says where a field stands
module _ (place size : ℕ) where
  -- a number from low to high, in one byte
  abbrev pub ranged : ℕ → ℕ → List ℕ → Parsed ℕ
  ranged low high [] = Err (Truncated place size)
  ranged low high (b ∷ bs) =
      cond (nat_le low b && nat_le b high) (Ok (b, bs)) (Err (Number place (size - length (b ∷ bs))))

  -- a set of regions below `count`, in two bytes
  abbrev pub target_set : ℕ → List ℕ → Parsed ℕ
  target_set count [] = Err (Truncated place size)
  target_set count (h ∷ []) = Err (Truncated place size)
  target_set count (h ∷ l ∷ bs) =
      cond (lawful_set count (h * 256 + l)) (Ok (h * 256 + l, bs)) (Err (Set place (size - length (h ∷ l ∷ bs))))

  -- the checks at which a region's send may come
  abbrev pub span : List ℕ → Parsed Span
  span bs =
      then (ranged 1 64 bs) λ e.
      then (ranged e.0 64 e.1) λ d.
      Ok (record { earliest = e.0; deadline = d.0 }, d.1)

  abbrev pub row : ℕ → List ℕ → Parsed Row
  row count bs =
      then (span bs) λ s.
      then (many (target_set count) (s.0.deadline + 1 - s.0.earliest) s.1) λ t.
      Ok (record { earliest = s.0.earliest; deadline = s.0.deadline; targets = t.0 }, t.1)

  abbrev pub regions : List ℕ → Parsed (List Row)
  regions bs = then (ranged 1 16 bs) λ n. many (row n.0) n.0 n.1

  abbrev pub gaps : List ℕ → Parsed Gaps
  gaps bs =
      then (ranged 1 64 bs) λ g.
      then (ranged g.0 64 g.1) λ G.
      then (ranged 1 16 G.1) λ c.
      then (ranged c.0 16 c.1) λ C.
      Ok (record { least_gap = g.0; greatest_gap = G.0; least_hold = c.0; greatest_hold = C.0 }, C.1)

  -- a whole record
  abbrev pub table : List ℕ → Parsed Table
  table [] = Err (Truncated place size)
  table (k ∷ bs) =
      cond (k == kind_byte Region) (then (regions bs) λ t. Ok (by_regions t.0, t.1))
      (cond (k == kind_byte Contract) (then (gaps bs) λ t. Ok (by_contract t.0, t.1))
      (Err (Kind place (size - length (k ∷ bs)))))
