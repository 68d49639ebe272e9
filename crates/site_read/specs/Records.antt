-- A record as a part of the file: the bytes that its table is read from, and where they begin.
use Rattle.std.specs.Prelude.{ℕ, ◌-◌, cond, List, length, take, Some, None, Ok, Err, Option, Result, nat_le}
use Rattle.std.specs.Borrow.{Bor}
use Rattle.std.specs.Option.{option_map}
use Rattle.site_read.specs.declared.fault.Fault.{Fault}
use Rattle.site_read.specs.declared.fault.Fault.TheVariants.{Trailing}
use Rattle.site_read.specs.declared.limits.Terms.{Terms}
use Rattle.site_read.specs.declared.records.Record.{Record}
use Rattle.site_read.specs.declared.records.Record.TheVariants.{Region, Contract}
use Rattle.site_read.specs.declared.records.Records.{Records}
use Rattle.site_read.specs.Header.{header}
use Rattle.site_read.specs.Parse.{Parsed, then, seen_as}
use Rattle.site_read.specs.Tables.{Gaps, Table, by_regions, by_contract}
use Rattle.site_read.specs.Fields.{table}

-- a record's bytes and the offset of the first
pub data Piece : Type 0 where
  region_piece : List ℕ → ℕ → Piece
  contract_piece : List ℕ → ℕ → Piece

abbrev pub piece : Table → List ℕ → ℕ → Piece
piece (by_regions rs) bs at = region_piece bs at
piece (by_contract g) bs at = contract_piece bs at

-- what stands before the rest
abbrev pub before : List ℕ → List ℕ → List ℕ
before bs rest = take (length bs - length rest) bs

-- the record of loop `place` in a file of `size` bytes
abbrev pub record_of : ℕ → ℕ → List ℕ → Parsed Piece
record_of place size bs =
    then (table place size bs) λ t. Ok (piece t.0 (before bs t.1) (size - length bs), t.1)

-- the same in a file of `count` loops, which may have no such record
abbrev pub slot : ℕ → ℕ → ℕ → List ℕ → Parsed (Option Piece)
slot size count place bs =
    cond (nat_le place count) (then (record_of place size bs) λ p. Ok (Some p.0, p.1)) (Ok (None, bs))

pub record Pieces : Type 0 where
  pub first : Option Piece
  pub second : Option Piece
  pub third : Option Piece
  pub fourth : Option Piece

-- a whole file: the header, the records, and nothing behind them
abbrev pub pieces : List ℕ → Result Pieces Fault
pieces file =
    then (header file) λ h.
    then (slot (length file) h.0 1 h.1) λ a.
    then (slot (length file) h.0 2 a.1) λ b.
    then (slot (length file) h.0 3 b.1) λ c.
    then (slot (length file) h.0 4 c.1) λ d.
    cond (nat_le 1 (length d.1)) (Err (Trailing (length file - length d.1)))
    (Ok (record { first = a.0; second = b.0; third = c.0; fourth = d.0 }))

-- the gaps and holds that the code's terms stand for
abbrev pub gaps_in : Terms → Gaps
gaps_in x =
    record { least_gap = x.least_gap; greatest_gap = x.greatest_gap; least_hold = x.least_hold; greatest_hold = x.greatest_hold }

-- what the code lends, with the bytes in place of the loan
abbrev pub piece_of : Record → Piece
piece_of (Region r) = region_piece r.bytes.now r.at
piece_of (Contract r) = contract_piece r.bytes.now r.at

abbrev pub seen_record : Result (Record × Bor (List ℕ)) Fault → Parsed Piece
seen_record = seen_as piece_of

abbrev pub seen_slot : Result (Option Record × Bor (List ℕ)) Fault → Parsed (Option Piece)
seen_slot = seen_as (option_map piece_of)

abbrev pub pieces_of : Records → Pieces
pieces_of r =
    record { first = option_map piece_of r.first; second = option_map piece_of r.second; third = option_map piece_of r.third; fourth = option_map piece_of r.fourth }

abbrev pub seen_pieces : Result Records Fault → Result Pieces Fault
seen_pieces (Ok r) = Ok (pieces_of r)
seen_pieces (Err e) = Err e
