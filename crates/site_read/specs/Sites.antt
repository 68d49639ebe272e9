-- The site in a file, and which files there are.
use Rattle.std.specs.Prelude.{◌≡◌, ℕ, ◌-◌, cond, List, length, drop, Some, None, Ok, Err, Option, Result, nat_le}
use Rattle.site_read.specs.declared.fault.Fault.{Fault}
use Rattle.site_read.specs.declared.fault.Fault.TheVariants.{Trailing}
use Rattle.site_read.specs.Header.{header}
use Rattle.site_read.specs.Parse.{Parsed, then}
use Rattle.site_read.specs.Tables.{Table, by_regions, by_contract}
use Rattle.site_read.specs.Fields.{regions, gaps, table}
use Rattle.site_read.specs.Format.{Bytes, Places, LawfulSite, file_of}
use Rattle.site_read.specs.Records.{Piece, region_piece, contract_piece, pieces}

-- the table of loop `place`, in a file of `count` loops
abbrev pub slot_table : ℕ → ℕ → ℕ → List ℕ → Parsed (Option Table)
slot_table size count place bs =
    cond (nat_le place count) (then (table place size bs) λ t. Ok (Some t.0, t.1)) (Ok (None, bs))

-- a whole file: the header, a table for each loop, and nothing behind them
abbrev pub site : List ℕ → Result Places Fault
site file =
    then (header file) λ h.
    then (slot_table (length file) h.0 1 h.1) λ a.
    then (slot_table (length file) h.0 2 a.1) λ b.
    then (slot_table (length file) h.0 3 b.1) λ c.
    then (slot_table (length file) h.0 4 c.1) λ d.
    cond (nat_le 1 (length d.1)) (Err (Trailing (length file - length d.1)))
    (Ok (record { first = a.0; second = b.0; third = c.0; fourth = d.0 }))

-- the table in a record's bytes, behind its kind
abbrev pub piece_table : ℕ → ℕ → Option Piece → Result (Option Table) Fault
piece_table place size None = Ok None
piece_table place size (Some (region_piece bs at)) = then (regions place size (drop 1 bs)) λ t. Ok (Some (by_regions t.0))
piece_table place size (Some (contract_piece bs at)) = then (gaps place size (drop 1 bs)) λ t. Ok (Some (by_contract t.0))

-- the same site, read from the records by themselves
abbrev pub file_tables : List ℕ → Result Places Fault
file_tables file =
    then (pieces file) λ p.
    then (piece_table 1 (length file) p.first) λ a.
    then (piece_table 2 (length file) p.second) λ b.
    then (piece_table 3 (length file) p.third) λ c.
    then (piece_table 4 (length file) p.fourth) λ d.
    Ok (record { first = a; second = b; third = c; fourth = d })

-- the file of a lawful site is accepted, and read as that site
abbrev pub FilesAreRead : Type 0
FilesAreRead = (p : Places) → LawfulSite p → site (file_of p) ≡ Ok p

-- an accepted file is that of a lawful site, the one it is read as
abbrev pub OnlyFilesAreRead : Type 0
OnlyFilesAreRead = (file : List ℕ) → Bytes file → (p : Places) → site file ≡ Ok p → LawfulSite p × (file ≡ file_of p)
