-- The kinds of a record, and the byte that names each.
use Rattle.std.specs.Prelude.{ℕ, cond, Ok, Err, Result, ◌==◌}
use Rattle.site_read.specs.declared.kind.Kind.{Kind}
use Rattle.site_read.specs.declared.kind.Kind.TheVariants.{Region, Contract}
use Rattle.site_read.specs.declared.kind.UnknownKind.{UnknownKind}

-- kind 1 is a region loop, kind 2 a contract loop
abbrev pub kind_byte : Kind → ℕ
kind_byte Region = 1
kind_byte Contract = 2

-- the kind that a byte names
abbrev pub kind_named : ℕ → Result Kind UnknownKind
kind_named k =
    cond (k == kind_byte Region) (Ok Region) (cond (k == kind_byte Contract) (Ok Contract) (Err (record { 0 = k })))
