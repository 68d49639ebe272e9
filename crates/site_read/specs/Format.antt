-- The bytes of a table and of a site: what a file must be, said without a reader.
use Rattle.std.specs.Prelude.{◌≡◌, ℕ, ◌+◌, ◌/◌, ◌%◌, Bool, true, false, ◌&&◌, List, [], ◌∷◌, ◌++◌, length, Some, None, Option, nat_lt}
use Rattle.std.specs.List.{flat_map}
use Rattle.site_read.specs.declared.kind.Kind.TheVariants.{Region, Contract}
use Rattle.site_read.specs.Kinds.{kind_byte}
use Rattle.site_read.specs.Tables.{Row, Gaps, Table, by_regions, by_contract, every, Lawful}

abbrev pub Bytes : List ℕ → Type 0
Bytes bs = every (λ b. nat_lt b 256) bs ≡ true

-- a two-byte number, the high byte first
abbrev pub word : ℕ → List ℕ
word s = s / 256 % 256 ∷ s % 256 ∷ []

abbrev pub encode_row : Row → List ℕ
encode_row r = r.earliest ∷ r.deadline ∷ flat_map word r.targets

abbrev pub encode_gaps : Gaps → List ℕ
encode_gaps g = g.least_gap ∷ g.greatest_gap ∷ g.least_hold ∷ g.greatest_hold ∷ []

-- a loop's record: its kind, and its table
abbrev pub encode : Table → List ℕ
encode (by_regions rs) = kind_byte Region ∷ length rs ∷ flat_map encode_row rs
encode (by_contract g) = kind_byte Contract ∷ encode_gaps g

-- what a site's four places hold, in file order; a vacant place holds no table
pub record Places : Type 0 where
  pub first : Option Table
  pub second : Option Table
  pub third : Option Table
  pub fourth : Option Table

-- a place's record; a vacant place has none
abbrev pub placed : Option Table → List ℕ
placed None = []
placed (Some t) = encode t

abbrev pub held : Option Table → ℕ
held None = 0
held (Some t) = 1

abbrev pub loop_count : Places → ℕ
loop_count p = held p.first + held p.second + held p.third + held p.fourth

-- the mark LKT
abbrev pub the_mark : List ℕ
the_mark = 76 ∷ 75 ∷ 84 ∷ []

-- the file of a site: the mark, version 1, the number of loops, the records in file order
abbrev pub file_of : Places → List ℕ
file_of p =
    the_mark ++ 0 ∷ 1 ∷ loop_count p ∷ (placed p.first ++ (placed p.second ++ (placed p.third ++ placed p.fourth)))

-- no loop stands behind a vacant place
abbrev pub no_gap : Option Table → Option Table → Bool
no_gap (Some t) q = true
no_gap None None = true
no_gap None (Some t) = false

abbrev pub in_order : Places → Bool
in_order p = no_gap p.first p.second && no_gap p.second p.third && no_gap p.third p.fourth

abbrev pub LawfulPlace : Option Table → Type 0
LawfulPlace None = Unit {0}
LawfulPlace (Some t) = Lawful t

-- a site that a file describes
pub record LawfulSite (p : Places) : Type 0 where
  pub first : LawfulPlace p.first
  pub second : LawfulPlace p.second
  pub third : LawfulPlace p.third
  pub fourth : LawfulPlace p.fourth
  pub order : in_order p ≡ true
  pub some : loop_count p ≡ 0 → ⊥
