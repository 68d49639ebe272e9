-- What is wrong with a file, said of the files of lawful sites: it goes on as none of them does, it ends too early to be
-- one, or it goes on behind one. No reader, and no place that a reader has come to.
use Rattle.std.specs.Prelude.{◌≡◌, ℕ, suc, ◌+◌, ◌<◌, ◌≤◌, cond, ◌⊎◌, List, [], ◌∷◌, ◌++◌, length, map, Some, None, Option, ◌==◌}
use Rattle.std.specs.List.{flat_map}
use Rattle.site_read.specs.declared.fault.Fault.{Fault}
use Rattle.site_read.specs.declared.kind.Kind.TheVariants.{Region, Contract}
use Rattle.site_read.specs.Faults.{report_with, report}
use Rattle.site_read.specs.Kinds.{kind_byte}
use Rattle.site_read.specs.Tables.{Row, Table, by_regions, by_contract}
use Rattle.site_read.specs.Format.{word, the_mark, Places, LawfulSite, loop_count, file_of}

-- what a field is
pub data What : Type 0 where
  mark : What
  version : What
  loops : What
  kind : What
  number : What
  set : What

-- a field of a file; its place is the loop whose record it is in, and 0 in the header
pub record Field : Type 0 where
  pub what : What
  pub place : ℕ
  pub bytes : List ℕ

abbrev pub field : What → ℕ → List ℕ → Field
field w place bs = record { what = w; place = place; bytes = bs }

-- the fields of the record of loop `place`
module _ (place : ℕ) where
  abbrev pub a_number : ℕ → Field
  a_number n = field number place (n ∷ [])

  abbrev pub a_set : ℕ → Field
  a_set s = field set place (word s)

  abbrev pub row_fields : Row → List Field
  row_fields r = a_number r.earliest ∷ a_number r.deadline ∷ map a_set r.targets

  abbrev pub table_fields : Table → List Field
  table_fields (by_regions rs) = field kind place (kind_byte Region ∷ []) ∷ a_number (length rs) ∷ flat_map row_fields rs
  table_fields (by_contract g) =
      field kind place (kind_byte Contract ∷ [])
      ∷ a_number g.least_gap ∷ a_number g.greatest_gap ∷ a_number g.least_hold ∷ a_number g.greatest_hold ∷ []

  abbrev pub placed_fields : Option Table → List Field
  placed_fields None = []
  placed_fields (Some t) = table_fields t

-- the fields of a site's file
abbrev pub fields_of : Places → List Field
fields_of p =
    field mark 0 the_mark ∷ field version 0 (0 ∷ 1 ∷ []) ∷ field loops 0 (loop_count p ∷ [])
    ∷ (placed_fields 1 p.first ++ (placed_fields 2 p.second ++ (placed_fields 3 p.third ++ placed_fields 4 p.fourth)))

abbrev pub bytes_of : List Field → List ℕ
bytes_of = flat_map (λ f. f.bytes)

-- they are the file
abbrev pub FieldsMakeFiles : Type 0
FieldsMakeFiles = (p : Places) → file_of p ≡ bytes_of (fields_of p)

-- the file of some lawful site begins with these bytes
pub record BeginsFile (bs : List ℕ) : Type 0 where
  pub site : Places
  pub lawful : LawfulSite site
  pub rest : List ℕ
  pub file : file_of site ≡ bs ++ rest

-- the file of some lawful site has this field behind these
pub record Due (before : List Field) (due : Field) : Type 0 where
  pub site : Places
  pub lawful : LawfulSite site
  pub after : List Field
  pub fields : fields_of site ≡ before ++ (due ∷ after)

-- how many bytes two lists have alike before they differ
abbrev pub alike : List ℕ → List ℕ → ℕ
alike [] ys = 0
alike (x ∷ xs) [] = 0
alike (x ∷ xs) (y ∷ ys) = cond (x == y) (suc (alike xs ys)) 0

-- the number of a fault by the field that has it
abbrev pub number_of : What → ℕ
number_of mark = 2
number_of version = 3
number_of loops = 4
number_of kind = 5
number_of number = 6
number_of set = 7

-- which byte of a field is told: of the mark the first wrong one, of another field the first
abbrev pub wrong_byte : What → List ℕ → ℕ
wrong_byte mark found = alike found the_mark
wrong_byte _ found = 0

-- a field is due and there in full, and with it the bytes begin no file
pub record WrongField (file : List ℕ) (e : Fault) : Type 0 where
  pub before : List Field
  pub due : Field
  pub is_due : Due before due
  pub found : List ℕ
  pub full : length found ≡ length due.bytes
  pub rest : List ℕ
  pub parts : file ≡ bytes_of before ++ (found ++ rest)
  pub wrong : BeginsFile (bytes_of before ++ found) → ⊥
  pub tells : report e ≡ report_with (number_of due.what) due.place (length (bytes_of before) + wrong_byte due.what found)

-- a field is due, and the file ends before it or inside it
pub record EndsEarly (file : List ℕ) (e : Fault) : Type 0 where
  pub before : List Field
  pub due : Field
  pub is_due : Due before due
  pub found : List ℕ
  pub short : length found < length due.bytes
  pub parts : file ≡ bytes_of before ++ found
  pub tells : report e ≡ report_with 1 due.place (length file)

-- bytes follow the file of a lawful site
pub record BytesBehind (file : List ℕ) (e : Fault) : Type 0 where
  pub site : Places
  pub lawful : LawfulSite site
  pub rest : List ℕ
  pub some : 1 ≤ length rest
  pub parts : file ≡ file_of site ++ rest
  pub tells : report e ≡ report_with 8 0 (length (file_of site))

abbrev pub FaultIn : List ℕ → Fault → Type 0
FaultIn file e = WrongField file e ⊎ (EndsEarly file e ⊎ BytesBehind file e)
