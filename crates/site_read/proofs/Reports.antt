-- What is reported of a field that cannot stand: the field's number and loop, and the place at which it stands.
use Rattle.std.proofs.Common.{◌≡◌, ℕ, ◌+◌, Bool, true, false, cond, eqb, List, [], ◌∷◌, ◌++◌, length, map, Some, None, Option, sym, refl, ap, ◌∙◌, arith}
use Rattle.std.specs.List.{flat_map}
use Rattle.std.proofs.lemmas.Bool.{and_parts, false≢true}
use Rattle.site_read.specs.declared.fault.Fault.{Fault}
use Rattle.site_read.specs.declared.fault.Fault.TheVariants.{Truncated, Mark, Version, LoopCount, Kind, Number, Set, Trailing}
use Rattle.site_read.specs.declared.fault.Report.{Report}
use Rattle.site_read.specs.Faults.{report_with, report}
use Rattle.site_read.specs.Tables.{Row, Table, by_regions, by_contract, every}
use Rattle.site_read.specs.Format.{loop_count, the_mark}
use Rattle.site_read.specs.Beginnings.{What, mark, version, loops, kind, number, set, Field, field, a_set, row_fields, placed_fields, bytes_of, Due, number_of, wrong_byte}
use Rattle.site_read.proofs.FileBytes.{every_both}
use Rattle.site_read.proofs.Plans.{fault_at}

-- a report is one fault's
fault_of : Report → Fault
fault_of r =
    cond (eqb r.number 1) (Truncated r.place r.at) (cond (eqb r.number 2) (Mark r.at) (cond (eqb r.number 3) Version (cond (eqb r.number 4) LoopCount
    (cond (eqb r.number 5) (Kind r.place r.at) (cond (eqb r.number 6) (Number r.place r.at) (cond (eqb r.number 7) (Set r.place r.at) (Trailing r.at)))))))

back : (e : Fault) → fault_of (report e) ≡ e
unfolding fault_of
back (Truncated q a) = refl
back (Mark a) = refl
back Version = refl
back LoopCount = refl
back (Kind q a) = refl
back (Number q a) = refl
back (Set q a) = refl
back (Trailing a) = refl

pub same_report : (d e : Fault) → report d ≡ report e → d ≡ e
same_report d e h = sym (back d) ∙ ap fault_of h ∙ back e

-- behind the header stand the fields of records
abbrev of_record : What → Bool
of_record mark = false
of_record version = false
of_record loops = false
of_record kind = true
of_record number = true
of_record set = true

abbrev of_records : List Field → Type 0
of_records fs = every (λ f. of_record f.what) fs ≡ true

module _ (place : ℕ) where
  sets_are : (xs : List ℕ) → of_records (map (a_set place) xs)
  sets_are [] = refl
  sets_are (x ∷ xs) = sets_are xs

  rows_are : (rs : List Row) → of_records (flat_map (row_fields place) rs)
  rows_are [] = refl
  rows_are (r ∷ rs) = every_both (λ f. of_record f.what) (map (a_set place) r.targets) (flat_map (row_fields place) rs) (sets_are r.targets) (rows_are rs)

  placed_are : (o : Option Table) → of_records (placed_fields place o)
  placed_are None = refl
  placed_are (Some (by_regions rs)) = rows_are rs
  placed_are (Some (by_contract g)) = refl

one_of : (fs : List Field) (f : Field) (gs : List Field) → of_records (fs ++ (f ∷ gs)) → of_record f.what ≡ true
one_of [] f gs h = (and_parts (of_record f.what) (every (λ f. of_record f.what) gs) h).0
one_of (x ∷ fs) f gs h = one_of fs f gs (and_parts (of_record x.what) (every (λ f. of_record f.what) (fs ++ (f ∷ gs))) h).1

record_report : (w : What) (q : ℕ) (found : List ℕ) (at : ℕ) → of_record w ≡ true → report (fault_at w q found at) ≡ report_with (number_of w) q (at + wrong_byte w found)
record_report mark q found at h = absurd (false≢true h)
record_report version q found at h = absurd (false≢true h)
record_report loops q found at h = absurd (false≢true h)
record_report kind q found at h = ap (λ (n : ℕ). report_with 5 q n) (omega arith)
record_report number q found at h = ap (λ (n : ℕ). report_with 6 q n) (omega arith)
record_report set q found at h = ap (λ (n : ℕ). report_with 7 q n) (omega arith)

pub due_report : (before : List Field) (f : Field) → Due before f → (found : List ℕ) → report (fault_at f.what f.place found (length (bytes_of before))) ≡ report_with (number_of f.what) f.place (length (bytes_of before) + wrong_byte f.what found)
due_report [] f d found =
    let e : f ≡ field mark 0 the_mark = cc (d.fields) in
    rw e refl
due_report (a ∷ []) f d found =
    let e : f ≡ field version 0 (0 ∷ 1 ∷ []) = cc (d.fields) in
    let g : a ≡ field mark 0 the_mark = cc (d.fields) in
    rw (e, g) refl
due_report (a ∷ b ∷ []) f d found =
    let e : f ≡ field loops 0 (loop_count d.site ∷ []) = cc (d.fields) in
    let g : a ≡ field mark 0 the_mark = cc (d.fields) in
    let h : b ≡ field version 0 (0 ∷ 1 ∷ []) = cc (d.fields) in
    rw (e, g, h) refl
due_report (a ∷ b ∷ c ∷ before) f d found =
    let p = d.site in
    let q = λ (n : ℕ) (o : Option Table) (fs : List Field) (h : of_records fs). every_both (λ f. of_record f.what) (placed_fields n o) fs (placed_are n o) h in
    let e : placed_fields 1 p.first ++ (placed_fields 2 p.second ++ (placed_fields 3 p.third ++ placed_fields 4 p.fourth)) ≡ before ++ (f ∷ d.after) = cc (d.fields) in
    let all : of_records (before ++ (f ∷ d.after)) = rw (← e) (q 1 p.first _ (q 2 p.second _ (q 3 p.third _ (placed_are 4 p.fourth)))) in
    record_report f.what f.place found (length (bytes_of (a ∷ b ∷ c ∷ before))) (one_of before f d.after all)
