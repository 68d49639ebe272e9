-- The site of a file, from its four records.
use Rattle.std.proofs.Common.{◌≡◌, ℕ, true, List, length, Some, Ok, Err, Option, Result, sym, refl, ap, ◌∙◌}
use Rattle.std.proofs.lemmas.Bool.{or_left, or_right}
use Rattle.site_read.specs.declared.fault.Fault.{Fault}
use Rattle.site_read.specs.Tables.{Table, by_regions}
use Rattle.site_read.specs.Format.{Bytes, Places, in_order}
use Rattle.site_read.specs.Records.{Pieces, pieces}
use Rattle.site_read.specs.Sites.{piece_table, file_tables, site}
use Rattle.site_read.proofs.Sound.{never, same_ok, then_ok}
use Rattle.site_read.proofs.Whole.{whole, records_accepted}
use Rattle.site_read.proofs.Files.{files_are_read, only_files_are_read}
use Rattle.site_read.proofs.SiteFaults.{faults_are_told}
use Rattle.loops.specs.declared.load_fault.LoadFault.{LoadFault}
use Rattle.loops.specs.declared.load_fault.LoadFault.TheVariants.{File, Memory}
use Rattle.loops.specs.Loading.{Holds, RegionLoopRead}
use Rattle.loops.specs.Places.{place_table}
use Rattle.site.specs.declared.site.Site.{Site}
use Rattle.site.specs.Held.{is_region_loop, has_region_loop}
use Rattle.site.specs.Loaded.{site_places, RegionLoopsRead, Accepted, FileIsRead, FaultIsTold}

pub assembled : (file : List ℕ) (p : Pieces) (a b c d : Option Table) → Ok p ≡ pieces file → piece_table 1 (length file) p.first ≡ Ok a → piece_table 2 (length file) p.second ≡ Ok b → piece_table 3 (length file) p.third ≡ Ok c → piece_table 4 (length file) p.fourth ≡ Ok d → file_tables file ≡ Ok (record { first = a; second = b; third = c; fourth = d })
assembled file p a b c d e h₁ h₂ h₃ h₄ = rw (← e, h₁, h₂, h₃, h₄) refl

pub read_in_order : (file : List ℕ) → Bytes file → (p : Places) → file_tables file ≡ Ok p → in_order p ≡ true
read_in_order file h p e = (only_files_are_read file h p (sym (whole file h) ∙ e)).0.order

-- a record that was found reads as a table, and so only memory can be wanted for it
record_stops : (file : List ℕ) (s : Result (Option Table) Fault) (t : Option Table) (q : Places) → s ≡ Ok t → file_tables file ≡ Ok q → (is_region_loop t ≡ true → has_region_loop q ≡ true) → (y : LoadFault) → Holds place_table RegionLoopRead s (Err y) → Holds site_places RegionLoopsRead (file_tables file) (Err y)
record_stops file s t q e f more (File x) h = never x t (sym h ∙ e)
record_stops file s t q e f more Memory h = (q, f, more (let same : t ≡ Some (by_regions h.0) = same_ok t (Some (by_regions h.0)) (sym e ∙ h.1) in ap is_region_loop same))

-- the tables of the records that were found
record Tables (file : List ℕ) (p : Pieces) : Type 0 where
  site : Places
  tables : file_tables file ≡ Ok site
  first : piece_table 1 (length file) p.first ≡ Ok site.first
  second : piece_table 2 (length file) p.second ≡ Ok site.second
  third : piece_table 3 (length file) p.third ≡ Ok site.third
  fourth : piece_table 4 (length file) p.fourth ≡ Ok site.fourth

module _ (file : List ℕ) (h : Bytes file) (p : Pieces) (found : Ok p ≡ pieces file) where
  tables_of : Tables file p
  tables_of =
      let w = records_accepted file h p (sym found) in
      let q = whole file h ∙ w.1 in
      let z = then_ok (pieces file) _ w.0 q in
      let same : p ≡ z.0 = same_ok p z.0 (found ∙ z.1) in
      let a = then_ok (piece_table 1 (length file) z.0.first) _ w.0 z.2 in
      let b = then_ok (piece_table 2 (length file) z.0.second) _ w.0 a.2 in
      let c = then_ok (piece_table 3 (length file) z.0.third) _ w.0 b.2 in
      let d = then_ok (piece_table 4 (length file) z.0.fourth) _ w.0 c.2 in
      let is : record { first = a.0; second = b.0; third = c.0; fourth = d.0 } ≡ w.0 = same_ok (record { first = a.0; second = b.0; third = c.0; fourth = d.0 }) w.0 d.2 in
      rw same
      (record {
        site = record { first = a.0; second = b.0; third = c.0; fourth = d.0 };
        tables = q ∙ ap Ok (sym is);
        first = a.1;
        second = b.1;
        third = c.1;
        fourth = d.1;
      })

  -- what stops the loading of a place stops that of the site
  abbrev Stops : Result (Option Table) Fault → Type 0
  Stops s = (y : LoadFault) → Holds place_table RegionLoopRead s (Err y) → Holds site_places RegionLoopsRead (file_tables file) (Err y)

  pub first_stops : Stops (piece_table 1 (length file) p.first)
  first_stops =
      let t = tables_of in
      record_stops file _ t.site.first t.site t.first t.tables (λ e. or_left _ _ (or_left _ _ (or_left _ _ e)))

  pub second_stops : Stops (piece_table 2 (length file) p.second)
  second_stops =
      let t = tables_of in
      record_stops file _ t.site.second t.site t.second t.tables (λ e. or_left _ _ (or_left _ _ (or_right _ _ e)))

  pub third_stops : Stops (piece_table 3 (length file) p.third)
  third_stops =
      let t = tables_of in
      record_stops file _ t.site.third t.site t.third t.tables (λ e. or_left _ _ (or_right _ _ e))

  pub fourth_stops : Stops (piece_table 4 (length file) p.fourth)
  fourth_stops =
      let t = tables_of in record_stops file _ t.site.fourth t.site t.fourth t.tables (λ e. or_right _ _ e)

-- what the records hold is the site of the file
pub by_records : (file : List ℕ) → Bytes file → (r : Result Site LoadFault) → Holds site_places RegionLoopsRead (file_tables file) r → Holds site_places RegionLoopsRead (site file) r
by_records file h (Ok s) q = sym (whole file h) ∙ q
by_records file h (Err (File e)) q = sym (whole file h) ∙ q
by_records file h (Err Memory) q = (q.0, sym (whole file h) ∙ q.1, q.2)

-- and the file is that of the site
pub accepted : (file : List ℕ) → Bytes file → (r : Result Site LoadFault) → Holds site_places RegionLoopsRead (site file) r → Accepted file r
accepted file h (Ok s) q = only_files_are_read file h (site_places s) q
accepted file h (Err (File e)) q = λ p l f. never e p (sym q ∙ ap site f ∙ files_are_read p l)
accepted file h (Err Memory) q = let w = only_files_are_read file h q.0 q.1 in (q.0, w.0, w.1, q.2)

-- what is answered is the file's fault
pub fault_is_told : (file : List ℕ) → Bytes file → (r : Result Site LoadFault) → Holds site_places RegionLoopsRead (site file) r → FaultIsTold file r
fault_is_told file h (Ok s) q fault = (
  λ e. cc,
  λ w. never fault (site_places s) (sym ((faults_are_told file h fault).1 w) ∙ q),
)
fault_is_told file h (Err (File x)) q fault = (
  λ e. let same : x ≡ fault = cc in (faults_are_told file h fault).0 (q ∙ ap Err same),
  λ w. let is = (faults_are_told file h fault).1 w in let same : x ≡ fault = cc in ap (λ (y : Fault). Err (File y)) same,
)
fault_is_told file h (Err Memory) q fault = (λ e. cc, λ w. never fault q.0 (sym ((faults_are_told file h fault).1 w) ∙ q.1))

-- and every file of a site is read so
pub file_is_read : (file : List ℕ) (r : Result Site LoadFault) → Holds site_places RegionLoopsRead (site file) r → FileIsRead file r
file_is_read file (Ok s) q = λ p l f. same_ok (site_places s) p (sym q ∙ ap site f ∙ files_are_read p l)
file_is_read file (Err (File e)) q = λ p l f. never e p (sym q ∙ ap site f ∙ files_are_read p l)
file_is_read file (Err Memory) q =
    λ p l f. let same : q.0 ≡ p = same_ok q.0 p (sym q.1 ∙ ap site f ∙ files_are_read p l) in ap has_region_loop (sym same) ∙ q.2
