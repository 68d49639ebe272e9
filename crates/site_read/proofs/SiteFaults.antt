-- The fault that the reader tells is the file's.
use Rattle.std.proofs.Common.{◌≡◌, ℕ, ◌-◌, ◌≤◌, inl, inr, ◌↔◌, List, [], ◌∷◌, ◌++◌, length, Ok, Err, Result, sym, refl, ap, ◌∙◌, subst, append-nil, arith}
use Rattle.std.proofs.lemmas.Bool.{le-leb}
use Rattle.std.proofs.lemmas.List.{length-append}
use Rattle.site_read.specs.declared.fault.Fault.{Fault}
use Rattle.site_read.specs.declared.fault.Fault.TheVariants.{Truncated, Trailing}
use Rattle.site_read.specs.Parse.{Parsed, then}
use Rattle.site_read.specs.Faults.{report}
use Rattle.site_read.specs.Format.{Bytes, Places, LawfulSite, loop_count, file_of}
use Rattle.site_read.specs.declared.records.Records.{Records}
use Rattle.site_read.specs.Records.{pieces, pieces_of, seen_pieces}
use Rattle.site_read.specs.Sites.{site}
use Rattle.site_read.specs.Beginnings.{Field, bytes_of, fields_of, BeginsFile, Due, WrongField, EndsEarly, BytesBehind, FaultIn}
use Rattle.site_read.proofs.Sound.{never, same_ok, then_ok}
use Rattle.site_read.proofs.Encoded.{bytes_after}
use Rattle.site_read.proofs.Files.{files_are_read, only_files_are_read}
use Rattle.site_read.proofs.Whole.{records_fault}
use Rattle.site_read.proofs.Plans.{fault_at, Plan, done, due, run, Leads}
use Rattle.site_read.proofs.Runs.{bytes_before, reads, read_as, Begins, DueIn}
use Rattle.site_read.proofs.Stops.{stops, ends_at, wrong_at}
use Rattle.site_read.proofs.SitePlan.{site_plan}
use Rattle.site_read.proofs.SiteRun.{finish, run_site}
use Rattle.site_read.proofs.SiteFields.{fields_with, site_leads}
use Rattle.site_read.proofs.SiteFillings.{fillable_site}
use Rattle.site_read.proofs.Reports.{same_report, due_report}
use Rattle.site_read.proofs.FileBytes.{bytes_both, file_bytes, file_fields}

-- a run that ended well with nothing behind
ended : (size : ℕ) (x : Places × List ℕ) (p : Places) → finish size x ≡ Ok p → (x.0 ≡ p) × (x.1 ≡ [])
ended size (q, []) p e = (same_ok q p e, refl)
ended size (q, b ∷ bs) p e = never _ p (rw (le-leb 1 (length (b ∷ bs)) (omega arith)) at e)

leads_bytes : {X : Type 0} (p : Plan X) (fs : List Field) (x : X) → Leads p fs x → Bytes (bytes_of fs)
leads_bytes (done y) fs x l = rw l.0 refl
leads_bytes (due w q t k) fs x l = rw l.fields (bytes_both l.found (bytes_of l.rest) l.fits.bytes (leads_bytes (k l.found) l.rest x l.goes_on))

-- the fields that lead through the plan are those of a lawful site's file
site_of : (fs : List Field) (p : Places) → Leads site_plan fs p → LawfulSite p × (fs ≡ fields_of p)
site_of fs p l =
    let file : List ℕ = bytes_of fs in
    let size : ℕ = length file in
    let r : run size site_plan file ≡ Ok (p, []) = ap (run size site_plan) (sym (append-nil file)) ∙ reads size site_plan fs p [] l in
    let s : site file ≡ Ok p = sym (run_site file) ∙ ap (λ (a : Parsed Places). then a (finish size)) r in
    let o = only_files_are_read file (leads_bytes site_plan fs p l) p s in
    let n = site_leads fs p l in
    let e : bytes_of (fields_with n.0 p) ≡ file_of p = sym (ap bytes_of n.1) ∙ o.1 in
    let c : n.0 ≡ loop_count p = cc in
    (o.0, n.1 ∙ ap (λ (m : ℕ). fields_with m p) c)

leads_of : (p : Places) → LawfulSite p → Leads site_plan (fields_of p) p
leads_of p l =
    let file : List ℕ = file_of p in
    let size : ℕ = length file in
    let t = then_ok (run size site_plan file) (finish size) p (run_site file ∙ files_are_read p l) in
    let e = ended size t.0 p t.2 in
    let r = read_as size site_plan file (file_bytes p l) t.0 t.1 in
    let s = site_of r.fields t.0.0 r.leads in
    subst (λ (q : Places). Leads site_plan (fields_of q) q) e.0 (subst (λ (fs : List Field). Leads site_plan fs t.0.0) s.1 r.leads)

begins_file : (bs : List ℕ) → Begins site_plan bs → BeginsFile bs
begins_file bs b =
    let s = site_of b.fields b.value b.leads in
    record { site = b.value; lawful = s.0; rest = b.rest; file = file_fields b.value ∙ ap bytes_of (sym s.1) ∙ b.parts }

begins_in : (bs : List ℕ) → BeginsFile bs → Begins site_plan bs
begins_in bs b = record {
  value = b.site;
  fields = fields_of b.site;
  leads = leads_of b.site b.lawful;
  rest = b.rest;
  parts = sym (file_fields b.site) ∙ b.file;
}

due_file : (before : List Field) (next : Field) → DueIn site_plan before next → Due before next
due_file before next d =
    let s = site_of (before ++ (next ∷ d.after)) d.value d.leads in
    record { site = d.value; lawful = s.0; after = d.after; fields = sym s.1 }

due_leads : (before : List Field) (next : Field) → (d : Due before next) → Leads site_plan (before ++ (next ∷ d.after)) d.site
due_leads before next d = subst (λ (fs : List Field). Leads site_plan fs d.site) d.fields (leads_of d.site d.lawful)

-- where the rest begins
stands : (front rest file : List ℕ) → file ≡ front ++ rest → length file - length rest ≡ length front
stands front rest file e = omega (arith, ap length e ∙ length-append front rest)

-- what stands behind a site's records is bytes behind the file
behind : (file : List ℕ) (e : Fault) (p : Places) (rest : List ℕ) → LawfulSite p → file ≡ file_of p ++ rest → finish (length file) (p, rest) ≡ Err e → BytesBehind file e
behind file e p [] l s r = absurd (cc)
behind file e p (b ∷ bs) l s r =
    let some : 1 ≤ length (b ∷ bs) = omega arith in
    let t = rw (le-leb 1 (length (b ∷ bs)) some) at r in
    let told : e ≡ Trailing (length file - length (b ∷ bs)) = cc in
    record { site = p; lawful = l; rest = b ∷ bs; some = some; parts = s; tells = ap report (told ∙ ap (λ (n : ℕ). Trailing n) (stands (file_of p) (b ∷ bs) file s)) }

is_fault : (file : List ℕ) → Bytes file → (e : Fault) → site file ≡ Err e → FaultIn file e
is_fault file h e r = go (run (length file) site_plan file) refl
  where
    go : (a : Parsed Places) → run (length file) site_plan file ≡ a → FaultIn file e
    go (Err d) q =
        let r' = sym r ∙ sym (run_site file) ∙ ap (λ (a : Parsed Places). then a (finish (length file))) q in
        let same : d ≡ e = cc in
        elim (stops (length file) site_plan fillable_site file h e (q ∙ ap (λ (d : Fault). Err d) same)) [
          | inl a ↦ inl (record {
            before = a.before;
            due = a.next;
            is_due = due_file a.before a.next a.is_due;
            found = a.found;
            full = a.full;
            rest = a.rest;
            parts = a.parts;
            wrong = λ b. a.wrong (begins_in (bytes_of a.before ++ a.found) b);
            tells = ap report (a.told ∙ ap (fault_at a.next.what a.next.place a.found) (stands (bytes_of a.before) (a.found ++ a.rest) file a.parts))
                ∙ due_report a.before a.next (due_file a.before a.next a.is_due) a.found;
          })
          | inr a ↦ inr (inl (record {
            before = a.before;
            due = a.next;
            is_due = due_file a.before a.next a.is_due;
            found = a.found;
            short = a.short;
            parts = a.parts;
            tells = ap report a.told;
          }))
        ]
    go (Ok x) q =
        let a = read_as (length file) site_plan file h x q in
        let s = site_of a.fields x.0 a.leads in
        inr (inr (behind file e x.0 x.1 s.0 (a.parts ∙ ap (λ (l : List ℕ). l ++ x.1) (ap bytes_of s.1 ∙ sym (file_fields x.0))) (sym (ap (λ (a : Parsed Places). then a (finish (length file))) q) ∙ run_site file ∙ r)))

-- a run that stopped, or ended, and the site
stopped : (file : List ℕ) (e : Fault) → run (length file) site_plan file ≡ Err e → site file ≡ Err e
stopped file e q = sym (run_site file) ∙ ap (λ (a : Parsed Places). then a (finish (length file))) q

wrong_is : (file : List ℕ) → Bytes file → (e : Fault) → WrongField file e → site file ≡ Err e
wrong_is file h e w =
    let size : ℕ = length file in
    let front = bytes_of w.before in
    let l = due_leads w.before w.due w.is_due in
    let b : Bytes w.found = bytes_before w.found w.rest (bytes_after front (w.found ++ w.rest) (rw w.parts at h)) in
    let r = wrong_at size site_plan fillable_site w.before w.due w.is_due.after w.is_due.site l w.found w.rest b w.full (λ b. w.wrong (begins_file (front ++ w.found) b)) in
    let told = ap (fault_at w.due.what w.due.place w.found) (stands front (w.found ++ w.rest) file w.parts)
    ∙ same_report (fault_at w.due.what w.due.place w.found (length front)) e (due_report w.before w.due w.is_due w.found ∙ sym w.tells) in
    stopped file e (ap (run size site_plan) w.parts ∙ r ∙ ap (λ (e : Fault). Err e) told)

early_is : (file : List ℕ) (e : Fault) → EndsEarly file e → site file ≡ Err e
early_is file e w =
    let size : ℕ = length file in
    let l = due_leads w.before w.due w.is_due in
    let r = ends_at size site_plan w.before w.due w.is_due.after w.is_due.site l w.found w.short in
    stopped file e (ap (run size site_plan) w.parts ∙ r ∙ ap (λ (e : Fault). Err e) (same_report (Truncated w.due.place size) e (sym w.tells)))

behind_is : (file : List ℕ) (e : Fault) → BytesBehind file e → site file ≡ Err e
behind_is file e w =
    let size : ℕ = length file in
    let s : file ≡ bytes_of (fields_of w.site) ++ w.rest = w.parts ∙ ap (λ (l : List ℕ). l ++ w.rest) (file_fields w.site) in
    let r = ap (run size site_plan) s ∙ reads size site_plan (fields_of w.site) w.site w.rest (leads_of w.site w.lawful) in
    sym (run_site file) ∙ ap (λ (a : Parsed Places). then a (finish size)) r
    ∙ rw (le-leb 1 (length w.rest) w.some) (ap (λ (n : ℕ). Err (Trailing n)) (stands (file_of w.site) w.rest file w.parts) ∙ ap (λ (e : Fault). Err e) (same_report (Trailing (length (file_of w.site))) e (sym w.tells)))

-- the reader tells a file's fault, and no other: a file that has none is accepted, and no file has two
pub faults_are_told : (file : List ℕ) → Bytes file → (e : Fault) → (site file ≡ Err e) ↔ FaultIn file e
faults_are_told file h e = (
  is_fault file h e,
  λ f. elim f [ inl a ↦ wrong_is file h e a | inr g ↦ elim g [ inl a ↦ early_is file e a | inr a ↦ behind_is file e a ] ],
)

-- the code's answer has the file's fault
pub records_told : (file : List ℕ) → Bytes file → (r : Result Records Fault) → seen_pieces r ≡ pieces file → (e : Fault) → (r ≡ Err e) ↔ FaultIn file e
records_told file h (Ok x) s e =
    let p = records_fault file h e in
    let f = faults_are_told file h e in
    (λ q. never e x (sym q), λ w. never e (pieces_of x) (sym (p.1 (f.1 w)) ∙ sym s))
records_told file h (Err d) s e =
    let p = records_fault file h e in
    let f = faults_are_told file h e in
    (λ q. let d-is : d ≡ e = cc in f.0 (p.0 (sym s ∙ ap (λ (e : Fault). Err e) d-is)), λ w. let q = s ∙ p.1 (f.1 w) in let d-is : d ≡ e = cc in ap (λ (e : Fault). Err e) d-is)
