-- A run stops at the first field that cannot stand, and at no other, where each field that is due can be filled.
use Rattle.std.proofs.Common.{◌≡◌, ℕ, ◌-◌, ◌<◌, Bool, true, false, ◌⊎◌, inl, inr, List, [], ◌∷◌, ◌++◌, length, Err, sym, refl, ap, subst, ◌∙◌, append_assoc}
use Rattle.std.proofs.lemmas.Bool.{false≢true}
use Rattle.site_read.specs.declared.fault.Fault.{Fault}
use Rattle.site_read.specs.declared.fault.Fault.TheVariants.{Truncated}
use Rattle.site_read.specs.Format.{Bytes}
use Rattle.site_read.specs.Beginnings.{What, Field, field, bytes_of}
use Rattle.site_read.proofs.Encoded.{bytes_after}
use Rattle.site_read.proofs.Plans.{fault_at, Plan, done, due, width, run, Fits, Leads, Fillable, completed}
use Rattle.site_read.proofs.Runs.{same_front, fits_on, wrong_here, ends_here, Turn, ends, wrong, right, turn, Begins, DueIn, WrongIn, EndsIn, begins_behind, wrong_behind, ends_behind}

abbrev StopsIn : {X : Type 0} → ℕ → Plan X → List ℕ → Fault → Type 0
StopsIn size p bs e = WrongIn size p bs e ⊎ EndsIn size p bs e

-- some field may stand where one is due
filled : {X : Type 0} (w : What) (q : ℕ) (t : List ℕ → Bool) (k : List ℕ → Plan X) (b : List ℕ) → Fits w t b → Fillable (k b) → DueIn (due w q t k) [] (field w q b)
filled w q t k b f o =
    let c = completed (k b) o in
    record {
      value = c.value;
      after = c.fields;
      leads = record { found = b; fits = f; rest = c.fields; fields = refl; goes_on = c.leads };
    }

pub stops : {X : Type 0} (size : ℕ) (p : Plan X) → Fillable p → (bs : List ℕ) → Bytes bs → (e : Fault) → run size p bs ≡ Err e → StopsIn size p bs e
stops size (done y) o bs h e r = absurd (cc)
stops {X} size (due w q t k) o bs h e r = go (turn w t bs h) (λ found rest f. stops size (k found) (o.1 found f) rest)
  where
    due_here : DueIn (due w q t k) [] (field w q o.0.0)
    due_here = filled w q t k o.0.0 o.0.1 (o.1 o.0.0 o.0.1)

    go : Turn w t bs → ((found rest : List ℕ) → Fits w t found → Bytes rest → (e : Fault) → run size (k found) rest ≡ Err e → StopsIn size (k found) rest e) → StopsIn size (due w q t k) bs e
    go (ends n) ih =
        let q' = ends_here w q t k size bs n in
        inr (record { before = []; next = field w q o.0.0; is_due = due_here; found = bs; short = rw o.0.1.full n; parts = refl; told = cc })
    go (wrong found rest s n f) ih =
        let q' = wrong_here w q t k size found rest n f in
        let r' = rw s at r in
        inl (record {
          before = [];
          next = field w q o.0.0;
          is_due = due_here;
          found = found;
          full = n ∙ sym o.0.1.full;
          rest = rest;
          parts = s;
          wrong = λ b. let l = b.leads in
              let c = same_front l.found found (bytes_of l.rest) b.rest (l.fits.full ∙ sym n) (sym (ap bytes_of l.fields) ∙ b.parts) in
              false≢true (sym f ∙ sym (ap t c.0) ∙ l.fits.right);
          told = cc;
        })
    go (right found rest s f) ih =
        let r' = sym (fits_on w q t k size found rest f) ∙ rw s at r in
        rw s
        (elim (ih found rest f (bytes_after found rest (rw s at h)) e r') [
          | inl a ↦ inl (wrong_behind w q t k found f size rest e a)
          | inr a ↦ inr (ends_behind w q t k found f size rest e a)
        ])

not_none : (fs : List Field) (d : Field) (gs : List Field) → fs ++ (d ∷ gs) ≡ [] → ⊥
not_none [] d gs e = cc
not_none (f ∷ fs) d gs e = cc

pub ends_at : {X : Type 0} (size : ℕ) (p : Plan X) (before : List Field) (next : Field) (after : List Field) (x : X) → Leads p (before ++ (next ∷ after)) x → (found : List ℕ) → length found < length next.bytes → run size p (bytes_of before ++ found) ≡ Err (Truncated next.place size)
ends_at size (done y) before next after x l found h = absurd (not_none before next after l.0)
ends_at size (due w q t k) [] next after x l found h =
    let d : next ≡ field w q l.found = cc (l.fields) in
    rw (ap (λ (f : Field). f.place) d)
    (ends_here w q t k size found (rw (ap (λ (f : Field). length f.bytes) d, l.fits.full) at h))
ends_at size (due w q t k) (b ∷ before) next after x l found h =
    let d : b ≡ field w q l.found = cc (l.fields) in
    let e : before ++ (next ∷ after) ≡ l.rest = cc (l.fields) in
    rw (ap (λ (f : Field). f.bytes) d, append_assoc l.found (bytes_of before) found)
    (fits_on w q t k size l.found (bytes_of before ++ found) l.fits
    ∙ ends_at size (k l.found) before next after x (subst (λ (fs : List Field). Leads (k l.found) fs x) (sym e) l.goes_on) found h)

pub wrong_at : {X : Type 0} (size : ℕ) (p : Plan X) → Fillable p → (before : List Field) (next : Field) (after : List Field) (x : X) → Leads p (before ++ (next ∷ after)) x → (found rest : List ℕ) → Bytes found → length found ≡ length next.bytes → (Begins p (bytes_of before ++ found) → ⊥) → run size p (bytes_of before ++ (found ++ rest)) ≡ Err (fault_at next.what next.place found (size - length (found ++ rest)))
wrong_at size (done y) o before next after x l found rest h n none = absurd (not_none before next after l.0)
wrong_at size (due w q t k) o [] next after x l found rest h n none =
    let d : next ≡ field w q l.found = cc (l.fields) in
    let m : length found ≡ width w = n ∙ ap (λ (f : Field). length f.bytes) d ∙ l.fits.full in
    rw d (go m (t found) refl)
  where
    go : length found ≡ width w → (s : Bool) → t found ≡ s → run size (due w q t k) (found ++ rest) ≡ Err (fault_at w q found (size - length (found ++ rest)))
    go m true e =
        let f : Fits w t found = record { full = m; bytes = h; right = e } in
        let c = completed (k found) (o.1 found f) in
        absurd (none (record {
          value = c.value;
          fields = field w q found ∷ c.fields;
          leads = record { found = found; fits = f; rest = c.fields; fields = refl; goes_on = c.leads };
          rest = bytes_of c.fields;
          parts = refl;
        }))
    go m false e = wrong_here w q t k size found rest m e
wrong_at size (due w q t k) o (b ∷ before) next after x l found rest h n none =
    let d : b ≡ field w q l.found = cc (l.fields) in
    let e : before ++ (next ∷ after) ≡ l.rest = cc (l.fields) in
    let g : b.bytes ≡ l.found = ap (λ (f : Field). f.bytes) d in
    let none' : Begins (k l.found) (bytes_of before ++ found) → ⊥
    = λ c. none (rw (g, append_assoc l.found (bytes_of before) found) (begins_behind w q t k l.found l.fits (bytes_of before ++ found) c)) in
    rw (g, append_assoc l.found (bytes_of before) (found ++ rest))
    (fits_on w q t k size l.found (bytes_of before ++ (found ++ rest)) l.fits
    ∙ wrong_at size (k l.found) (o.1 l.found l.fits) before next after x (subst (λ (fs : List Field). Leads (k l.found) fs x) (sym e) l.goes_on) found rest h n none')
