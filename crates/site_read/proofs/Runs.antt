-- What a run of a plan answers: of bytes that lead through it the value, and of others the first field that cannot stand.
use Rattle.std.proofs.Common.{◌≡◌, ℕ, ◌-◌, ◌<◌, Bool, true, false, ltb, List, [], ◌∷◌, ◌++◌, length, Some, None, Ok, Err, Option, sym, refl, ap, ◌∙◌, append_assoc, arith}
use Rattle.std.proofs.lemmas.Bool.{and_parts, and_from}
use Rattle.site_read.specs.declared.fault.Fault.{Fault}
use Rattle.site_read.specs.declared.fault.Fault.TheVariants.{Truncated}
use Rattle.site_read.specs.Format.{Bytes}
use Rattle.site_read.specs.Tables.{every}
use Rattle.site_read.specs.Beginnings.{What, Field, field, bytes_of}
use Rattle.site_read.proofs.Sound.{never, same_ok}
use Rattle.site_read.proofs.Encoded.{bytes_after}
use Rattle.site_read.proofs.Plans.{fault_at, Plan, done, due, width, cut, cut_full, cut_less, cut_some, cut_none, run, Fits, Leads}

pub same_front : (xs ys us vs : List ℕ) → length xs ≡ length ys → xs ++ us ≡ ys ++ vs → (xs ≡ ys) × (us ≡ vs)
same_front [] [] us vs n e = (refl, e)
same_front [] (y ∷ ys) us vs n e = absurd (omega arith)
same_front (x ∷ xs) [] us vs n e = absurd (omega arith)
same_front (x ∷ xs) (y ∷ ys) us vs n e =
    let t : xs ++ us ≡ ys ++ vs = cc in
    let h : x ≡ y = cc in
    let r = same_front xs ys us vs (omega arith) t in
    (rw (h, r.0) refl, r.1)

pub bytes_before : (xs ys : List ℕ) → Bytes (xs ++ ys) → Bytes xs
bytes_before [] ys h = refl
bytes_before (x ∷ xs) ys h = let k = and_parts (ltb x 256) (every (λ b. ltb b 256) (xs ++ ys)) h in and_from (ltb x 256) (every (λ b. ltb b 256) xs) k.0 (bytes_before xs ys k.1)

-- a field that is due
module _ {X : Type 0} (w : What) (q : ℕ) (t : List ℕ → Bool) (k : List ℕ → Plan X) (size : ℕ) where
  pub fits_on : (found rest : List ℕ) → Fits w t found → run size (due w q t k) (found ++ rest) ≡ run size (k found) rest
  fits_on found rest f = rw (cut_full (width w) found rest f.full, f.right) refl

  pub wrong_here : (found rest : List ℕ) → length found ≡ width w → t found ≡ false → run size (due w q t k) (found ++ rest) ≡ Err (fault_at w q found (size - length (found ++ rest)))
  wrong_here found rest n e = rw (cut_full (width w) found rest n, e) refl

  pub ends_here : (bs : List ℕ) → length bs < width w → run size (due w q t k) bs ≡ Err (Truncated q size)
  ends_here bs h = rw (cut_less (width w) bs h) refl

-- what may stand where a field is due
pub data Turn (w : What) (t : List ℕ → Bool) (bs : List ℕ) : Type 0 where
  ends : length bs < width w → Turn w t bs
  wrong : (found rest : List ℕ) → bs ≡ found ++ rest → length found ≡ width w → t found ≡ false → Turn w t bs
  right : (found rest : List ℕ) → bs ≡ found ++ rest → Fits w t found → Turn w t bs

pub turn : (w : What) (t : List ℕ → Bool) (bs : List ℕ) → Bytes bs → Turn w t bs
turn w t bs h = go (cut (width w) bs) refl
  where
    last : (found rest : List ℕ) → bs ≡ found ++ rest → length found ≡ width w → (s : Bool) → t found ≡ s → Turn w t bs
    last found rest e n true s = right found rest e (record { full = n; bytes = bytes_before found rest (rw e at h); right = s })
    last found rest e n false s = wrong found rest e n s

    go : (c : Option (List ℕ × List ℕ)) → cut (width w) bs ≡ c → Turn w t bs
    go None e = ends (cut_none (width w) bs e)
    go (Some p) e = let c = cut_some (width w) bs p e in last p.0 p.1 c.0 c.1 (t p.0) refl

-- a run reads what leads through its plan
pub reads : {X : Type 0} (size : ℕ) (p : Plan X) (fs : List Field) (x : X) (rest : List ℕ) → Leads p fs x → run size p (bytes_of fs ++ rest) ≡ Ok (x, rest)
reads size (done y) fs x rest l = rw (l.0, l.1) refl
reads size (due w q t k) fs x rest l =
    rw (l.fields, append_assoc l.found (bytes_of l.rest) rest)
    (fits_on w q t k size l.found (bytes_of l.rest ++ rest) l.fits ∙ reads size (k l.found) l.rest x rest l.goes_on)

-- and nothing else
pub record ReadAs {X : Type 0} (p : Plan X) (bs : List ℕ) (x : X × List ℕ) : Type 0 where
  pub fields : List Field
  pub leads : Leads p fields x.0
  pub parts : bs ≡ bytes_of fields ++ x.1

pub read_as : {X : Type 0} (size : ℕ) (p : Plan X) (bs : List ℕ) → Bytes bs → (x : X × List ℕ) → run size p bs ≡ Ok x → ReadAs p bs x
read_as size (done y) bs h x e = rw (← same_ok (y, bs) x e) (record { fields = []; leads = (refl, refl); parts = refl })
read_as {X} size (due w q t k) bs h x e = go (turn w t bs h) (λ found rest. read_as size (k found) rest)
  where
    go : Turn w t bs → ((found rest : List ℕ) → Bytes rest → (x : X × List ℕ) → run size (k found) rest ≡ Ok x → ReadAs (k found) rest x) → ReadAs (due w q t k) bs x
    go (ends n) ih = never _ x (sym (ends_here w q t k size bs n) ∙ e)
    go (wrong found rest s n f) ih = never _ x (sym (wrong_here w q t k size found rest n f) ∙ rw s at e)
    go (right found rest s f) ih =
        let r = ih found rest (bytes_after found rest (rw s at h)) x (sym (fits_on w q t k size found rest f) ∙ rw s at e) in
        record {
          fields = field w q found ∷ r.fields;
          leads = record { found = found; fits = f; rest = r.fields; fields = refl; goes_on = r.leads };
          parts = s ∙ ap (λ (l : List ℕ). found ++ l) r.parts ∙ sym (append_assoc found (bytes_of r.fields) x.1);
        }

-- some fields that lead through a plan begin with these bytes
pub record Begins {X : Type 0} (p : Plan X) (bs : List ℕ) : Type 0 where
  pub value : X
  pub fields : List Field
  pub leads : Leads p fields value
  pub rest : List ℕ
  pub parts : bytes_of fields ≡ bs ++ rest

-- a field that is due behind others
pub record DueIn {X : Type 0} (p : Plan X) (before : List Field) (next : Field) : Type 0 where
  pub value : X
  pub after : List Field
  pub leads : Leads p (before ++ (next ∷ after)) value

pub record WrongIn {X : Type 0} (size : ℕ) (p : Plan X) (bs : List ℕ) (e : Fault) : Type 0 where
  pub before : List Field
  pub next : Field
  pub is_due : DueIn p before next
  pub found : List ℕ
  pub full : length found ≡ length next.bytes
  pub rest : List ℕ
  pub parts : bs ≡ bytes_of before ++ (found ++ rest)
  pub wrong : Begins p (bytes_of before ++ found) → ⊥
  pub told : e ≡ fault_at next.what next.place found (size - length (found ++ rest))

pub record EndsIn {X : Type 0} (size : ℕ) (p : Plan X) (bs : List ℕ) (e : Fault) : Type 0 where
  pub before : List Field
  pub next : Field
  pub is_due : DueIn p before next
  pub found : List ℕ
  pub short : length found < length next.bytes
  pub parts : bs ≡ bytes_of before ++ found
  pub told : e ≡ Truncated next.place size

-- the same behind a field
module _ {X : Type 0} (w : What) (q : ℕ) (t : List ℕ → Bool) (k : List ℕ → Plan X) (b : List ℕ) (f : Fits w t b) where
  pub begins_behind : (bs : List ℕ) → Begins (k b) bs → Begins (due w q t k) (b ++ bs)
  begins_behind bs r = record {
    value = r.value;
    fields = field w q b ∷ r.fields;
    leads = record { found = b; fits = f; rest = r.fields; fields = refl; goes_on = r.leads };
    rest = r.rest;
    parts = ap (λ (l : List ℕ). b ++ l) r.parts ∙ sym (append_assoc b bs r.rest);
  }

  pub begins_within : (bs : List ℕ) → Begins (due w q t k) (b ++ bs) → Begins (k b) bs
  begins_within bs r =
      let l = r.leads in
      let e : l.found ++ bytes_of l.rest ≡ b ++ (bs ++ r.rest) = sym (ap bytes_of l.fields) ∙ r.parts ∙ append_assoc b bs r.rest in
      let s = same_front l.found b (bytes_of l.rest) (bs ++ r.rest) (l.fits.full ∙ sym f.full) e in
      record { value = r.value; fields = l.rest; leads = rw (← s.0) l.goes_on; rest = r.rest; parts = s.1 }

  due_behind : (before : List Field) (next : Field) → DueIn (k b) before next → DueIn (due w q t k) (field w q b ∷ before) next
  due_behind before next d = record {
    value = d.value;
    after = d.after;
    leads = record { found = b; fits = f; rest = before ++ (next ∷ d.after); fields = refl; goes_on = d.leads };
  }

  pub wrong_behind : (size : ℕ) (bs : List ℕ) (e : Fault) → WrongIn size (k b) bs e → WrongIn size (due w q t k) (b ++ bs) e
  wrong_behind size bs e r = record {
    before = field w q b ∷ r.before;
    next = r.next;
    is_due = due_behind r.before r.next r.is_due;
    found = r.found;
    full = r.full;
    rest = r.rest;
    parts = ap (λ (l : List ℕ). b ++ l) r.parts ∙ sym (append_assoc b (bytes_of r.before) (r.found ++ r.rest));
    wrong = λ c. r.wrong (begins_within (bytes_of r.before ++ r.found) (rw (append_assoc b (bytes_of r.before) r.found) at c));
    told = r.told;
  }

  pub ends_behind : (size : ℕ) (bs : List ℕ) (e : Fault) → EndsIn size (k b) bs e → EndsIn size (due w q t k) (b ++ bs) e
  ends_behind size bs e r = record {
    before = field w q b ∷ r.before;
    next = r.next;
    is_due = due_behind r.before r.next r.is_due;
    found = r.found;
    short = r.short;
    parts = ap (λ (l : List ℕ). b ++ l) r.parts ∙ sym (append_assoc b (bytes_of r.before) r.found);
    told = r.told;
  }
