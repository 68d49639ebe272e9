-- A plan of reading: which field is due, which bytes may stand in it, and how it goes on with them. What a run of a plan
-- answers, and which fields lead through it.
use Rattle.std.proofs.Common.{◌≡◌, ℕ, zero, suc, ◌+◌, ◌-◌, ◌<◌, Bool, true, false, cond, List, [], ◌∷◌, ◌++◌, length, Some, None, Ok, Err, Option, Result, refl, ap, ◌∙◌, arith}
use Rattle.std.specs.Option.{option_map}
use Rattle.site_read.specs.declared.fault.Fault.{Fault}
use Rattle.site_read.specs.declared.fault.Fault.TheVariants.{Truncated, Mark, Version, LoopCount, Kind, Number, Set}
use Rattle.site_read.specs.Parse.{Parsed, then}
use Rattle.site_read.specs.Format.{Bytes, the_mark}
use Rattle.site_read.specs.Beginnings.{What, mark, version, loops, kind, number, set, Field, field, alike}

pub data Plan (X : Type 0) : Type 0 where
  done : X → Plan X
  due : What → ℕ → (List ℕ → Bool) → (List ℕ → Plan X) → Plan X

-- the fault of a field that stands at `at` and holds `found`
abbrev pub fault_at : What → ℕ → List ℕ → ℕ → Fault
fault_at mark place found at = Mark (at + alike found the_mark)
fault_at version place found at = Version
fault_at loops place found at = LoopCount
fault_at kind place found at = Kind place at
fault_at number place found at = Number place at
fault_at set place found at = Set place at

-- one plan, and behind it another
unfoldable pub bind : {X Y : Type 0} → Plan X → (X → Plan Y) → Plan Y
bind (done x) f = f x
bind (due w q t k) f = due w q t (λ b. bind (k b) f)

abbrev pub width : What → ℕ
width mark = 3
width version = 2
width loops = 1
width kind = 1
width number = 1
width set = 2

-- the first n bytes, and the others
abbrev pub cut : ℕ → List ℕ → Option (List ℕ × List ℕ)
cut zero bs = Some ([], bs)
cut (suc n) [] = None
cut (suc n) (b ∷ bs) = option_map (λ p. (b ∷ p.0, p.1)) (cut n bs)

pub cut_full : (n : ℕ) (xs ys : List ℕ) → length xs ≡ n → cut n (xs ++ ys) ≡ Some (xs, ys)
cut_full zero [] ys e = refl
cut_full zero (x ∷ xs) ys e = absurd (omega arith)
cut_full (suc n) [] ys e = absurd (omega arith)
cut_full (suc n) (x ∷ xs) ys e = rw (cut_full n xs ys (omega arith)) refl

pub cut_less : (n : ℕ) (bs : List ℕ) → length bs < n → cut n bs ≡ None
cut_less zero bs h = absurd (omega arith)
cut_less (suc n) [] h = refl
cut_less (suc n) (b ∷ bs) h = rw (cut_less n bs (omega arith)) refl

pub cut_some : (n : ℕ) (bs : List ℕ) (p : List ℕ × List ℕ) → cut n bs ≡ Some p → (bs ≡ p.0 ++ p.1) × (length p.0 ≡ n)
cut_some zero bs p e = let q : ([], bs) ≡ p = cc in rw (← q) (refl, refl)
cut_some (suc n) [] p e = absurd (cc)
cut_some (suc n) (b ∷ bs) p e = go (cut n bs) (cut_some n bs) e
  where
    go : (r : Option (List ℕ × List ℕ)) → ((x : List ℕ × List ℕ) → r ≡ Some x → (bs ≡ x.0 ++ x.1) × (length x.0 ≡ n)) → option_map {U = List ℕ × List ℕ} (λ (p : List ℕ × List ℕ). (b ∷ p.0, p.1)) r ≡ Some p → (b ∷ bs ≡ p.0 ++ p.1) × (length p.0 ≡ suc n)
    go None ih f = absurd (cc)
    go (Some r) ih' f =
        let ih = ih' r refl in
        let q : (b ∷ r.0, r.1) ≡ p = cc in
        rw (← q) (ap (λ (l : List ℕ). b ∷ l) ih.0, ap suc ih.1)

pub cut_none : (n : ℕ) (bs : List ℕ) → cut n bs ≡ None → length bs < n
cut_none zero bs e = absurd (cc)
cut_none (suc n) [] e = omega arith
cut_none (suc n) (b ∷ bs) e = go (cut n bs) (cut_none n bs) e
  where
    go : (r : Option (List ℕ × List ℕ)) → (r ≡ None → length bs < n) → option_map {U = List ℕ × List ℕ} (λ (p : List ℕ × List ℕ). (b ∷ p.0, p.1)) r ≡ None → suc (length bs) < suc n
    go None ih f = let h = ih refl in omega arith
    go (Some r) ih f = absurd (cc)

-- goes on with a field and the bytes behind it, where the file has it whole
abbrev pub taken : {Y : Type 0} → Option (List ℕ × List ℕ) → Result Y Fault → (List ℕ → List ℕ → Result Y Fault) → Result Y Fault
taken None short on = short
taken (Some p) short on = on p.0 p.1

abbrev pub run : {X : Type 0} → ℕ → Plan X → List ℕ → Parsed X
run size (done x) bs = Ok (x, bs)
run size (due w q t k) bs =
    taken (cut (width w) bs) (Err (Truncated q size)) λ found rest.
    cond (t found) (run size (k found) rest) (Err (fault_at w q found (size - length bs)))

pub run_bind : {X Y : Type 0} (size : ℕ) (p : Plan X) (f : X → Plan Y) (bs : List ℕ) → run size (bind p f) bs ≡ then (run size p bs) (λ x. run size (f x.0) x.1)
unfolding bind
run_bind size (done x) f bs = refl
run_bind {X} {Y} size (due w q t k) f bs = go (cut (width w) bs) (λ b r. run_bind size (k b) f r)
  where
    last : (s : Bool) (e : Fault) (a : Parsed X) (b : Parsed Y) → b ≡ then a (λ x. run size (f x.0) x.1) → cond s b (Err e) ≡ then (cond s a (Err e)) (λ x. run size (f x.0) x.1)
    last true e a b h = h
    last false e a b h = refl

    go : (c : Option (List ℕ × List ℕ)) → ((b r : List ℕ) → run size (bind (k b) f) r ≡ then (run size (k b) r) (λ x. run size (f x.0) x.1)) → taken {Y = Y × List ℕ} c (Err (Truncated q size)) (λ b r. cond (t b) (run size (bind (k b) f) r) (Err (fault_at w q b (size - length bs)))) ≡ then (taken {Y = X × List ℕ} c (Err (Truncated q size)) (λ b r. cond (t b) (run size (k b) r) (Err (fault_at w q b (size - length bs))))) (λ x. run size (f x.0) x.1)
    go None ih = refl
    go (Some p) ih = last (t p.0) (fault_at w q p.0 (size - length bs)) _ _ (ih p.0 p.1)

-- the plans one after another, as the parsers
pub follows : {X Y : Type 0} (size : ℕ) (p : Plan X) (f : X → Plan Y) (r : Parsed X) (g : X × List ℕ → Parsed Y) (bs : List ℕ) → run size p bs ≡ r → ((x : X) (rest : List ℕ) → run size (f x) rest ≡ g (x, rest)) → run size (bind p f) bs ≡ then r g
follows {X} {Y} size p f r g bs e h = run_bind size p f bs ∙ ap (λ (a : Parsed X). then a (λ x. run size (f x.0) x.1)) e ∙ go r
  where
    go : (r : Parsed X) → then r (λ x. run size (f x.0) x.1) ≡ then r g
    go (Ok x) = h x.0 x.1
    go (Err e) = refl

-- bytes that may stand in a field
pub record Fits (w : What) (t : List ℕ → Bool) (found : List ℕ) : Type 0 where
  pub full : length found ≡ width w
  pub bytes : Bytes found
  pub right : t found ≡ true

-- fields of which the first is due
pub record Opens (w : What) (q : ℕ) (t : List ℕ → Bool) (on : List ℕ → List Field → Type 0) (fs : List Field) : Type 0 where
  pub found : List ℕ
  pub fits : Fits w t found
  pub rest : List Field
  pub fields : fs ≡ field w q found ∷ rest
  pub goes_on : on found rest

-- fields that lead through a plan to a value
abbrev pub Leads : {X : Type 0} → Plan X → List Field → X → Type 0
Leads (done y) fs x = (fs ≡ []) × (y ≡ x)
Leads (due w q t k) fs x = Opens w q t (λ found rest. Leads (k found) rest x) fs

-- fields that lead through two plans, one behind the other
pub record Parted {X Y : Type 0} (p : Plan X) (f : X → Plan Y) (fs : List Field) (y : Y) : Type 0 where
  pub value : X
  pub front : List Field
  pub back : List Field
  pub fields : fs ≡ front ++ back
  pub first : Leads p front value
  pub second : Leads (f value) back y

pub parted : {X Y : Type 0} (p : Plan X) (f : X → Plan Y) (fs : List Field) (y : Y) → Leads (bind p f) fs y → Parted p f fs y
unfolding bind
parted (done x) f fs y l = record { value = x; front = []; back = fs; fields = refl; first = (refl, refl); second = l }
parted (due w q t k) f fs y l =
    let r = parted (k l.found) f l.rest y l.goes_on in
    record {
      value = r.value;
      front = field w q l.found ∷ r.front;
      back = r.back;
      fields = l.fields ∙ ap (λ (t : List Field). field w q l.found ∷ t) r.fields;
      first = record { found = l.found; fits = l.fits; rest = r.front; fields = refl; goes_on = r.first };
      second = r.second;
    }

-- each field that is due can be filled
abbrev pub Fillable : {X : Type 0} → Plan X → Type 0
Fillable (done x) = Unit {0}
Fillable (due w q t k) = ((b : List ℕ) × Fits w t b) × ((b : List ℕ) → Fits w t b → Fillable (k b))

pub fillable_bind : {X Y : Type 0} (p : Plan X) (f : X → Plan Y) → Fillable p → ((fs : List Field) (x : X) → Leads p fs x → Fillable (f x)) → Fillable (bind p f)
unfolding bind
fillable_bind (done x) f o h = h [] x (refl, refl)
fillable_bind (due w q t k) f o h = (
  o.0,
  λ b g.
      fillable_bind (k b) f (o.1 b g) (λ fs x l.
      h (field w q b ∷ fs) x (record { found = b; fits = g; rest = fs; fields = refl; goes_on = l })),
)

-- some fields lead through a plan
pub record Ends {X : Type 0} (p : Plan X) : Type 0 where
  pub value : X
  pub fields : List Field
  pub leads : Leads p fields value

pub completed : {X : Type 0} (p : Plan X) → Fillable p → Ends p
completed (done x) o = record { value = x; fields = []; leads = (refl, refl) }
completed (due w q t k) o =
    let r = completed (k o.0.0) (o.1 o.0.0 o.0.1) in
    record {
      value = r.value;
      fields = field w q o.0.0 ∷ r.fields;
      leads = record { found = o.0.0; fits = o.0.1; rest = r.fields; fields = refl; goes_on = r.leads };
    }
