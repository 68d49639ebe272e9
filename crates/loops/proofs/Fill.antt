-- The turns of a loop that fills a `Vec` with what `many` reads.
use Rattle.std.proofs.Common.{◌≡◌, ℕ, suc, ◌+◌, ◌-◌, ◌<◌, List, [], ◌∷◌, ◌++◌, map, Ok, Err, Result, sym, refl, ap, ◌∙◌, append_assoc, arith, ◌≤◌, append-nil}
use Rattle.site_read.specs.declared.fault.Fault.{Fault}
use Rattle.std.proofs.lemmas.List.{map_push}
use Rattle.loops.specs.declared.load_fault.LoadFault.{LoadFault}
use Rattle.loops.specs.declared.load_fault.LoadFault.TheVariants.{File, Memory}
use Rattle.loops.specs.Loading.{Loads, Holds, Anything, Faultless}
use Rattle.site_read.specs.Parse.{Parsed, then, many, rest_of, value_of}
use Rattle.site_read.proofs.Sound.{never}

-- what is read, behind what was read before
abbrev pub behind : {X : Type 0} → List X → Parsed (List X) → Parsed (List X)
behind xs r = then r λ t. Ok (xs ++ t.0, t.1)

-- one value more
after_one : {X : Type 0} (xs : List X) (x : X) (r : Parsed (List X)) → behind xs (then r λ t. Ok (x ∷ t.0, t.1)) ≡ behind (xs ++ x ∷ []) r
after_one xs x (Ok t) = ap (λ (l : List _). Ok (l, t.1)) (sym (append_assoc xs (x ∷ []) t.0))
after_one xs x (Err e) = refl

module _ {X : Type 0} (p : List ℕ → Parsed X) where
  -- one more turn, which pushes what it read
  pub fill_turn : {Y : Type 0} (f : Y → X) (was now : List Y) (y : Y) (n i : ℕ) (bs after : List ℕ) → i < n → p bs ≡ Ok (f y, after) → now ≡ was ++ y ∷ [] → behind (map f was) (many p (n - i) bs) ≡ behind (map f now) (many p (n - (i + 1)) after)
  fill_turn f was now y n i bs after h e pushed =
      let s : n - i ≡ suc (n - (i + 1)) = omega arith in
      let is : map f was ++ f y ∷ [] ≡ map f now = sym (ap (map f) pushed ∙ map_push f was y) in
      rw (s, e) (after_one (map f was) (f y) (many p (n - (i + 1)) after) ∙ ap (λ (l : List X). behind l (many p (n - (i + 1)) after)) is)

  pub fill_stops : (xs : List X) (n i : ℕ) (bs : List ℕ) (y : Fault) → i < n → p bs ≡ Err y → behind xs (many p (n - i) bs) ≡ Err y
  fill_stops xs n i bs y h e =
      let s : n - i ≡ suc (n - (i + 1)) = omega arith in
      rw (s, e) refl

  pub fill_all : (xs : List X) (n i : ℕ) (bs : List ℕ) → n ≤ i → behind xs (many p (n - i) bs) ≡ Ok (xs, bs)
  fill_all xs n i bs h =
      let s : n - i ≡ 0 = omega arith in
      rw (s, append-nil xs) refl

-- a fault, or want of memory, of one value is that of the whole
pub stops : {Y X W Z : Type 0} (f : Y → X) (g : W → Z) (s : Parsed X) (s' : Result Z Fault) (y : LoadFault) → ((e : Fault) → s ≡ Err e → s' ≡ Err e) → Loads f s (Err y) → Holds g Anything s' (Err y)
stops f g s s' (File e) k h = k e h
stops f g s s' Memory k h = tt

-- where everything was skipped without a fault, only want of memory can keep the table from being made
pub wants_nothing_faulty : {Y X : Type 0} (f : Y → X) (s : Parsed X) (rest : List ℕ) (r : Result Y LoadFault) → Ok rest ≡ rest_of s → Holds f Anything (value_of s) r → Holds f Faultless (value_of s) r
wants_nothing_faulty f s rest (Ok y) q h = h
wants_nothing_faulty f s rest (Err (File e)) q h = h
wants_nothing_faulty f (Ok p) rest (Err Memory) q h = (p.0, refl)
wants_nothing_faulty f (Err e) rest (Err Memory) q h = never e rest (sym q)
