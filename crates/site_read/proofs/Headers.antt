-- An accepted header, byte by byte.
use Rattle.std.proofs.Common.{◌≡◌, ℕ, ◌+◌, ◌*◌, ◌≤◌, Bool, true, false, cond, ◌&&◌, eqb, leb, List, [], ◌∷◌, Ok, Err, Result, refl, ap, ◌∙◌, arith}
use Rattle.std.proofs.lemmas.Bool.{and_parts, and_from, eqb-true, leb-true, le-leb}
use Rattle.site_read.specs.declared.fault.Fault.{Fault}
use Rattle.site_read.specs.declared.fault.Fault.TheVariants.{LoopCount}
use Rattle.site_read.specs.Header.{mark_fault, version_fault, mark, version, loops, header}
use Rattle.site_read.specs.Parse.{then}
use Rattle.site_read.specs.Format.{Bytes}
use Rattle.site_read.proofs.Sound.{never, same_ok, then_ok, cond_ok}
use Rattle.site_read.proofs.Encoded.{bytes_after}

-- a test that was passed, and what came after it
passed : {X : Type 0} (t : Bool) (r : Result X Fault) (y : X) (e : Fault) → cond t r (Err e) ≡ Ok y → (t ≡ true) × (r ≡ Ok y)
passed true r y e q = (refl, q)
passed false r y e q = never e y q

mark_exact : (bs r : List ℕ) → mark bs ≡ Ok r → bs ≡ 76 ∷ 75 ∷ 84 ∷ r
mark_exact [] r q = never _ r q
mark_exact (a ∷ []) r q = never _ r q
mark_exact (a ∷ b ∷ []) r q = never _ r q
mark_exact (a ∷ b ∷ c ∷ bs) r q =
    let m = then_ok (mark_fault a b c) (λ _. Ok bs) r q in
    let pa = passed (eqb a 76) _ m.0 _ m.1 in
    let pb = passed (eqb b 75) _ m.0 _ pa.1 in
    let pc = passed (eqb c 84) _ m.0 _ pb.1 in
    rw (eqb-true a 76 pa.0, eqb-true b 75 pb.0, eqb-true c 84 pc.0, same_ok bs r m.2) refl

version_exact : (bs r : List ℕ) → Bytes bs → version bs ≡ Ok r → bs ≡ 0 ∷ 1 ∷ r
version_exact [] r h q = never _ r q
version_exact (a ∷ []) r h q = never _ r q
version_exact (a ∷ b ∷ bs) r h q =
    let m = then_ok (version_fault a b) (λ _. Ok bs) r q in
    let v = eqb-true (a * 256 + b) 1 (passed (eqb (a * 256 + b) 1) _ m.0 _ m.1).0 in
    let ea : a ≡ 0 = omega arith in
    let eb : b ≡ 1 = omega arith in
    rw (ea, eb, same_ok bs r m.2) refl

-- the header of a file of n loops, and the bytes behind it
pub record HeaderExact (file : List ℕ) (x : ℕ × List ℕ) : Type 0 where
  pub exact : file ≡ 76 ∷ 75 ∷ 84 ∷ 0 ∷ 1 ∷ x.0 ∷ x.1
  pub low : 1 ≤ x.0
  pub high : x.0 ≤ 4
  pub bytes : Bytes x.1

pub header_exact : (file : List ℕ) → Bytes file → (x : ℕ × List ℕ) → header file ≡ Ok x → HeaderExact file x
header_exact file h x q =
    let b = then_ok (then (mark file) version) loops x q in
    let a = then_ok (mark file) version b.0 b.1 in
    let em = mark_exact file a.0 a.1 in
    let ha : Bytes a.0 = bytes_after (76 ∷ 75 ∷ 84 ∷ []) a.0 (rw em at h) in
    let ev = version_exact a.0 b.0 ha a.2 in
    let hb : Bytes b.0 = bytes_after (0 ∷ 1 ∷ []) b.0 (rw ev at ha) in
    let l = counted b.0 x b.2 in
    record {
      exact = em ∙ ap (λ (r : List ℕ). 76 ∷ 75 ∷ 84 ∷ r) (ev ∙ ap (λ (r : List ℕ). 0 ∷ 1 ∷ r) l.0);
      low = l.1;
      high = l.2;
      bytes = bytes_after (x.0 ∷ []) x.1 (rw l.0 at hb);
    }
  where
    counted : (bs : List ℕ) (x : ℕ × List ℕ) → loops bs ≡ Ok x → (bs ≡ x.0 ∷ x.1) × (1 ≤ x.0) × (x.0 ≤ 4)
    counted [] x q = never _ x q
    counted (n ∷ bs) x q =
        let c = cond_ok (leb 1 n && leb n 4) (n, bs) x LoopCount q in
        let p = and_parts (leb 1 n) (leb n 4) c.0 in
        rw (← c.1) (refl, leb-true 1 n p.0, leb-true n 4 p.1)

pub header_back : (n : ℕ) (bs : List ℕ) → 1 ≤ n → n ≤ 4 → header (76 ∷ 75 ∷ 84 ∷ 0 ∷ 1 ∷ n ∷ bs) ≡ Ok (n, bs)
header_back n bs l h = rw (and_from (leb 1 n) (leb n 4) (le-leb 1 n l) (le-leb n 4 h)) refl
