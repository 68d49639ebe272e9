-- A whole file's run, and the site that is read.
use Rattle.std.proofs.Common.{◌≡◌, ℕ, suc, ◌+◌, ◌-◌, ◌*◌, Bool, true, false, cond, ◌&&◌, eqb, leb, List, [], ◌∷◌, length, Ok, Err, Result, refl, ap, ◌∙◌, arith}
use Rattle.site_read.specs.declared.fault.Fault.{Fault}
use Rattle.site_read.specs.declared.fault.Fault.TheVariants.{Mark, Version, Trailing}
use Rattle.site_read.specs.Parse.{Parsed, then}
use Rattle.site_read.specs.Header.{version, loops, header}
use Rattle.site_read.specs.Format.{Places}
use Rattle.site_read.specs.Sites.{slot_table, site}
use Rattle.site_read.proofs.Plans.{Plan, bind, run, run_bind}
use Rattle.site_read.proofs.SitePlan.{header_plan, slot_plan, site_plan, run_slot}

-- the first wrong byte of a mark
abbrev marked : Bool → Bool → Bool → Result (Unit {0}) Fault
marked a b c = cond a (cond b (cond c (Ok tt) (Err (Mark 2))) (Err (Mark 1))) (Err (Mark 0))

mark_told : (m : ℕ) → m ≡ 0 → (a b c : Bool) (bs : List ℕ) (r : Parsed ℕ) → r ≡ then (version bs) loops → cond (a && b && c) r (Err (Mark (m + cond a (suc (cond b (suc (cond c (suc 0) 0)) 0)) 0))) ≡ then (then (then (marked a b c) (λ _. Ok bs)) version) loops
mark_told m z true true true bs r h = h
mark_told m z true true false bs r h = ap (λ (m : ℕ). Err (Mark m)) (omega arith)
mark_told m z true false c bs r h = ap (λ (m : ℕ). Err (Mark m)) (omega arith)
mark_told m z false b c bs r h = ap (λ (m : ℕ). Err (Mark m)) (omega arith)

version_told : (s : Bool) (bs : List ℕ) → cond s (loops bs) (Err Version) ≡ then (then (cond {A = Result (Unit {0}) Fault} s (Ok tt) (Err Version)) (λ _. Ok bs)) loops
version_told true bs = refl
version_told false bs = refl

run_header : (file : List ℕ) → run (length file) header_plan file ≡ header file
run_header [] = refl
run_header (a ∷ []) = refl
run_header (a ∷ b ∷ []) = refl
run_header (a ∷ b ∷ c ∷ []) = mark_told 0 refl (eqb a 76) (eqb b 75) (eqb c 84) [] _ refl
run_header (a ∷ b ∷ c ∷ d ∷ []) = mark_told 0 refl (eqb a 76) (eqb b 75) (eqb c 84) (d ∷ []) _ refl
run_header (a ∷ b ∷ c ∷ d ∷ e ∷ []) = mark_told 0 refl (eqb a 76) (eqb b 75) (eqb c 84) (d ∷ e ∷ []) _ (version_told (eqb (d * 256 + e) 1) [])
run_header (a ∷ b ∷ c ∷ d ∷ e ∷ n ∷ bs) =
    let size : ℕ = length (a ∷ b ∷ c ∷ d ∷ e ∷ n ∷ bs) in
    mark_told (size - size) (omega arith) (eqb a 76) (eqb b 75) (eqb c 84) (d ∷ e ∷ n ∷ bs) _ (version_told (eqb (d * 256 + e) 1) (n ∷ bs))

-- what may stand behind a site's records
abbrev pub finish : ℕ → Places × List ℕ → Result Places Fault
finish size x = cond (leb 1 (length x.1)) (Err (Trailing (size - length x.1))) (Ok x.0)

ends_with : {X Y Z : Type 0} (size : ℕ) (p : Plan X) (f : X → Plan Y) (K : Y × List ℕ → Result Z Fault) (r : Parsed X) (g : X × List ℕ → Result Z Fault) (bs : List ℕ) → run size p bs ≡ r → ((x : X) (rest : List ℕ) → then (run size (f x) rest) K ≡ g (x, rest)) → then (run size (bind p f) bs) K ≡ then r g
ends_with {X} {Y} {Z} size p f K r g bs e h = ap (λ (a : Parsed Y). then a K) (run_bind size p f bs) ∙ ap (λ (a : Parsed X). then (then a (λ x. run size (f x.0) x.1)) K) e ∙ go r
  where
    go : (r : Parsed X) → then (then r (λ x. run size (f x.0) x.1)) K ≡ then r g
    go (Ok x) = h x.0 x.1
    go (Err e) = refl

pub run_site : (file : List ℕ) → then (run (length file) site_plan file) (finish (length file)) ≡ site file
run_site file =
    let size : ℕ = length file in
    ends_with size header_plan _ (finish size) (header file) _ file (run_header file) (λ n r₀.
    ends_with size (slot_plan 1 n) _ (finish size) (slot_table size n 1 r₀) _ r₀ (run_slot 1 size n r₀) (λ a r₁.
    ends_with size (slot_plan 2 n) _ (finish size) (slot_table size n 2 r₁) _ r₁ (run_slot 2 size n r₁) (λ b r₂.
    ends_with size (slot_plan 3 n) _ (finish size) (slot_table size n 3 r₂) _ r₂ (run_slot 3 size n r₂) (λ c r₃.
    ends_with size (slot_plan 4 n) _ (finish size) (slot_table size n 4 r₃) _ r₃ (run_slot 4 size n r₃) (λ d r₄. refl)))))
