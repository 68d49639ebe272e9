-- A buffer that holds a file, and nothing but bytes of one kind behind it.
use Rattle.std.proofs.Common.{◌≡◌, ℕ, zero, suc, Bool, true, IsTrue, ◌↔◌, eqb, length, List, [], ◌∷◌, ◌++◌, replicate, sym, refl, ap, ◌∙◌, arith}
use Rattle.std.specs.List.{list_all}
use Rattle.std.proofs.lemmas.List.{append_cancel_left}
use Rattle.std.proofs.lemmas.Bool.Decides.{nat_tests}
use Rattle.cases.specs.Buffers.{IsFileThen}

all_alike : (xs : List ℕ) (b : ℕ) → list_all (λ x. eqb x b) xs ≡ true → xs ≡ replicate (length xs) b
all_alike [] b e = refl
all_alike (x ∷ xs) b e =
    let here : x ≡ b = grind (arith, nat_tests) in
    let rest : list_all (λ y. eqb y b) xs ≡ true = grind (arith, nat_tests) in
    rw (← all_alike xs b rest) (rw here refl)

alike_all : (n b : ℕ) → list_all (λ x. eqb x b) (replicate n b) ≡ true
alike_all zero b = refl
alike_all (suc n) b = let more = alike_all n b in grind (arith, nat_tests)

pub holds_by_rest : (buffer file rest : List ℕ) (b : ℕ) (r : Bool) → buffer ≡ file ++ rest → r ≡ list_all (λ x. eqb x b) rest
    → IsTrue r ↔ IsFileThen buffer file b
holds_by_rest buffer file rest b r cut all = (
  λ t. (length rest, cut ∙ ap (λ x. file ++ x) (all_alike rest b (sym all ∙ t))),
  λ p. all ∙ ap (list_all (λ x. eqb x b)) (append_cancel_left file rest (replicate p.0 b) (sym cut ∙ p.1)) ∙ alike_all p.0 b,
)
