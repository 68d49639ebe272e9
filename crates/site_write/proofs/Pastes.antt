-- One write after another.
use Rattle.std.proofs.Common.{◌≡◌, ℕ, ◌+◌, ◌*◌, ◌<◌, ◌≤◌, List, [], ◌∷◌, ◌++◌, map, length, get_or, take, drop, sym, refl, ap, ◌∙◌, ap₂, append_assoc, add_assoc, arith}
use Rattle.std.specs.List.{flat_map}
use Rattle.std.proofs.lemmas.List.Folds.{flat_map-map}
use Rattle.std.proofs.lemmas.List.{drop-drop, take_at, drop_at, length-append, length-take-le, take_more, flat_map_more}
use Rattle.site_write.specs.Paste.{pasted}
use Rattle.site_read.specs.Format.{word}

pub pasted_more : (out : List ℕ) (at : ℕ) (xs ys : List ℕ) → at + length xs ≤ length out → pasted (pasted out at xs) (at + length xs) ys ≡ pasted out at (xs ++ ys)
pasted_more out at xs ys h =
    let D : List ℕ = drop (at + length xs) out in
    let P : List ℕ = take at out ++ xs in
    let la : length (take at out) ≡ at = length-take-le at out (omega arith) in
    let lp : length P ≡ at + length xs = length-append (take at out) xs ∙ ap (λ (n : ℕ). n + length xs) la in
    let e : pasted out at xs ≡ P ++ D = sym (append_assoc (take at out) xs D) in
    let t : take (at + length xs) (pasted out at xs) ≡ P = ap (take (at + length xs)) e ∙ take_at P D (at + length xs) lp in
    let d : drop (at + length xs) (pasted out at xs) ≡ D = ap (drop (at + length xs)) e ∙ drop_at P D (at + length xs) lp in
    let w : drop (at + length xs + length ys) (pasted out at xs) ≡ drop (at + length (xs ++ ys)) out
    = sym (drop-drop (length ys) (at + length xs) (pasted out at xs)) ∙ ap (drop (length ys)) d ∙ drop-drop (length ys) (at + length xs) out
    ∙ ap (λ (n : ℕ). drop n out) (add_assoc at (length xs) (length ys) ∙ ap (λ (n : ℕ). at + n) (sym (length-append xs ys))) in
    ap₂ (λ (a b : List ℕ). a ++ (ys ++ b)) t w
    ∙ append_assoc (take at out) xs (ys ++ drop (at + length (xs ++ ys)) out)
    ∙ ap (λ (l : List ℕ). take at out ++ l) (sym (append_assoc xs ys (drop (at + length (xs ++ ys)) out)))

pub words_length : (xs : List ℕ) → length (flat_map word xs) ≡ 2 * length xs
words_length [] = refl
words_length (x ∷ xs) = let ih = words_length xs in omega arith

-- a loop that writes one element after another
module _ {X : Type 0} (enc : X → List ℕ) where
  joined_next : (xs : List X) (i : ℕ) (d : X) → i < length xs → flat_map enc (take (i + 1) xs) ≡ flat_map enc (take i xs) ++ enc (get_or xs i d)
  joined_next xs i d h = ap (flat_map enc) (take_more xs i d h) ∙ sym (flat_map_more enc [] (take i xs) (get_or xs i d))

  pub next_end : (xs : List X) (i at end : ℕ) (d : X) → i < length xs → end ≡ at + length (flat_map enc (take i xs)) → end + length (enc (get_or xs i d)) ≡ at + length (flat_map enc (take (i + 1) xs))
  next_end xs i at end d h e =
      let j = ap length (joined_next xs i d h) ∙ length-append (flat_map enc (take i xs)) (enc (get_or xs i d)) in
      omega arith

  pub next_output : (base out : List ℕ) (xs : List X) (i at end : ℕ) (d : X) → i < length xs → end ≡ at + length (flat_map enc (take i xs)) → end ≤ length base → out ≡ pasted base at (flat_map enc (take i xs)) → pasted out end (enc (get_or xs i d)) ≡ pasted base at (flat_map enc (take (i + 1) xs))
  next_output base out xs i at end d h e l o =
      let r : at + length (flat_map enc (take i xs)) ≤ length base = omega arith in
      rw (o, e, joined_next xs i d h) (pasted_more base at (flat_map enc (take i xs)) (enc (get_or xs i d)) r)

-- a head, and then the items behind it
module _ {X Y : Type 0} (enc : Y → List ℕ) (f : X → Y) (items xs : List X) (same : items ≡ xs) (out head : List ℕ) (at : ℕ) (fits : at + length (head ++ flat_map enc (map f xs)) ≤ length out) where
  told : flat_map (λ x. enc (f x)) items ≡ flat_map enc (map f xs)
  told = ap (flat_map (λ x. enc (f x))) same ∙ sym (flat_map-map enc f xs)

  pub items_fit : (o : List ℕ) (mid : ℕ) → length o ≡ length out → mid ≡ at + length head → mid + length (flat_map (λ x. enc (f x)) items) ≤ length o
  items_fit o mid l m = let n = length-append head (flat_map enc (map f xs)) in rw told (omega arith)

  pub items_end : (mid end : ℕ) → mid ≡ at + length head → end ≡ mid + length (flat_map (λ x. enc (f x)) items) → end ≡ at + length (head ++ flat_map enc (map f xs))
  items_end mid end m e = let n = length-append head (flat_map enc (map f xs)) in let t = ap length told in omega arith

  pub items_output : (o₁ o₂ : List ℕ) (mid : ℕ) → mid ≡ at + length head → o₁ ≡ pasted out at head → o₂ ≡ pasted o₁ mid (flat_map (λ x. enc (f x)) items) → o₂ ≡ pasted out at (head ++ flat_map enc (map f xs))
  items_output o₁ o₂ mid m h t =
      let n = length-append head (flat_map enc (map f xs)) in
      t ∙ ap (pasted o₁ mid) told ∙ ap₂ (λ (o : List ℕ) (k : ℕ). pasted o k (flat_map enc (map f xs))) h m ∙ pasted_more out at head (flat_map enc (map f xs)) (omega arith)
