-- Slots one by one are all of them.
use Rattle.std.proofs.Common.{◌≡◌, ℕ, ◌+◌, ◌<◌, ◌≤◌, List, [], ◌∷◌, ◌++◌, length, set, take, drop, sym, ap, ◌∙◌, arith}
use Rattle.std.proofs.lemmas.List.{append_assoc, append-nil, at_drop_more, at_drop_all, drop-set-lt, take_all, take_more_set}
use Rattle.traffic.specs.Meaning.{Meaning}
use Rattle.keeper.specs.declared.slot.Ready.{Ready}
use Rattle.course.specs.declared.check.Check.{Check}
use Rattle.course.specs.Slots.{slot, slots, state_after}

module _ (M : Meaning) (s : ℕ) (row : List Check) (i : ℕ) (r : Ready × Check) (h : i < length row) (e : r ≡ (record { state = (slot M s).next }, slot M s)) where
  rest : drop (i + 1) (set row i r.1) ≡ drop (i + 1) row
  rest = drop-set-lt (i + 1) row i r.1 (omega arith)

  pub state_more : state_after M (length (drop (i + 1) (set row i r.1))) r.0.state ≡ state_after M (length (drop i row)) s
  unfolding state_after
  state_more = rw (rest, e) (sym (at_drop_more (λ xs. state_after M (length xs) s) row i (slot M s) h))

  pub row_more : take (i + 1) (set row i r.1) ++ slots M (length (drop (i + 1) (set row i r.1))) r.0.state ≡ take i row ++ slots M (length (drop i row)) s
  unfolding slots
  row_more =
      rw (rest, take_more_set row i r.1 h)
      (append_assoc (take i row) (r.1 ∷ []) _
      ∙ ap (λ l. take i row ++ l)
      (let q : r.1 ∷ slots M (length (drop (i + 1) row)) r.0.state ≡ slots M (length (drop i row)) s = rw e (sym (at_drop_more (λ xs. slots M (length xs) s) row i (slot M s) h)) in q))

-- behind the last place all is noted
module _ (M : Meaning) (s : ℕ) (row : List Check) (i : ℕ) (h : length row ≤ i) where
  pub state_done : s ≡ state_after M (length (drop i row)) s
  unfolding state_after
  state_done = sym (at_drop_all (λ xs. state_after M (length xs) s) row i h)

  pub row_done : row ≡ take i row ++ slots M (length (drop i row)) s
  unfolding slots
  row_done = rw (take_all i row h) (sym (append-nil row) ∙ ap (λ l. row ++ l) (sym (at_drop_all (λ xs. slots M (length xs) s) row i h)))
