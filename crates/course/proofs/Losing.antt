-- The checks of the lost play one by one.
use Rattle.std.proofs.Common.{◌≡◌, ℕ, zero, suc, ◌+◌, ◌<◌, ◌≤◌, List, [], ◌∷◌, ◌++◌, length, set, take, drop, Some, None, sym, refl, ap, ap₂, ◌∙◌, arith}
use Rattle.std.proofs.lemmas.List.{append_assoc, append-nil, at_drop_more, at_drop_all, drop-set-lt, take_more_set, take-append-drop, length-take-le}
use Rattle.std.proofs.lemmas.Grind.{drop_more_same}
use Rattle.traffic.specs.Meaning.{Meaning, Lawful}
use Rattle.game.specs.Maps.{turned_away}
use Rattle.game.proofs.Admitted.{not_turned_away, admitted}
use Rattle.course.specs.declared.check.Check.{Check}
use Rattle.course.specs.Lost.{lost_check, lost_play}
use Rattle.course.proofs.Legals.{is_lost}

module _ (M : Meaning) (marks : ℕ → ℕ) (s : ℕ) where
  pub none_left : lost_check M marks s ≡ None → (n : ℕ) → lost_play M marks n s ≡ []
  unfolding lost_play
  none_left e zero = refl
  none_left e (suc n) = rw (e, lost_play) refl

  pub first_check : (c : Check) (n : ℕ) → lost_check M marks s ≡ Some c → lost_play M marks (suc n) s ≡ c ∷ lost_play M marks n c.next
  unfolding lost_play
  first_check c n e = rw (e, lost_play) refl

  pub no_room : (row : List Check) (i : ℕ) → length row ≤ i → lost_play M marks (length (drop i row)) s ≡ []
  unfolding lost_play
  no_room row i h = at_drop_all (λ xs. lost_play M marks (length xs) s) row i h

  -- the next check may be made too
  pub next_admitted : Lawful M → (room : ℕ) (c : Check) → turned_away M room s ≡ None → lost_check M marks s ≡ Some c → turned_away M room c.next ≡ None
  next_admitted law room c none e =
      let a = admitted M room s none in
      not_turned_away M room c.next (record { limits = a.limits; room = a.room; inside = (is_lost M marks s law c e).inside })

  module _ (row : List Check) (i : ℕ) (c : Check) (h : i < length row) (e : lost_check M marks s ≡ Some c) where
    rest : drop (i + 1) (set row i c) ≡ drop (i + 1) row
    rest = drop-set-lt (i + 1) row i c (omega arith)

    pub play_more : take (i + 1) (set row i c) ++ lost_play M marks (length (drop (i + 1) (set row i c))) c.next ≡ take i row ++ lost_play M marks (length (drop i row)) s
    play_more =
        rw (rest, take_more_set row i c h)
        (append_assoc (take i row) (c ∷ []) _
        ∙ ap (λ l. take i row ++ l)
        (sym (at_drop_more (λ xs. lost_play M marks (length xs) s) row i c h ∙ first_check c (length (drop (i + 1) row)) e)))

    pub behind_more : (before : List Check) → drop i row ≡ drop i before → drop (i + 1) (set row i c) ≡ drop (i + 1) before
    behind_more before d = rest ∙ drop_more_same row before i d

-- where nothing is left to play, the record has the play
module _ (row before rest all : List Check) (i : ℕ) (h : i ≤ length row) (e : take i row ++ rest ≡ all) (none : rest ≡ []) where
  first_all : take i row ≡ all
  first_all = sym (append-nil (take i row)) ∙ ap (λ r. take i row ++ r) (sym none) ∙ e

  pub all_made : i ≡ length all
  all_made = sym (length-take-le i row h) ∙ ap length first_all

  pub all_noted : drop i row ≡ drop i before → row ≡ all ++ drop (length all) before
  all_noted d = sym (take-append-drop i row) ∙ ap₂ (λ a b. a ++ b) first_all (d ∙ ap (λ k. drop k before) all_made)
