-- The longest silence, check by check.
use Rattle.std.proofs.Common.{◌≡◌, ℕ, suc, ◌+◌, ◌<◌, ◌≤◌, max, Bool, true, false, eqb, cond, List, [], ◌∷◌, length, get_or, drop, sym, ap, ◌∙◌, arith}
use Rattle.std.proofs.lemmas.List.{at_drop_more, at_drop_all}
use Rattle.course.specs.declared.check.Check.{Check}
use Rattle.course.specs.Account.{silence_after}

either : (run : ℕ) (b : Bool) (m n : ℕ) → suc run ≤ m → run ≤ cond b m (max run n)
either run true m n h = omega arith
either run false m n h = omega arith

-- the silence before is part of it
pub low : (run : ℕ) (cs : List Check) → run ≤ silence_after run cs
unfolding silence_after
low run [] = omega arith
low run (c ∷ cs) = either run (eqb c.mv 0) (silence_after (suc run) cs) (silence_after 0 cs) (low (suc run) cs)

one : (run longest : ℕ) (b : Bool) (cs : List Check) → run ≤ longest → max (max longest (cond b (suc run) 0)) (silence_after (cond b (suc run) 0) cs) ≡ max longest (cond b (silence_after (suc run) cs) (max run (silence_after 0 cs)))
one run longest true cs h = omega (arith, low (suc run) cs)
one run longest false cs h = omega arith

module _ (run longest : ℕ) (row : List Check) (i : ℕ) (d : Check) (h : i < length row) (within : run ≤ longest) where
  pub more : (new : ℕ) → new ≡ cond (eqb (get_or row i d).mv 0) (suc run) 0 → max (max longest new) (silence_after new (drop (i + 1) row)) ≡ max longest (silence_after run (drop i row))
  unfolding silence_after
  more new e =
      rw e
      (one run longest (eqb (get_or row i d).mv 0) (drop (i + 1) row) within
      ∙ ap (max longest) (sym (at_drop_more (silence_after run) row i d h)))

pub done : (run longest : ℕ) (row : List Check) (i : ℕ) → length row ≤ i → run ≤ longest → longest ≡ max longest (silence_after run (drop i row))
unfolding silence_after
done run longest row i h within = rw (at_drop_all (silence_after run) row i h) (omega arith)

-- a silence is no longer than the checks so far
pub bounded : (run longest i new : ℕ) (b : Bool) → run ≤ longest → longest ≤ i → new ≡ cond b (suc run) 0 → new ≤ i + 1
bounded run longest i new true h l e = omega arith
bounded run longest i new false h l e = omega arith
