-- The longest silence among all silences.
use Rattle.std.proofs.Common.{◌≡◌, ℕ, zero, suc, ◌+◌, ◌≤◌, max, eqb, true, List, [], ◌∷◌, length, take, drop, refl, inl, inr, arith}
use Rattle.std.proofs.lemmas.Bool.{cases_Bool, cases_lt, and_parts, and_from, eqb-true, eq-eqb}
use Rattle.course.specs.declared.check.Check.{Check}
use Rattle.course.specs.Account.{silence_after, longest_silence_in, Silence, LongestSilence, silent}
use Rattle.course.proofs.Silences.{low}

-- no loop sends in the first checks
abbrev Quiet : ℕ → List Check → Type 0
Quiet n cs = silent (take n cs) ≡ true

-- a silence behind a check
later : (n : ℕ) (c : Check) (cs : List Check) → Silence n cs → Silence n (c ∷ cs)
later n c cs s = record { first = suc s.first; fits = omega (arith, s.fits); stays = s.stays }

-- where a silence of n checks stands: it goes on from `run` checks before these, or is one of these
data Stands (run n : ℕ) (cs : List Check) : Type 0 where
  goes_on : (k : ℕ) → k ≤ length cs → Quiet k cs → n ≡ run + k → Stands run n cs
  is_here : Silence n cs → Stands run n cs

module _ (run n : ℕ) (c : Check) (cs : List Check) where
  after_quiet : c.mv ≡ 0 → Stands (suc run) n cs → Stands run n (c ∷ cs)
  after_quiet q (goes_on k f a e) = goes_on (suc k) (omega (arith, f)) (and_from _ _ (eq-eqb c.mv 0 q) a) (omega (arith, e))
  after_quiet q (is_here s) = is_here (later n c cs s)

  here : Stands 0 n cs → Silence n (c ∷ cs)
  here (goes_on k f a e) = let is : n ≡ k = omega (arith, e) in record { first = 1; fits = omega (arith, f, e); stays = rw is a }
  here (is_here s) = later n c cs s

  after_loud : Stands 0 n cs → Stands run (max run n) (c ∷ cs)
  after_loud s =
      elim (cases_lt n run) [
        | inl l ↦ goes_on 0 (omega arith) refl (omega (arith, l))
        | inr l ↦ let e : max run n ≡ n = omega (arith, l) in is_here (rw e (here s))
      ]

stands : (run : ℕ) (cs : List Check) → Stands run (silence_after run cs) cs
unfolding silence_after
stands run [] = goes_on 0 (omega arith) refl (omega arith)
stands run (c ∷ cs) =
    elim (cases_Bool (eqb c.mv 0)) [
      | inl z ↦ rw z (after_quiet run _ c cs (eqb-true _ _ z) (stands (suc run) cs))
      | inr z ↦ rw z (after_loud run _ c cs (stands 0 cs))
    ]

there : (cs : List Check) → Silence (longest_silence_in cs) cs
there cs = go (stands 0 cs)
  where
    go : Stands 0 (longest_silence_in cs) cs → Silence (longest_silence_in cs) cs
    go (goes_on k f a e) = let is : longest_silence_in cs ≡ k = omega (arith, e) in record { first = 0; fits = omega (arith, f, e); stays = rw is a }
    go (is_here s) = s

from_here : (run : ℕ) (cs : List Check) (n : ℕ) → n ≤ length cs → Quiet n cs → run + n ≤ silence_after run cs
unfolding silence_after
from_here run cs zero f a = omega (arith, low run cs)
from_here run [] (suc n) f a = absurd (omega (arith, f))
from_here run (c ∷ cs) (suc n) f a = let p = and_parts (eqb c.mv 0) (silent (take n cs)) a in rw p.0 (omega (arith, from_here (suc run) cs n (omega (arith, f)) p.1))

behind : (run : ℕ) (cs : List Check) (first n : ℕ) → first + n ≤ length cs → Quiet n (drop first cs) → n ≤ silence_after run cs
unfolding silence_after
behind run cs zero n f a = omega (arith, from_here run cs n (omega (arith, f)) a)
behind run [] (suc i) n f a = absurd (omega (arith, f))
behind run (c ∷ cs) (suc i) n f a =
    elim (cases_Bool (eqb c.mv 0)) [
      | inl z ↦ rw z (behind (suc run) cs i n (omega (arith, f)) a)
      | inr z ↦ rw z (omega (arith, behind 0 cs i n (omega (arith, f)) a))
    ]

pub is_longest : (cs : List Check) → LongestSilence (longest_silence_in cs) cs
is_longest cs = record { there = there cs; longest = λ k s. behind 0 cs s.first k s.fits s.stays }
