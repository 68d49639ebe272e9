-- The promise leaves one answer to each call.
use Rattle.std.proofs.Common.{◌≡◌, ℕ, ◌<◌, Some, refl, ap, inl, inr, arith}
use Rattle.std.proofs.lemmas.Bool.{cases_lt, both_ways}
use Rattle.traffic.specs.Meaning.{Meaning, Lawful}
use Rattle.game.specs.Plays.{Past}
use Rattle.keeper.specs.declared.service.Call.{Call}
use Rattle.keeper.specs.declared.service.Answer.{Answer}
use Rattle.keeper.specs.declared.service.Answer.TheVariants.{Picked}
use Rattle.keeper.specs.Promise.{Phase, Serves}
use Rattle.keeper.specs.Promise.ForReady.{asks, picks, grants}
use Rattle.keeper.specs.Promise.Serves.{yes, no, picked, granted, turned_down, taken, not_taken, no_state, yes_in, no_in, no_state_in, spoiled, no_spoiler, not_waiting, not_ready}

module _ (M : Meaning) (law : Lawful M) (may : ℕ → ℕ → Type 0) (marks : ℕ → ℕ) where
  lowest : (s m j : ℕ) → may s m → ((i : ℕ) → i < m → may s i → ⊥) → may s j → ((i : ℕ) → i < j → may s i → ⊥) → m ≡ j
  lowest s m j w first v least =
      elim (cases_lt m j) [
        | inl l ↦ absurd (least m l w)
        | inr l ↦ elim (cases_lt j m) [ inl h ↦ absurd (first j h v) | inr h ↦ omega arith ]
      ]

  pub settled : {p q r : Past} {k l n : Phase} {c : Call} {a b : Answer} → Serves M may marks p k c a q l → Serves M may marks p k c b r n → (a ≡ b) × (q ≡ r) × (l ≡ n)
  settled (yes w) (yes v) = (refl, refl, refl)
  settled (yes w) (no v) = absurd (v w)
  settled (no w) (yes v) = absurd (w v)
  settled (no w) (no v) = (refl, refl, refl)
  settled (picked {s = s} {m = m} w first) (picked {m = j} v least) = (ap (λ i. Picked (Some i)) (lowest s m j w first v least), refl, refl)
  settled (granted w) (granted v) = (refl, refl, refl)
  settled (granted w) (turned_down v) = absurd (v w)
  settled (turned_down w) (granted v) = absurd (w v)
  settled (turned_down w) (turned_down v) = (refl, refl, refl)
  settled (taken e) (taken f) = (refl, refl, refl)
  settled (taken e) (not_taken i f) = absurd (both_ways _ f e)
  settled (taken {s = s} {m = m} {t = t} e) (no_state i) = absurd (let h = (law.leads_within s m t e).2 in omega arith)
  settled (taken e) (not_ready r) = elim r [ ]
  settled (not_taken i e) (taken f) = absurd (both_ways _ e f)
  settled (not_taken i e) (not_taken j f) = (refl, refl, refl)
  settled (not_taken i e) (no_state j) = absurd (omega arith)
  settled (not_taken i e) (not_ready r) = elim r [ ]
  settled (no_state {s = s} {m = m} {t = t} i) (taken e) = absurd (let h = (law.leads_within s m t e).2 in omega arith)
  settled (no_state i) (not_taken j e) = absurd (omega arith)
  settled (no_state i) (no_state j) = (refl, refl, refl)
  settled (no_state i) (not_ready r) = elim r [ ]
  settled (yes_in i w) (yes_in j v) = (refl, refl, refl)
  settled (yes_in i w) (no_in j v) = absurd (v w)
  settled (yes_in i w) (no_state_in j) = absurd (omega arith)
  settled (yes_in i w) (not_ready r) = elim r [ ]
  settled (no_in i w) (yes_in j v) = absurd (w v)
  settled (no_in i w) (no_in j v) = (refl, refl, refl)
  settled (no_in i w) (no_state_in j) = absurd (omega arith)
  settled (no_in i w) (not_ready r) = elim r [ ]
  settled (no_state_in i) (yes_in j v) = absurd (omega arith)
  settled (no_state_in i) (no_in j v) = absurd (omega arith)
  settled (no_state_in i) (no_state_in j) = (refl, refl, refl)
  settled (no_state_in i) (not_ready r) = elim r [ ]
  settled (spoiled i) (spoiled j) = (refl, refl, refl)
  settled (spoiled i) (no_spoiler j) = absurd (omega arith)
  settled (spoiled i) (not_ready r) = elim r [ ]
  settled (no_spoiler i) (spoiled j) = absurd (omega arith)
  settled (no_spoiler i) (no_spoiler j) = (refl, refl, refl)
  settled (no_spoiler i) (not_ready r) = elim r [ ]
  settled not_waiting not_waiting = (refl, refl, refl)
  settled (not_ready (asks m)) (not_ready (asks j)) = (refl, refl, refl)
  settled (not_ready picks) (not_ready picks) = (refl, refl, refl)
  settled (not_ready (grants m)) (not_ready (grants j)) = (refl, refl, refl)
