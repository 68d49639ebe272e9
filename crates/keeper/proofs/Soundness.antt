-- Whoever serves calls as promised keeps a sound course.
use Rattle.std.proofs.Common.{◌≡◌, ℕ, ◌<◌, true, false, sym, refl, subst}
use Rattle.traffic.specs.Meaning.{Meaning, Lawful, jam, legal}
use Rattle.game.specs.Plays.{Past, begin}
use Rattle.game.proofs.Kept.{legal_no_jam}
use Rattle.game.proofs.Rules.{play_in}
use Rattle.keeper.specs.declared.service.Call.{Call}
use Rattle.keeper.specs.declared.service.Answer.{Answer}
use Rattle.keeper.specs.Promise.{Phase, held, Serves, Granting, Sound}
use Rattle.keeper.specs.Promise.Phase.{waiting}
use Rattle.keeper.specs.Promise.Serves.{yes, no, picked, granted, turned_down, taken, not_taken, no_state, yes_in, no_in, no_state_in, spoiled, no_spoiler, not_waiting, not_ready}

-- What a relation `may` has to be for a keeper never to meet a jam: what may be made is legal, and wherever it leads some move
-- may be made again.
pub record Closed (M : Meaning) (may : ℕ → ℕ → Type 0) : Type 0 where
  pub allowed : (s m : ℕ) → s < M.states → may s m → legal M s m ≡ true
  pub leads_on : (s m t : ℕ) → s < M.states → may s m → M.leads s m t ≡ true → (j : ℕ) × may t j

-- Whoever serves a call so keeps the course sound. This is said of the relation alone, and of no keeper in particular.
module _ (M : Meaning) (law : Lawful M) (may : ℕ → ℕ → Type 0) (closed : Closed M may) where
  pub inside : (start : ℕ) (p : Past) (k : Phase) → Sound M may start p k → held k < M.states
  inside start p k h = subst (λ s. s < M.states) h.ends (play_in M law p h.plays)

  -- a state in which some move may be made is no jam,
  open_no_jam : (s : ℕ) → s < M.states → (m : ℕ) × may s m → jam M s ≡ false
  open_no_jam s h w = legal_no_jam M law s w.0 (closed.allowed s w.0 h w.1)

  -- and a course may begin in it, in either phase
  pub sound_begin : (k : Phase) → held k < M.states → Granting M may k → (m : ℕ) × may (held k) m → Sound M may (held k) (begin (held k)) k
  sound_begin k h g w = record { begins = refl; plays = h; no_jam = open_no_jam (held k) h w; ends = refl; granting = g; goes_on = w }

  module _ (marks : ℕ → ℕ) (start : ℕ) where
    pub sound_after : {p q : Past} {k l : Phase} {c : Call} {a : Answer} → Serves M may marks p k c a q l → Sound M may start p k → Sound M may start q l
    sound_after (yes w) h = h
    sound_after (no w) h = h
    sound_after (picked w first) h = h
    sound_after (granted w) h = record { begins = h.begins; plays = h.plays; no_jam = h.no_jam; ends = h.ends; granting = w; goes_on = h.goes_on }
    sound_after (turned_down w) h = h
    sound_after (taken {p = p} {s = s} {m = m} {t = t} e) h =
        let here = inside start p (waiting s m) h in
        let there = (law.leads_within s m t e).2 in
        let more = closed.leads_on s m t here h.granting e in
        record {
          begins = h.begins;
          plays = (
            h.plays,
            subst (λ x. legal M x m ≡ true) (sym h.ends) (closed.allowed s m here h.granting),
            subst (λ x. M.leads x m t ≡ true) (sym h.ends) e,
          );
          no_jam = (h.no_jam, open_no_jam t there more);
          ends = refl;
          granting = tt;
          goes_on = more;
        }
    sound_after (not_taken i e) h = h
    sound_after (no_state i) h = h
    sound_after (yes_in i w) h = h
    sound_after (no_in i w) h = h
    sound_after (no_state_in i) h = h
    sound_after (spoiled i) h = h
    sound_after (no_spoiler i) h = h
    sound_after not_waiting h = h
    sound_after (not_ready r) h = h
