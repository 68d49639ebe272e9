-- What a keeper promises, in the words of plays and rules.
use Rattle.std.specs.Prelude.{◌≡◌, ℕ, ◌<◌, ◌≤◌, true, false, List, [], ◌∷◌, Some}
use Rattle.traffic.specs.Meaning.{Meaning}
use Rattle.game.specs.declared.map_fault.MapFault.TheVariants.{NoSuchState}
use Rattle.game.specs.Choice.{spoiler_by}
use Rattle.game.specs.Plays.{Past, after, first, last, Play, NoJamMet}
use Rattle.keeper.specs.declared.slot_fault.SlotFault.TheVariants.{Map, NotPermitted, NoNextState}
use Rattle.keeper.specs.declared.service.Keeper.{Keeper}
use Rattle.keeper.specs.declared.service.Keeper.TheVariants.{Ready as AtReady, Waiting as AtWaiting}
use Rattle.keeper.specs.declared.service.Call.{Call}
use Rattle.keeper.specs.declared.service.Call.TheVariants.{Permits, Pick, Grant, Report, PermitsIn, Spoiler}
use Rattle.keeper.specs.declared.service.Answer.{Answer}
use Rattle.keeper.specs.declared.service.Answer.TheVariants.{Permitted, Picked, Granted, Taken, Spoiled, Refused, OutOfTurn}

-- a phase: ready in s, or waiting for the next state since m was granted in s
pub data Phase : Type 0 where
  ready : ℕ → Phase
  waiting : ℕ → ℕ → Phase

-- the phase that a keeper is in
abbrev pub phase : Keeper → Phase
phase (AtReady k) = ready k.state
phase (AtWaiting k) = waiting k.state k.mv

-- the state that is held in it
abbrev pub held : Phase → ℕ
held (ready s) = s
held (waiting s m) = s

-- a call that only a ready keeper takes
pub data ForReady : Call → Type 0 where
  asks : (m : ℕ) → ForReady (Permits m)
  picks : ForReady Pick
  grants : (m : ℕ) → ForReady (Grant m)

-- M is the traffic that is run, and `may s m` says that move m may be made in state s. The promise to a keeper that was armed for
-- M is given with `Safe M` for it.
module _ (M : Meaning) (may : ℕ → ℕ → Type 0) where
  -- what is granted may be made
  abbrev pub Granting : Phase → Type 0
  Granting (ready s) = Unit {0}
  Granting (waiting s m) = may s m

  -- the course is a play from the start without a jam, it ends in the state held, what is granted may be made, and some move
  -- may be made there
  pub record Sound (start : ℕ) (p : Past) (k : Phase) : Type 0 where
    pub begins : first p ≡ start
    pub plays : Play M p
    pub no_jam : NoJamMet M p
    pub ends : last p ≡ held k
    pub granting : Granting k
    pub goes_on : (m : ℕ) × may (held k) m

-- `marks` are the marks by which the spoiler is told: those of the game, `mark M`, where the map was filled for M
module _ (M : Meaning) (may : ℕ → ℕ → Type 0) (marks : ℕ → ℕ) where
  -- One call: the course and the phase before it, the call, its answer, the course and the phase after it. The course is
  -- the start, and then for each report taken the granted move and the state reported.
  pub data Serves : Past → Phase → Call → Answer → Past → Phase → Type 0 where
    -- exactly the moves that may be made are answered yes
    yes : {p : Past} {s m : ℕ} → may s m → Serves p (ready s) (Permits m) (Permitted true) p (ready s)
    no : {p : Past} {s m : ℕ} → (may s m → ⊥) → Serves p (ready s) (Permits m) (Permitted false) p (ready s)
    -- the pick is the lowest of them
    picked : {p : Past} {s m : ℕ} → may s m → ((j : ℕ) → j < m → may s j → ⊥) → Serves p (ready s) Pick (Picked (Some m)) p (ready s)
    -- exactly they are granted; the keeper then waits
    granted : {p : Past} {s m : ℕ} → may s m → Serves p (ready s) (Grant m) Granted p (waiting s m)
    turned_down : {p : Past} {s m : ℕ} → (may s m → ⊥) → Serves p (ready s) (Grant m) (Refused NotPermitted) p (ready s)
    -- exactly the next states of the granted move are taken; the course grows by the move and the state
    taken : {p : Past} {s m t : ℕ} → M.leads s m t ≡ true → Serves p (waiting s m) (Report t) Taken (after p m t) (ready t)
    not_taken : {p : Past} {s m t : ℕ} → t < M.states → M.leads s m t ≡ false → Serves p (waiting s m) (Report t) (Refused NoNextState) p (waiting s m)
    no_state : {p : Past} {s m t : ℕ} → M.states ≤ t → Serves p (waiting s m) (Report t) (Refused (Map NoSuchState)) p (waiting s m)
    -- questions about any state, whatever the phase
    yes_in : {p : Past} {k : Phase} {s m : ℕ} → s < M.states → may s m → Serves p k (PermitsIn s m) (Permitted true) p k
    no_in : {p : Past} {k : Phase} {s m : ℕ} → s < M.states → (may s m → ⊥) → Serves p k (PermitsIn s m) (Permitted false) p k
    no_state_in : {p : Past} {k : Phase} {s m : ℕ} → M.states ≤ s → Serves p k (PermitsIn s m) (Refused (Map NoSuchState)) p k
    spoiled : {p : Past} {k : Phase} {s m : ℕ} → s < M.states → Serves p k (Spoiler s m) (Spoiled (spoiler_by M marks s m)) p k
    no_spoiler : {p : Past} {k : Phase} {s m : ℕ} → M.states ≤ s → Serves p k (Spoiler s m) (Refused (Map NoSuchState)) p k
    -- a call out of turn
    not_waiting : {p : Past} {s t : ℕ} → Serves p (ready s) (Report t) OutOfTurn p (ready s)
    not_ready : {p : Past} {s m : ℕ} {c : Call} → ForReady c → Serves p (waiting s m) c OutOfTurn p (waiting s m)

  -- a list of calls, each served, with the course sound before and after each
  pub data Runs (start : ℕ) : Past → Phase → List Call → List Answer → Past → Phase → Type 0 where
    done : {p : Past} {k : Phase} → Sound M may start p k → Runs start p k [] [] p k
    then : {p q r : Past} {k l n : Phase} {c : Call} {a : Answer} {cs : List Call} {said : List Answer} →
        Sound M may start p k → Serves p k c a q l → Runs start q l cs said r n → Runs start p k (c ∷ cs) (a ∷ said) r n

  -- A call, and where it is asked, leave at most one answer, one course and one phase after it. So a question about a state that
  -- there is not is refused as above, and answered in no other way.
  abbrev pub OneAnswer : Type 0
  OneAnswer =
      (p q r : Past) (k l n : Phase) (c : Call) (a b : Answer) → Serves p k c a q l → Serves p k c b r n → (a ≡ b) × (q ≡ r) × (l ≡ n)
