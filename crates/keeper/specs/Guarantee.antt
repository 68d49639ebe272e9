-- The guarantee, whole. Everything in it is said of plays, rules, jams and next states. It is given with every kind of
-- refusal E: `told` says what a refusal of it tells.
use Rattle.std.specs.Prelude.{◌≡◌, ℕ, ◌<◌, true, ◌↔◌, List, ◌∷◌, None, Ok, Err, Option, Result}
use Rattle.traffic.specs.Meaning.{Meaning}
use Rattle.game.specs.Game.{mark, permitted_by}
use Rattle.game.specs.Plays.{Past, begin, Rule, Led, Safe}
use Rattle.game.specs.Laws.{LeastCount}
use Rattle.game.specs.Standing.{on}
use Rattle.traffic.specs.Refusals.{Told}
use Rattle.keeper.specs.declared.service.Keeper.TheVariants.{Ready as AtReady}
use Rattle.keeper.specs.declared.service.Call.{Call}
use Rattle.keeper.specs.declared.arming.Armed.{Armed}
use Rattle.keeper.specs.Service.{answers, after_calls}
use Rattle.keeper.specs.Promise.{phase, Runs}
use Rattle.keeper.specs.Promise.Phase.{ready}

-- the answer is that there is no schedule, number 12, with this count, the first value that it tells
abbrev pub SaysNone : {E : Type 0} → (E → Told) → Result Armed E → ℕ → Type 0
SaysNone {E} told r k = (e : E) × (r ≡ Err e) × ((told e).number ≡ 12) × ((rest : List ℕ) × ((told e).values ≡ k ∷ rest))

-- calls on the armed keeper are served so that its course is a play without a jam, and exactly the safe moves may be made
abbrev pub RunsSafely : Meaning → ℕ → List ℕ → Armed → List Call → Type 0
RunsSafely M start map a calls =
    (course : Past) × Runs M (Safe M) (mark M) start (begin start) (ready start) calls (answers M map (AtReady a.keeper) calls) course (phase (after_calls M map (AtReady a.keeper) calls))

pub record Guarantee {E : Type 0} (told : E → Told) (M : Meaning) (start : ℕ) (r : Result Armed E) (map : List ℕ) : Type 0 where
  -- 1. "no schedule" is the answer exactly when every rule, though it reads the entire past, is led into a jam from the
  -- start; and its count is the least number of checks within which every rule is led there
  pub none_exactly_when_led : ((k : ℕ) × SaysNone told r k) ↔ ((ρ : Rule M) → Led ρ start)
  pub count_is_least : (k : ℕ) → SaysNone told r k → LeastCount M start k
  -- 2. on the filled map a move is permitted in a state exactly when some rule that opens there with it is never led into
  -- a jam from there
  pub permitted_exactly_when_safe : (s m : ℕ) → s < M.states → (permitted_by M (on map) s m ≡ true) ↔ Safe M s m
  -- 3. the armed keeper holds the start; and any list of calls on it, while traffic and map are those of the arming, is
  -- served so that its course is a play without a jam to the state held, which has a safe move
  pub holds_the_start : (a : Armed) → r ≡ Ok a → a.keeper.state ≡ start
  pub never_meets_a_jam : (a : Armed) → r ≡ Ok a → (calls : List Call) → RunsSafely M start map a calls

-- for every start and every map, unless the call was turned away
abbrev pub Promised : {E F : Type 0} → (E → Told) → Option F → Meaning → ℕ → Result Armed E → List ℕ → Type 0
Promised told away M start r map = away ≡ None → Guarantee told M start r map
