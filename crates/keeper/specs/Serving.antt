-- What serving a row of calls answers, and the row afterwards.
use Rattle.std.specs.Prelude.{◌≡◌, ℕ, cond, List, Ok, Err, is_ok, Option, Result}
use Rattle.traffic.specs.Meaning.{Meaning}
use Rattle.game.specs.declared.solution.Tally.{Tally}
use Rattle.game.specs.declared.solution.Refusal.{Refusal}
use Rattle.game.specs.Game.{mark}
use Rattle.game.specs.Plays.{Past, begin, Safe}
use Rattle.traffic.specs.Refusals.{Told}
use Rattle.game.specs.Answers.{solved, map_after}
use Rattle.keeper.specs.declared.serving.Served.{Served}
use Rattle.keeper.specs.declared.service.Keeper.{Keeper}
use Rattle.keeper.specs.declared.service.Keeper.TheVariants.{Ready as AtReady}
use Rattle.keeper.specs.declared.service.Call.{Call}
use Rattle.keeper.specs.declared.service.Answer.{Answer}
use Rattle.keeper.specs.declared.service.Exchange.{Exchange}
use Rattle.keeper.specs.Service.{exchanged, answered, after_calls}
use Rattle.keeper.specs.Promise.{phase, Runs}
use Rattle.keeper.specs.Promise.Phase.{ready}
use Rattle.keeper.specs.Guarantee.{Guarantee, Promised}

-- a keeper that is ready in s
abbrev pub armed_at : ℕ → Keeper
armed_at s = AtReady (record { state = s })

-- the keeper that synthesis arms, after the calls; or synthesis' refusal
abbrev pub served_from : {E : Type 0} → Result Tally E → Keeper → Result Served E
served_from (Ok t) k = Ok (record { tally = t; keeper = k })
served_from (Err e) k = Err e

-- the calls are performed on the filled map
abbrev pub served : Meaning → ℕ → List ℕ → List Call → Result Served Refusal
served M start map cs = served_from (solved M start map) (after_calls M (map_after M start map) (armed_at start) cs)

-- and answered in the row, which stays as it was if no keeper is armed
abbrev pub row_after : Meaning → ℕ → List ℕ → List Exchange → List Exchange
row_after M start map row = cond (is_ok (solved M start map)) (answered M (map_after M start map) (armed_at start) row) row

-- the guarantee, and that these calls were served so, with the answers in the row
abbrev pub KeptPromise : {E F : Type 0} → (E → Told) → Option F → Meaning → ℕ → List ℕ → List Call → List Exchange → Result Served E → Type 0
KeptPromise told away M start map cs row (Ok s) =
    Guarantee told M start (Ok (record { keeper = record { state = start }; tally = s.tally })) map
    × ((course : Past) × (said : List Answer) × (row ≡ exchanged cs said) × Runs M (Safe M) (mark M) start (begin start) (ready start) cs said course (phase s.keeper))
KeptPromise told away M start map cs row (Err e) = Promised told away M start (Err e) map
