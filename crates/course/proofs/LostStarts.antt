-- What is left where there is no schedule from the start.
use Rattle.std.proofs.Common.{◌≡◌, ℕ, zero, suc, List, length, Some, None, Ok, Err, Option, Result, sym, refl, ap, ◌∙◌, subst}
use Rattle.traffic.specs.Meaning.{Meaning}
use Rattle.traffic.specs.Refusals.{unless}
use Rattle.game.specs.declared.map_fault.MapFault.{MapFault}
use Rattle.game.specs.declared.solution.Tally.{Tally}
use Rattle.game.specs.declared.solution.Refusal.{Refusal}
use Rattle.game.specs.declared.solution.Refusal.TheVariants.{Map, NoSchedule}
use Rattle.game.specs.Maps.{turned_away, Filled}
use Rattle.game.specs.Filling.{filled}
use Rattle.game.specs.Answers.{judged, solved, map_after}
use Rattle.game.proofs.Admitted.{admitted}
use Rattle.game.proofs.Filled.{filled_is}
use Rattle.game.proofs.Solved.{map_open}
use Rattle.keeper.specs.declared.arming.Armed.{Armed}
use Rattle.keeper.specs.Arming.{armed}
use Rattle.course.specs.Lost.{TellsLost}

-- the refusal of a keeper that was not armed
not_armed : (s : ℕ) (r : Result Tally Refusal) (e : Refusal) → armed s r ≡ Err e → r ≡ Err e
not_armed s (Ok t) e q = absurd (cc)
not_armed s (Err x) e q = cc

-- it is for want of a schedule alone if the call was not turned away, and the count is the mark less one
judged_lost : (o : Option MapFault) (m : ℕ) (u t : Tally) (k : ℕ) → unless (λ f. Err (Map f)) o (judged m u) ≡ Err (NoSchedule k t) → (o ≡ None) × (m ≡ suc k)
judged_lost None zero u t k e = absurd (cc)
judged_lost None (suc j) u t k e = (refl, cc)
judged_lost (Some f) m u t k e = absurd (cc)

pub tells_lost : (M : Meaning) (start s : ℕ) (before map : List ℕ) (r : Result Armed Refusal) → length map ≡ length before → r ≡ armed s (solved M start before) → map ≡ map_after M start before → TellsLost M start map r
tells_lost M start s before map r long e f k t q =
    let w = judged_lost _ _ _ t k (not_armed s (solved M start before) (NoSchedule k t) (sym e ∙ q)) in
    let is : map ≡ filled M before = f ∙ map_open M start before w.0 in
    record {
      admitted = ap (λ room. turned_away M room start) long ∙ w.0;
      full = subst (Filled M) (sym is) (filled_is M before (admitted M (length before) start w.0).room);
      counted = w.1;
    }
