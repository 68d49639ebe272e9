-- Calls, answers and keepers in words.
use Rattle.std.specs.Prelude.{ℕ, true, false, List, ◌++◌, Some, None, codes, decimal}
use Rattle.keeper.specs.declared.service.Keeper.{Keeper}
use Rattle.keeper.specs.declared.service.Keeper.TheVariants.{Ready as AtReady, Waiting as AtWaiting}
use Rattle.keeper.specs.declared.service.Call.{Call}
use Rattle.keeper.specs.declared.service.Call.TheVariants.{Permits, Pick, Grant, Report, PermitsIn, Spoiler}
use Rattle.keeper.specs.declared.service.Answer.{Answer}
use Rattle.keeper.specs.declared.service.Answer.TheVariants.{Permitted, Picked, Granted, Taken, Spoiled, Refused, OutOfTurn}
use Rattle.keeper.specs.Faults.{told}

-- a move in a state
abbrev pub in_state : ℕ → ℕ → List ℕ
in_state m s = decimal m ++ (codes " in " ++ decimal s)

abbrev pub call_words : Call → List ℕ
call_words (Permits m) = codes "permits " ++ decimal m
call_words Pick = codes "pick"
call_words (Grant m) = codes "grant " ++ decimal m
call_words (Report t) = codes "report " ++ decimal t
call_words (PermitsIn s m) = codes "permits " ++ in_state m s
call_words (Spoiler s m) = codes "spoiler " ++ in_state m s

abbrev pub answer_words : Answer → List ℕ
answer_words (Permitted true) = codes "yes"
answer_words (Permitted false) = codes "no"
answer_words (Picked (Some m)) = codes "move " ++ decimal m
answer_words (Picked None) = codes "none"
answer_words (Spoiled (Some t)) = codes "state " ++ decimal t
answer_words (Spoiled None) = codes "none"
answer_words Granted = codes "granted"
answer_words Taken = codes "taken"
answer_words (Refused f) = codes "refused " ++ decimal (told f).number
answer_words OutOfTurn = codes "out of turn"

abbrev pub keeper_words : Keeper → List ℕ
keeper_words (AtReady k) = codes "ready in " ++ decimal k.state
keeper_words (AtWaiting k) = codes "waiting in " ++ (decimal k.state ++ (codes " after move " ++ decimal k.mv))
