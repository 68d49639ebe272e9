-- A row of calls that is served keeps the guarantee.
use Rattle.std.proofs.Common.{◌≡◌, ℕ, List, length, Ok, Err, is_ok, Result, sym, refl, ap, cond}
use Rattle.traffic.specs.Meaning.{Meaning, Lawful}
use Rattle.game.specs.declared.solution.Tally.{Tally}
use Rattle.game.specs.declared.solution.Refusal.{Refusal}
use Rattle.game.specs.Maps.{turned_away}
use Rattle.game.specs.Answers.{told, solved, map_after}
use Rattle.game.proofs.Solved.{open_solved}
use Rattle.keeper.specs.declared.serving.Served.{Served}
use Rattle.keeper.specs.declared.service.Exchange.{Exchange}
use Rattle.keeper.specs.Arming.{armed}
use Rattle.keeper.specs.Service.{calls, answers, answered, after_calls}
use Rattle.keeper.specs.Serving.{armed_at, served, served_from, row_after, KeptPromise}
use Rattle.keeper.proofs.Guaranteed.{promised}

module _ (M : Meaning) (law : Lawful M) (start : ℕ) (before after : List ℕ) (long : length after ≡ length before) (full : after ≡ map_after M start before) (row : List Exchange) where
  promise : (found : Result Tally Refusal) → solved M start before ≡ found → KeptPromise told (turned_away M (length before) start) M start after (calls row) (cond (is_ok found) (answered M after (armed_at start) row) row) (served_from found (after_calls M after (armed_at start) (calls row)))
  promise (Ok t) e =
      let none = open_solved M start before t e in
      let g = promised M law start before after _ long (sym (ap (armed start) e)) full none in
      let w = g.never_meets_a_jam _ refl (calls row) in
      (g, (w.0, answers M after (armed_at start) (calls row), refl, w.1))
  promise (Err f) e = promised M law start before after _ long (sym (ap (armed start) e)) full

  pub kept : (left : List Exchange) (r : Result Served Refusal) → r ≡ served M start before (calls row) → left ≡ row_after M start before row → KeptPromise told (turned_away M (length before) start) M start after (calls row) left r
  kept left r e f = rw (e, f, ← full) (promise _ refl)
