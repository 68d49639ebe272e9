-- Calls performed one by one are the row of calls performed.
use Rattle.std.proofs.Common.{◌≡◌, ℕ, ◌+◌, ◌<◌, ◌≤◌, List, [], ◌∷◌, ◌++◌, length, get_or, set, take, drop, Some, sym, ap, ◌∙◌, arith}
use Rattle.std.proofs.lemmas.List.{append_assoc, append-nil, at_drop_more, at_drop_all, drop-set-lt, take_all, take_more_set}
use Rattle.traffic.specs.Meaning.{Meaning}
use Rattle.keeper.specs.declared.service.Keeper.{Keeper}
use Rattle.keeper.specs.declared.service.Answer.{Answer}
use Rattle.keeper.specs.declared.service.Exchange.{Exchange}
use Rattle.keeper.specs.Service.{calls, stepped, answered, after_calls}

module _ (M : Meaning) (map : List ℕ) (k : Keeper) (row : List Exchange) (i : ℕ) (d : Exchange) (r : Keeper × Answer) (h : i < length row) (e : r ≡ stepped M map k (get_or row i d).call) where
  -- the exchange that was called, with its answer
  abbrev done : Exchange
  done = record { call = (get_or row i d).call; answer = Some r.1 }

  rest : drop (i + 1) (set row i done) ≡ drop (i + 1) row
  rest = drop-set-lt (i + 1) row i done (omega arith)

  pub keeper_more : after_calls M map r.0 (calls (drop (i + 1) (set row i done))) ≡ after_calls M map k (calls (drop i row))
  keeper_more = rw rest (cc (at_drop_more (λ xs. after_calls M map k (calls xs)) row i d h))

  pub row_more : take (i + 1) (set row i done) ++ answered M map r.0 (drop (i + 1) (set row i done)) ≡ take i row ++ answered M map k (drop i row)
  row_more =
      rw (rest, take_more_set row i done h)
      (append_assoc (take i row) (done ∷ []) _
      ∙ ap (λ l. take i row ++ l)
      (let q : done ∷ answered M map r.0 (drop (i + 1) row) ≡ answered M map k (drop i row) = cc (at_drop_more (answered M map k) row i d h) in q))

-- behind the last call the whole row is done
module _ (M : Meaning) (map : List ℕ) (k : Keeper) (row : List Exchange) (i : ℕ) (h : length row ≤ i) where
  pub keeper_done : k ≡ after_calls M map k (calls (drop i row))
  keeper_done = sym (at_drop_all (λ xs. after_calls M map k (calls xs)) row i h)

  pub row_done : row ≡ take i row ++ answered M map k (drop i row)
  row_done = rw (take_all i row h) (sym (append-nil row) ∙ ap (λ l. row ++ l) (sym (at_drop_all (answered M map k) row i h)))
