-- Slots from a safe state are a play without a jam, and a keeper is armed only in a safe state.
use Rattle.std.proofs.Common.{◌≡◌, ℕ, zero, suc, ◌<◌, true, cond, List, length, Ok, Err, is_ok, Result, sym, refl, ap, ◌∙◌, subst, arith}
use Rattle.std.proofs.lemmas.Bool.{both_ways}
use Rattle.traffic.specs.Meaning.{Meaning, Lawful, legal}
use Rattle.game.specs.declared.solution.Tally.{Tally}
use Rattle.game.specs.declared.solution.Refusal.{Refusal}
use Rattle.game.specs.Game.{mark}
use Rattle.game.specs.Plays.{Past, begin, after, last, Play, NoJamMet, Safe}
use Rattle.game.specs.Maps.{Filled}
use Rattle.game.specs.Filling.{filled}
use Rattle.game.specs.Answers.{tally, judged, solved, map_after}
use Rattle.game.proofs.Admitted.{Admitted, admitted}
use Rattle.game.proofs.Filled.{filled_is}
use Rattle.game.proofs.Solved.{open_solved, solved_open, map_open}
use Rattle.game.proofs.Rounds.{unmarked_lasts}
use Rattle.game.proofs.Rules.{lasts_no_jam, marks_tell}
use Rattle.game.proofs.Choosing.{pick_found}
use Rattle.keeper.specs.declared.arming.Armed.{Armed}
use Rattle.keeper.specs.Arming.{armed}
use Rattle.course.specs.declared.check.Check.{Check}
use Rattle.course.specs.Courses.{grown, Made, AllMade}
use Rattle.course.specs.Slots.{SafeOn, picked, slot, slots, state_after, record_after, SafeCourse, RunsSlots}
use Rattle.course.proofs.Replying.{replies}
use Rattle.course.proofs.Slotting.{picked_is, picked_permitted, picked_legal, next_is, next_leads, next_inside, next_unmarked}

-- what a past becomes by so many slots
record Grows (M : Meaning) (n : ℕ) (p : Past) (s : ℕ) : Type 0 where
  pub plays : Play M (grown p (slots M n s))
  pub no_jam : NoJamMet M (grown p (slots M n s))
  pub made : AllMade M (Safe M) p (slots M n s)
  pub ends : state_after M n s ≡ last (grown p (slots M n s))

module _ (M : Meaning) (law : Lawful M) where
  slot_made : (p : Past) (s : ℕ) → last p ≡ s → s < M.states → mark M s ≡ 0 → Made M (Safe M) p (slot M s)
  slot_made p s e h z =
      let tell = (marks_tell M law).permit in
      record {
        from_last = sym e;
        lowest = (
          (tell s (picked M s) h).0 (picked_permitted M law s h z),
          λ j l w. both_ways _ ((pick_found M (mark M) s (picked M s) (picked_is M law s h z)).1 j l) ((tell s j h).1 w),
        );
        replied = replies M s (picked M s) (slot M s).next (next_is M law s h z);
      }

  grows : (n : ℕ) (p : Past) (s : ℕ) → last p ≡ s → s < M.states → mark M s ≡ 0 → Play M p → NoJamMet M p → Grows M n p s
  unfolding slots state_after
  grows zero p s e h z plays calm = record { plays = plays; no_jam = calm; made = tt; ends = sym e }
  grows (suc n) p s e h z plays calm =
      let there = next_inside M law s h z in
      let safe = next_unmarked M law s h z in
      let more = grows n (after p (picked M s) (slot M s).next) (slot M s).next refl there safe
      (plays, subst (λ x. legal M x (picked M s) ≡ true) (sym e) (picked_legal M law s h z), subst (λ x. M.leads x (picked M s) (slot M s).next ≡ true) (sym e) (next_leads M law s h z))
      (calm, lasts_no_jam M (slot M s).next (unmarked_lasts M (slot M s).next there safe)) in
      record { plays = more.plays; no_jam = more.no_jam; made = (slot_made p s e h z, more.made); ends = more.ends }

  -- the slots from a safe state are a safe course
  pub safe_course : (n start : ℕ) → start < M.states → mark M start ≡ 0 → (t : Tally) → SafeCourse M start (slots M n start) (record { keeper = record { state = state_after M n start }; tally = t })
  safe_course n start h z t =
      let g = grows n (begin start) start refl h z h (lasts_no_jam M start (unmarked_lasts M start h z)) in
      record { plays = g.plays; no_jam = g.no_jam; made = g.made; ends = g.ends }

module _ (M : Meaning) (start : ℕ) (before : List ℕ) where
  unmarked_by : (t : Tally) (k : ℕ) → judged k (tally M) ≡ Ok t → k ≡ 0
  unmarked_by t zero e = refl
  unmarked_by t (suc k) e = absurd (cc)

  -- where there is a schedule the start is a state of mark 0
  pub start_admitted : (t : Tally) → solved M start before ≡ Ok t → Admitted M (length before) start
  start_admitted t e = admitted M (length before) start (open_solved M start before t e)

  pub start_unmarked : (t : Tally) → solved M start before ≡ Ok t → mark M start ≡ 0
  start_unmarked t e =
      unmarked_by t (mark M start) (sym (solved_open M start before (open_solved M start before t e)) ∙ e)

  pub start_safe : (map : List ℕ) (t : Tally) → length map ≡ length before → solved M start before ≡ Ok t → map ≡ map_after M start before → SafeOn M map start
  start_safe map t long e f =
      let a = start_admitted t e in
      let is : map ≡ filled M before = f ∙ map_open M start before (open_solved M start before t e) in
      record {
        limits = a.limits;
        room = omega (arith, a.room);
        full = subst (Filled M) (sym is) (filled_is M before a.room);
        inside = a.inside;
        unmarked = start_unmarked t e;
      }

-- the tally that was found, where a keeper is armed
pub found : (start : ℕ) (a : Armed) (r : Result Tally Refusal) → Ok a ≡ armed start r → (r ≡ Ok a.tally) × (a.keeper.state ≡ start)
found start a (Ok t) e = let q : a ≡ record { keeper = record { state = start }; tally = t } = cc in (ap Ok (ap (λ (x : Armed). x.tally) (sym q)), ap (λ (x : Armed). x.keeper.state) q)
found start a (Err f) e = absurd (cc)

module _ (M : Meaning) (law : Lawful M) (start : ℕ) (before : List ℕ) (row cs : List Check) (r : Result Armed Refusal) (e : r ≡ armed (state_after M (length row) start) (solved M start before)) (f : cs ≡ record_after M start before row) where
  pub runs : RunsSlots M start cs r
  runs a q = go (solved M start before) refl
    where
      go : (o : Result Tally Refusal) → solved M start before ≡ o → SafeCourse M start cs a
      go (Ok t) w =
          let is : cs ≡ slots M (length row) start = f ∙ ap (λ x. cond (is_ok x) (slots M (length row) start) row) w in
          let same : Ok a ≡ armed (state_after M (length row) start) (Ok t) = sym q ∙ e ∙ ap (armed (state_after M (length row) start)) w in
          let b : a ≡ record { keeper = record { state = state_after M (length row) start }; tally = t } = cc in
          subst (λ x. SafeCourse M start x a) (sym is)
          (subst (SafeCourse M start (slots M (length row) start)) (sym b)
          (safe_course M law (length row) start (start_admitted M start before t w).inside (start_unmarked M start before t w) t))
      go (Err x) w =
          let same : Ok a ≡ armed (state_after M (length row) start) (Err x) = sym q ∙ e ∙ ap (armed (state_after M (length row) start)) w in
          absurd (cc)

-- the keeper that synthesis arms is ready in a safe state
pub armed_safe : (M : Meaning) (start : ℕ) (before map : List ℕ) (a : Armed) (r : Result Armed Refusal) → length map ≡ length before → r ≡ armed start (solved M start before) → r ≡ Ok a → map ≡ map_after M start before → SafeOn M map a.keeper.state
armed_safe M start before map a r long e q f =
    let w = found start a (solved M start before) (sym q ∙ e) in
    subst (SafeOn M map) (sym w.1) (start_safe M start before map a.tally long w.0 f)
