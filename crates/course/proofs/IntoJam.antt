-- Where there is no schedule, the lowest legal moves against the spoiler end in a jam within the count.
use Rattle.std.proofs.Common.{◌≡◌, ℕ, zero, suc, ◌<◌, ◌≤◌, true, List, [], length, take, drop, Some, None, Ok, Err, Option, Result, sym, refl, ap, ◌∙◌, subst, inl, inr, arith}
use Rattle.std.proofs.Math.Seq.{take-append_seam}
use Rattle.std.proofs.lemmas.Bool.{both_ways, cases_Bool}
use Rattle.traffic.specs.Meaning.{Meaning, Lawful, legal, jam}
use Rattle.traffic.specs.Answered.{within_limits}
use Rattle.traffic.specs.Refusals.{unless}
use Rattle.game.specs.declared.map_fault.MapFault.{MapFault}
use Rattle.game.specs.Game.{mark}
use Rattle.game.specs.Choice.{spoiler_by}
use Rattle.game.specs.Plays.{Past, begin, after, last, Play}
use Rattle.game.specs.Standing.{on}
use Rattle.game.specs.Maps.{turned_away, unless_turned_away, Filled}
use Rattle.game.proofs.Kept.{legal_no_jam}
use Rattle.game.proofs.Rules.{some_legal}
use Rattle.game.proofs.Admitted.{answered, admitted, not_turned_away}
use Rattle.game.proofs.Choosing.{spoiler_same}
use Rattle.game.proofs.Counsel.{leads_down}
use Rattle.course.specs.declared.check.Check.{Check}
use Rattle.course.specs.Courses.{grown, Lowest}
use Rattle.course.specs.Lost.{lost_check, lost_play, play_written, Spoiled, AllSpoiled, LostPlay, PlaysIntoJam}
use Rattle.course.proofs.Replying.{spoiled_reply}
use Rattle.course.proofs.Slotting.{reply_same}
use Rattle.course.proofs.Legals.{is_lost, no_check}
use Rattle.course.proofs.Losing.{none_left, first_check}

above : (n : ℕ) → 0 < n → (j : ℕ) × (n ≡ suc j)
above zero h = absurd (omega arith)
above (suc j) h = (j, refl)

-- what a past becomes by these checks, where so many lead to a jam
record Losing (M : Meaning) (cs : List Check) (room : ℕ) (p : Past) (k : ℕ) : Type 0 where
  pub plays : Play M (grown p cs)
  pub made : AllSpoiled M p cs
  pub short : length cs ≤ k
  pub ends : k ≤ room → jam M (last (grown p cs)) ≡ true

module _ (M : Meaning) (law : Lawful M) (map : List ℕ) (full : Filled M map) (limits : within_limits M ≡ true) (room : M.states ≤ length map) where
  down : (s m : ℕ) → s < M.states → 0 < mark M s → legal M s m ≡ true → (t : ℕ) × (spoiler_by M (mark M) s m ≡ Some t) × (M.leads s m t ≡ true) × (0 < mark M t) × (mark M t < mark M s)
  down s m h l ok =
      let none = not_turned_away M (length map) s (record { limits = limits; room = room; inside = h }) in
      let w = leads_down M law map full s m (Ok (spoiler_by M (on map) s m)) (sym (ap (λ o. unless Err o (Ok (spoiler_by M (on map) s m))) none)) (spoiler_by M (on map) s m) refl l ok in
      (w.0, sym (spoiler_same M (on map) (mark M) full s m) ∙ w.1, w.2, w.3, w.4)

  abbrev Descent : ℕ → Type 0
  Descent n = (p : Past) (s k : ℕ) → last p ≡ s → s < M.states → mark M s ≡ suc k → Play M p → Losing M (lost_play M (on map) n s) n p k

  ended : (n : ℕ) (p : Past) (s k : ℕ) → last p ≡ s → Play M p → (k ≤ n → jam M s ≡ true) → Losing M [] n p k
  ended n p s k e plays j = record { plays = plays; made = tt; short = omega arith; ends = λ h. ap (jam M) e ∙ j h }

  last_jam : (s k : ℕ) → s < M.states → mark M s ≡ suc k → k ≤ 0 → jam M s ≡ true
  last_jam s k h e l =
      elim (cases_Bool (jam M s)) [
        | inl j ↦ j
        | inr j ↦
            let w = some_legal M law s h j in
            let d = down s w.0 h (omega arith) w.1 in
            absurd (omega (arith, d.3, d.4))
      ]

  made_by : (p : Past) (s : ℕ) (c : Check) → last p ≡ s → s < M.states → 0 < mark M s → lost_check M (on map) s ≡ Some c → Spoiled M p c × (M.leads s c.mv c.next ≡ true) × (legal M s c.mv ≡ true) × (c.next < M.states) × (0 < mark M c.next) × (mark M c.next < mark M s)
  made_by p s c e h l q =
      let f = is_lost M (on map) s law c q in
      let d = down s c.mv h l f.allowed in
      let same : d.0 ≡ c.next = spoiled_reply M (mark M) s c.mv d.0 c.next d.1 (sym (reply_same M map full s c.mv) ∙ f.reply) in (
        record {
          from_last = f.from ∙ sym e;
          no_jam = ap (jam M) f.from ∙ legal_no_jam M law s c.mv f.allowed;
          lowest = subst (λ x. Lowest (λ m. legal M x m ≡ true) c.mv) (sym f.from) (f.allowed, λ j b w. both_ways _ (f.lowest j b) w);
          replied = ap (λ x. spoiler_by M (mark M) x c.mv) f.from ∙ d.1 ∙ ap Some same;
        },
        f.leads,
        f.allowed,
        f.inside,
        subst (λ t. 0 < mark M t) same d.3,
        subst (λ t. mark M t < mark M s) same d.4,
      )

  step : (n : ℕ) → Descent n → Descent (suc n)
  step n more p s k e h z plays = go (lost_check M (on map) s) refl
    where
      go : (o : Option Check) → lost_check M (on map) s ≡ o → Losing M (lost_play M (on map) (suc n) s) (suc n) p k
      go None q =
          subst (λ cs. Losing M cs (suc n) p k) (sym (none_left M (on map) s q (suc n)))
          (ended (suc n) p s k e plays (λ _. no_check M (on map) s law h q))
      go (Some c) q =
          let w = made_by p s c e h (omega arith) q in
          let j = above (mark M c.next) w.4 in
          let low : suc j.0 < suc k = omega (arith, w.5, j.1) in
          let l = more (after p c.mv c.next) c.next j.0 refl w.3 j.1 (plays, subst (λ x. legal M x c.mv ≡ true) (sym e) w.2, subst (λ x. M.leads x c.mv c.next ≡ true) (sym e) w.1) in
          subst (λ cs. Losing M cs (suc n) p k) (sym (first_check M (on map) s c n q))
          (record { plays = l.plays; made = (w.0, l.made); short = omega (arith, l.short); ends = λ b. l.ends (omega arith) })

  base : Descent zero
  unfolding lost_play
  base p s k e h z plays = ended 0 p s k e plays (last_jam s k h z)

  descends : (n : ℕ) → Descent n
  descends zero = base
  descends (suc n) = step n (descends n)

  pub lost : (n start count : ℕ) → start < M.states → mark M start ≡ suc count → LostPlay M start count n (lost_play M (on map) n start)
  lost n start count h z =
      let l = descends n (begin start) start count refl h z h in
      record { plays = l.plays; made = l.made; short = l.short; ends = l.ends }

pub into_jam : (M : Meaning) → Lawful M → (map : List ℕ) (start : ℕ) (before cs : List Check) (r : Result ℕ MapFault) → r ≡ unless_turned_away M map start (length (lost_play M (on map) (length before) start)) → cs ≡ unless (λ f. before) (turned_away M (length map) start) (play_written (lost_play M (on map) (length before) start) before) → Filled M map → PlaysIntoJam M start (length before) cs r
into_jam M law map start before cs r e f full n count q z =
    let play : List Check = lost_play M (on map) (length before) start in
    let known = answered _ _ _ (sym q ∙ e) in
    let a = admitted M (length map) start known.0 in
    let is : cs ≡ play_written play before = f ∙ ap (λ o. unless (λ f. before) o (play_written play before)) known.0 in
    let same : take n cs ≡ play = ap (take n) is ∙ ap (λ k. take k (play_written play before)) known.1 ∙ take-append_seam play (drop (length play) before) in
    subst (LostPlay M start count (length before)) (sym same) (lost M law map full a.limits a.room (length before) start count a.inside z)
