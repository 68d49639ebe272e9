-- What is told of a play's jams.
use Rattle.std.proofs.Common.{◌≡◌, ℕ, ◌<◌, Bool, true, false, ◌||◌, List, [], ◌∷◌, sym, refl, ap, ◌∙◌}
use Rattle.std.specs.List.{list_any}
use Rattle.traffic.specs.Meaning.{Meaning, Lawful, jam}
use Rattle.traffic.specs.Answered.{within_limits, due_of}
use Rattle.traffic.proofs.Asked.{due_is}
use Rattle.game.specs.Plays.{Past, begin, after, Play, NoJamMet}
use Rattle.course.specs.declared.check.Check.{Check}
use Rattle.course.specs.Courses.{grown}
use Rattle.course.specs.Account.{jam_told, meets_jam, TellsJam}

or_false : (a b : Bool) → a ≡ false → b ≡ false → (a || b) ≡ false
or_false a b e f = rw (e, f) refl

first_false : (a b : Bool) → (a || b) ≡ false → a ≡ false
first_false true b e = e
first_false false b e = refl

second_false : (a b : Bool) → (a || b) ≡ false → b ≡ false
second_false true b e = absurd (cc)
second_false false b e = e

module _ (M : Meaning) (law : Lawful M) (limits : within_limits M ≡ true) where
  told : (s : ℕ) → s < M.states → jam_told (due_of M s) ≡ jam M s
  unfolding jam
  told s h = ap jam_told (due_is M s limits h)

  abbrev test : Check → Bool
  test c = jam_told (due_of M c.next)

  before : (cs : List Check) (p : Past) → Play M (grown p cs) → Play M p
  before [] p h = h
  before (c ∷ cs) p h = (before cs (after p c.mv c.next) h).0

  told_next : (c : Check) (cs : List Check) (p : Past) → Play M (grown p (c ∷ cs)) → jam_told (due_of M c.next) ≡ jam M c.next
  told_next c cs p h = told c.next (law.leads_within _ _ _ (before cs (after p c.mv c.next) h).2).2

  forth : (cs : List Check) (p : Past) → Play M (grown p cs) → NoJamMet M p → list_any test cs ≡ false → NoJamMet M (grown p cs)
  forth [] p h calm e = calm
  forth (c ∷ cs) p h calm e =
      forth cs (after p c.mv c.next) h (calm, sym (told_next c cs p h) ∙ first_false _ _ e) (second_false _ _ e)

  back : (cs : List Check) (p : Past) → Play M (grown p cs) → NoJamMet M (grown p cs) → NoJamMet M p × (list_any test cs ≡ false)
  back [] p h calm = (calm, refl)
  back (c ∷ cs) p h calm =
      let w = back cs (after p c.mv c.next) h calm in
      (w.0.0, or_false _ _ (told_next c cs p h ∙ w.0.1) w.1)

pub tells : (M : Meaning) → Lawful M → (start : ℕ) (cs : List Check) (met : Bool) → met ≡ meets_jam M start cs → TellsJam M start cs met
tells M law start cs met e limits plays =
    let inside : start < M.states = before M law limits cs (begin start) plays in (
      λ f.
          let none = sym e ∙ f in
          forth M law limits cs (begin start) plays (sym (told M law limits start inside) ∙ first_false _ _ none) (second_false _ _ none),
      λ calm. let w = back M law limits cs (begin start) plays calm in e ∙ or_false _ _ (told M law limits start inside ∙ w.0) w.1,
    )
