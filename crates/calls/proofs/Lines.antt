-- How the line of a call comes apart at its blanks, and goes together again.
use Rattle.std.proofs.Common.{◌≡◌, ◌≢◌, ℕ, ◌<◌, ◌^◌, List, [], ◌∷◌, ◌++◌, length, get_or, drop, Some, None, Bor, codes, decimal, sym, refl, ap, subst, ◌∙◌, arith}
use Rattle.std.proofs.lemmas.Str.Pattern.{IsSplitOnceResult, split_after, split_parts}
use Rattle.std.proofs.lemmas.List.{get_or_at}
use Rattle.std.proofs.lemmas.Grind.{common_steps}
use Rattle.keeper.specs.declared.service.Call.{Call}
use Rattle.keeper.specs.declared.service.Call.TheVariants.{Permits, Pick, Grant, Report, PermitsIn, Spoiler}
use Rattle.keeper.specs.Words.{in_state}
use Rattle.calls.specs.Reading.{CallLine, Numbered, Placed}
use Rattle.calls.proofs.Numerals.{no_blank}

-- the words of a call before its first blank, and after it
abbrev first_word : Call → List ℕ
first_word (Permits m) = codes "permits"
first_word Pick = codes "pick"
first_word (Grant m) = codes "grant"
first_word (Report t) = codes "report"
first_word (PermitsIn s m) = codes "permits"
first_word (Spoiler s m) = codes "spoiler"

abbrev other_words : Call → List ℕ
other_words (Permits m) = decimal m
other_words Pick = []
other_words (Grant m) = decimal m
other_words (Report t) = decimal t
other_words (PermitsIn s m) = in_state m s
other_words (Spoiler s m) = in_state m s

first_has_no_blank : (c : Call) (i : ℕ) → i < length (first_word c) → get_or (first_word c) i 0 ≢ 32
first_has_no_blank (Permits m) i lt = grind (arith, common_steps)
first_has_no_blank Pick i lt = grind (arith, common_steps)
first_has_no_blank (Grant m) i lt = grind (arith, common_steps)
first_has_no_blank (Report t) i lt = grind (arith, common_steps)
first_has_no_blank (PermitsIn s m) i lt = grind (arith, common_steps)
first_has_no_blank (Spoiler s m) i lt = grind (arith, common_steps)

-- a text that is cut at its first blank is no number
no_number : (text : List ℕ) (x y : Bor (List ℕ)) → IsSplitOnceResult 32 text (Some (x, y)) →
    (n : ℕ) → n < 2 ^ 64 → text ≡ decimal n → ⊥
no_number text x y split n small e =
    let whole = sym e ∙ (split_parts 32 text (Some (x, y)) split (omega arith)).0 in
    no_blank n small (length x.now) (rw whole (grind (arith, common_steps))) (rw whole (get_or_at x.now 32 y.now 0 (length x.now) refl))

-- a line that is not `pick`, cut at its first blank
module _ (line : List ℕ) (name numbers : Bor (List ℕ)) (split : IsSplitOnceResult 32 line (Some (name, numbers)))
    (no_pick : line ≢ codes "pick") where
  cut : (c : Call) → line ≡ first_word c ++ (32 ∷ other_words c) → (name.now ≡ first_word c) × (numbers.now ≡ other_words c)
  cut c e = split_after 32 line (first_word c) (other_words c) (Some (name, numbers)) split (omega arith) e (first_has_no_blank c)

  -- with no second blank it is a call that names one number
  pub numbered : IsSplitOnceResult 32 numbers.now None → (c : Call) → CallLine line c → Numbered name.now numbers.now c
  numbered none (Permits m) is = let p = cut (Permits m) is.printed in (p.0, record { small = is.small; printed = p.1 })
  numbered none Pick is = no_pick is.printed
  numbered none (Grant m) is = let p = cut (Grant m) is.printed in (p.0, record { small = is.small; printed = p.1 })
  numbered none (Report t) is = let p = cut (Report t) is.printed in (p.0, record { small = is.small; printed = p.1 })
  numbered none (PermitsIn s m) is =
      split_after 32 numbers.now (decimal m) (codes "in " ++ decimal s) None none (omega arith) (cut (PermitsIn s m) is.printed).1 (no_blank m is.small.1)
  numbered none (Spoiler s m) is =
      split_after 32 numbers.now (decimal m) (codes "in " ++ decimal s) None none (omega arith) (cut (Spoiler s m) is.printed).1 (no_blank m is.small.1)

  -- with one it is a call that names a move and, after `in`, a state
  pub with_state : (mv place : Bor (List ℕ)) → IsSplitOnceResult 32 numbers.now (Some (mv, place)) → (c : Call) → CallLine line c →
      (state : List ℕ) × (place.now ≡ codes "in " ++ state) × Placed name.now mv.now state c
  with_state mv place again (PermitsIn s m) is =
      let p = cut (PermitsIn s m) is.printed in
      let q = split_after 32 numbers.now (decimal m) (codes "in " ++ decimal s) (Some (mv, place)) again (omega arith) p.1 (no_blank m is.small.1) in
      (decimal s, q.1, (p.0, record { small = is.small.1; printed = q.0 }, record { small = is.small.0; printed = refl }))
  with_state mv place again (Spoiler s m) is =
      let p = cut (Spoiler s m) is.printed in
      let q = split_after 32 numbers.now (decimal m) (codes "in " ++ decimal s) (Some (mv, place)) again (omega arith) p.1 (no_blank m is.small.1) in
      (decimal s, q.1, (p.0, record { small = is.small.1; printed = q.0 }, record { small = is.small.0; printed = refl }))
  with_state mv place again (Permits m) is = absurd (no_number numbers.now mv place again m is.small (cut (Permits m) is.printed).1)
  with_state mv place again Pick is = absurd (no_pick is.printed)
  with_state mv place again (Grant m) is = absurd (no_number numbers.now mv place again m is.small (cut (Grant m) is.printed).1)
  with_state mv place again (Report t) is = absurd (no_number numbers.now mv place again t is.small (cut (Report t) is.printed).1)

  pub placed : (mv place : Bor (List ℕ)) (state : List ℕ) → IsSplitOnceResult 32 numbers.now (Some (mv, place)) →
      place.now ≡ codes "in " ++ state → (c : Call) → CallLine line c → Placed name.now mv.now state c
  placed mv place state again after c is =
      let found = with_state mv place again c is in
      subst (λ t. Placed name.now mv.now t c) (ap (drop 3) (sym found.1 ∙ after)) found.2

-- the line of a call that names one number
pub line_of_numbered : (line name numbers : List ℕ) → line ≡ name ++ (32 ∷ numbers) → (c : Call) → Numbered name numbers c → CallLine line c
line_of_numbered line name numbers e (Permits m) is = record { small = is.1.small; printed = rw (e, is.0, is.1.printed) refl }
line_of_numbered line name numbers e (Grant m) is = record { small = is.1.small; printed = rw (e, is.0, is.1.printed) refl }
line_of_numbered line name numbers e (Report t) is = record { small = is.1.small; printed = rw (e, is.0, is.1.printed) refl }
line_of_numbered line name numbers e Pick is = absurd is
line_of_numbered line name numbers e (PermitsIn s m) is = absurd is
line_of_numbered line name numbers e (Spoiler s m) is = absurd is

-- the line of a call that names a move and a state
pub line_of_placed : (line name mv state : List ℕ) → line ≡ name ++ (32 ∷ (mv ++ (32 ∷ (codes "in " ++ state)))) →
    (c : Call) → Placed name mv state c → CallLine line c
line_of_placed line name mv state e (PermitsIn s m) is = record { small = (is.2.small, is.1.small); printed = rw (e, is.0, is.1.printed, is.2.printed) refl }
line_of_placed line name mv state e (Spoiler s m) is = record { small = (is.2.small, is.1.small); printed = rw (e, is.0, is.1.printed, is.2.printed) refl }
line_of_placed line name mv state e (Permits m) is = absurd is
line_of_placed line name mv state e Pick is = absurd is
line_of_placed line name mv state e (Grant m) is = absurd is
line_of_placed line name mv state e (Report t) is = absurd is
