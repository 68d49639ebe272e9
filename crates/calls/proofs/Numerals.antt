-- Which words are numbers, and which are not although `parse` takes them.
use Rattle.std.proofs.Common.{◌≡◌, ◌≢◌, ℕ, ◌^◌, ◌<◌, ◌≤◌, zero, suc, List, length, get_or, Some, Result, Ok, Err, decimal, sym, ap, subst, ◌∙◌, arith}
use Rattle.std.specs.Result.{result_ok}
use Rattle.std.specs.Str.Parse.{AllDigits, digits_value, ParsesUnsigned}
use Rattle.std.proofs.lemmas.Str.Parse.{IsNumeralModel, numerals_by_value, tells_digits, digit_at, not_in_digits, parse_plain}
use Rattle.std.proofs.lemmas.Fmt.{digits_decimal, digits_value-decimal, decimal_nonempty, decimal_digit, first_decimal, decimal-digits_value, decimal_injective}
use Rattle.std.proofs.lemmas.Option.{none-some, same_Some}
use Rattle.calls.specs.Reading.{Finds, Numeral}

numerals : IsNumeralModel (AllDigits 10) (digits_value 10)
numerals = numerals_by_value _ tells_digits

-- no blank stands in a number
pub no_blank : (n : ℕ) → n < 2 ^ 64 → (i : ℕ) → i < length (decimal n) → get_or (decimal n) i 0 ≢ 32
no_blank n small = not_in_digits numerals (decimal n) 32 (digits_decimal numerals n small) (λ digit. omega (arith, digit.0))

-- a plus stands in no number
pub no_plus : (word : List ℕ) (n : ℕ) → get_or word 0 0 ≡ 43 → Numeral word n → ⊥
no_plus word n plus is =
    let digit = digit_at (decimal n) 0 (digits_decimal numerals n is.small) (decimal_nonempty n is.small) in
    let first = rw is.printed at plus in
    omega (arith, digit.0, first)

-- no digit follows a zero
pub no_zero_first : (word : List ℕ) (n : ℕ) → get_or word 0 0 ≡ 48 → 1 < length word → Numeral word n → ⊥
no_zero_first word zero first more is = let one = ap length (is.printed ∙ decimal_digit 0 (omega arith)) in omega (arith, one, more)
no_zero_first word (suc n) first more is =
    let above = first_decimal (suc n) (omega arith) is.small in
    let same = rw is.printed at first in
    omega (arith, above, same)

-- what else is read
pub read_plain : (E : Type 0) (word : List ℕ) (r : Result ℕ E) → ParsesUnsigned 64 10 word r →
    get_or word 0 0 ≢ 43 → (get_or word 0 0 ≡ 48 → length word ≤ 1) → Finds (Numeral word) (result_ok r)
read_plain E word (Ok n) parsed plus zeros x =
    let p = parse_plain numerals {E = E} 64 word (Ok n) parsed plus in
    let digits = p.0.0 in
    let some = p.0.1 in
    let small = p.0.2 in
    let own = decimal-digits_value numerals word digits some (λ zero. let few = zeros zero in omega (arith, few, some)) small in (
      λ e. subst (Numeral word) (same_Some n x e) (record { small = rw p.1 small; printed = rw p.1 (sym own) }),
      λ is. ap Some (p.1 ∙ decimal_injective _ x small is.small (own ∙ is.printed)),
    )
read_plain E word (Err e) parsed plus zeros x =
    let p = parse_plain numerals {E = E} 64 word (Err e) parsed plus in (
      λ none. absurd (none-some x none),
      λ is. absurd (p (subst (λ w. AllDigits 10 w × (0 < length w) × (digits_value 10 w < 2 ^ 64)) (sym is.printed)
          (digits_decimal numerals x is.small, decimal_nonempty x is.small, rw (digits_value-decimal numerals x is.small) is.small))),
    )
