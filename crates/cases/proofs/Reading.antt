-- Numbers, words and runs read from a text.
use Rattle.std.proofs.Common.{◌≡◌, ℕ, ◌^◌, ◌<◌, ◌&&◌, Bool, true, false, cond, nat_lt, length, List, Result, Ok, Err, Some, None, Decides, refl, ap}
use Rattle.std.specs.Str.{all_ascii_digits}
use Rattle.std.specs.Result.{OkIff, result_ok}
use Rattle.std.specs.Str.Parse.{digits_value, without_leading_plus, IsNumeral, ParsesUnsigned}
use Rattle.std.proofs.lemmas.Str.Parse.{IsNumeralModel, numerals_by_value, tells_all_ascii_digits}
use Rattle.std.proofs.lemmas.Bool.Decides.{Decides-and, Decides-ltb, Decides-like}
use Rattle.cases.specs.Words.{number_in, number_of}

pub own : IsNumeralModel (λ ds. all_ascii_digits ds ≡ true) (digits_value 10)
own = numerals_by_value _ tells_all_ascii_digits

abbrev pub is_number : List ℕ → Bool
is_number ds = nat_lt 0 (length ds) && all_ascii_digits ds && nat_lt (digits_value 10 ds) (2 ^ 16)

abbrev pub IsNumber : List ℕ → Type 0
IsNumber ds = IsNumeral 10 ds × (digits_value 10 ds < 2 ^ 16)

pub is_number-decides : (ds : List ℕ) → Decides (is_number ds) (IsNumber ds)
is_number-decides ds =
    let digits : Decides (all_ascii_digits ds) (all_ascii_digits ds ≡ true) = (λ e. e, λ e. e) in
    let all = Decides-and _ _ (Decides-and _ _ (Decides-ltb 0 (length ds)) digits) (Decides-ltb (digits_value 10 ds) (2 ^ 16)) in
    Decides-like _ (λ h. ((h.0.0, own.to ds h.0.1), h.1)) (λ h. ((h.0.0, own.from ds h.0.1), h.1)) all

number_by : {E : Type 0} (ds : List ℕ) (r : Result ℕ E) → OkIff r (IsNumber ds) (digits_value 10 ds) → result_ok r ≡ number_in ds
number_by ds (Ok x) h =
    let yes : is_number ds ≡ true = (is_number-decides ds).1 h.0 in
    rw yes (ap (λ v. Some v) h.1)
number_by ds (Err e) h = elim (is_number ds) as (λ b. Decides b (IsNumber ds) → None ≡ cond b (Some (digits_value 10 ds)) None) [
  | true ↦ λ d. absurd (h (d.0 refl))
  | false ↦ λ d. refl
] (is_number-decides ds)

pub number_from_parse : {E : Type 0} (text : List ℕ) (r : Result ℕ E) → ParsesUnsigned 16 10 text r → result_ok r ≡ number_of text
number_from_parse text r h = number_by (without_leading_plus text) r h
