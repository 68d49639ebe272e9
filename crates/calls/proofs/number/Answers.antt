use Rattle.std.proofs.Common.{arith, inl, inr}
use Rattle.std.proofs.lemmas.Bool.{both_ways}
use Rattle.std.proofs.lemmas.Option.{none-some}
use Rattle.std.proofs.lemmas.Str.Pattern.{starts_char}
use Rattle.calls.proofs.Numerals.{no_plus, no_zero_first, read_plain}
use Rattle.calls.proofs.number.Goals as goal
use Rattle.calls.proofs.number.Goals.{then-starts_with-via-then-starts_with, then-starts_with-via-else-starts_with+then-word-gt1}

pub returns-then-starts_with : goal.returns-then-starts_with
returns-then-starts_with c = λ x. (
  λ some. absurd (none-some x some),
  λ is. absurd (elim c.then-starts_with.branch [
    | then-starts_with-via-then-starts_with w ↦
        no_plus _ x ((starts_char 43 _ _ c.starts_with.ensures.cases (omega arith) (omega arith)).0 w.if-starts_with.true) is
    | then-starts_with-via-else-starts_with+then-word-gt1 w ↦
        no_zero_first _ x ((starts_char 48 _ _ w.starts_with-else-starts_with.ensures.cases (omega arith) (omega arith)).0 w.if-word-gt1.true.0) w.if-word-gt1.true.1 is
  ]),
)

pub returns : goal.returns
returns c =
    rw c.ok.ensures.value (read_plain _ c.args.word.now c.parse.result c.parse.ensures.value.0
    (λ plus. both_ways _ c.if-starts_with.false ((starts_char 43 _ _ c.starts_with.ensures.cases (omega arith) (omega arith)).1 plus))
    (λ zero. elim c.if-word-gt1.either [
      | inl one_digit ↦ one_digit.1
      | inr other ↦ absurd (both_ways _ other ((starts_char 48 _ _ c.starts_with-else-starts_with.ensures.cases (omega arith) (omega arith)).1 zero))
    ]))
