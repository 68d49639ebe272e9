use Rattle.std.proofs.Common.{arith, rules, ◌≡◌, ◌++◌, codes, Some, sym, ◌∙◌}
use Rattle.std.proofs.lemmas.Str.Pattern.{split_parts}
use Rattle.std.proofs.lemmas.Option.{none-some}
use Rattle.calls.proofs.Lines.{numbered, with_state, placed, line_of_numbered, line_of_placed}
use Rattle.calls.proofs.read_call.Goals as goal

pub returns-in_err-strip_prefix-in-Some : goal.returns-in_err-strip_prefix-in-Some
returns-in_err-strip_prefix-in-Some c = λ x.
    let cut = c.in_ok-name.ensures.cases in
    let again = c.in-Some.ensures.cases in (
      λ some. absurd (none-some x (sym c.from_residual-in_err-strip_prefix-in-Some.ensures ∙ some)),
      λ is.
          let found = with_state c.args.line.now c.in_ok-name.name c.in_ok-name.numbers cut (search rules) c.in-Some.mv c.in-Some.place again x is in
          absurd (c.in_err-strip_prefix-in-Some.ensures.cases found.0 found.1),
    )

pub returns-in_ok-strip_prefix-in-Some : goal.returns-in_ok-strip_prefix-in-Some
returns-in_ok-strip_prefix-in-Some c = λ x.
    let name = c.in_ok-name.name in
    let numbers = c.in_ok-name.numbers in
    let cut = c.in_ok-name.ensures.cases in
    let mv = c.in-Some.mv in
    let place = c.in-Some.place in
    let again = c.in-Some.ensures.cases in
    let state = c.in_ok-strip_prefix-in-Some.field-0 in
    let strip = c.in_ok-strip_prefix-in-Some.ensures.cases in
    let line_parts = split_parts 32 c.args.line.now (Some (name, numbers)) cut (omega arith) in
    let number_parts = split_parts 32 numbers.now (Some (mv, place)) again (omega arith) in
    let after : place.now ≡ codes "in " ++ state.now = rw strip.2 strip.1.1 in (
      λ some. line_of_placed _ name.now mv.now state.now (rw (line_parts.0, number_parts.0, after)) x ((c.call_in.ensures x).0 some),
      λ is. (c.call_in.ensures x).1 (placed c.args.line.now name numbers cut (search rules) mv place state.now again after x is),
    )

pub returns-in-None : goal.returns-in-None
returns-in-None c = λ x.
    let name = c.in_ok-name.name in
    let numbers = c.in_ok-name.numbers in
    let cut = c.in_ok-name.ensures.cases in
    let parts = split_parts 32 c.args.line.now (Some (name, numbers)) cut (omega arith) in (
      λ some. line_of_numbered _ name.now numbers.now parts.0 x ((c.call_with.ensures x).0 some),
      λ is. (c.call_with.ensures x).1 (numbered c.args.line.now name numbers cut (search rules) c.in-None.ensures.cases x is),
    )
