use Rattle.std.proofs.Common.{rules, eqb, tests}
use Rattle.std.proofs.lemmas.Iterator.{YieldsList-from_slice}
use Rattle.std.proofs.lemmas.Iterator.Search.{all_from_yields_List}
use Rattle.std.proofs.lemmas.Slice.Eq.{strip_prefix_is}
use Rattle.std.proofs.lemmas.Bool.Decides.{Decides-eqb}
use Rattle.cases.proofs.Buffers.{holds_by_rest}
use Rattle.cases.proofs.buffer.holds.Goals as goal

pub returns-in-Some : goal.returns-in-Some
returns-in-Some c =
    let buffer = c.args.buffer.now in
    let cut = rw c.in-Some.is at (strip_prefix_is Decides-eqb buffer c.args.file.now _ c.strip_prefix.ensures.cases) in
    let all =
    all_from_yields_List (λ b. eqb b c.args.behind) _ _ _ c.all.ensures.ran (YieldsList-from_slice c.in-Some.rest.now c.iter.ensures.rest)
    (λ x b q k. search (rules, tests)) in
    holds_by_rest buffer c.args.file.now c.in-Some.rest.now c.args.behind c.all.result cut all

pub returns-in-None : goal.returns-in-None
returns-in-None c =
    let buffer = c.args.buffer.now in
    let cut = rw c.in-None.is at (strip_prefix_is Decides-eqb buffer c.args.file.now _ c.strip_prefix.ensures.cases) in
    (λ e. absurd (search rules), λ p. absurd (cut _ p.1))
