use Rattle.std.proofs.Common.{length, Some, None, sym, ◌∙◌, arith, rules}
use Rattle.std.specs.List.{slice_split}
use Rattle.std.proofs.lemmas.List.{length_push}
use Rattle.std.proofs.lemmas.Iterator.Consumers.{YieldsList-turn, YieldsList-end}
use Rattle.cases.specs.Words.{is_blank, runs_in}
use Rattle.cases.proofs.RunsRead.{behind_nothing, word_read, no_word, all_read, in_words, words_come}
use Rattle.cases.proofs.Words.{reads_back}
use Rattle.cases.proofs.runs.read_runs.Goals as goal

pub returns-then-is_empty-clause-printed : goal.returns-then-is_empty-clause-printed
returns-then-is_empty-clause-printed c = reads_back c.args.text.now (Some c.new-runs.result.items) (search rules)

pub loop-word-init : goal.loop-word-init
loop-word-init c = rw c.new-runs.ensures.items (behind_nothing (runs_in (slice_split is_blank c.args.text.now)))

pub returns-in_default-clause-read : goal.returns-in_default-clause-read
returns-in_default-clause-read c =
    let made = c.split-word-items in
    let come = words_come c.args.text.now _ made.result c.into_iter-word-iterator.ensures.into_iter_gives made.ensures.text made.ensures.has_more made.ensures.pattern in
    let turn = YieldsList-turn come c.loop-word.yielded _ c.loop-word.yielded_by _ _ c.in-Some.word c.in-Some.is c.next.ensures.steps in
    sym (in_words c.args.text.now (sym c.is_empty.ensures ∙ c.if-is_empty.false) ∙ sym c.loop-word.invariant
    ∙ no_word c.loop-word.runs.items _ (length c.loop-word.yielded) c.in-Some.word.now turn (sym c.in_default.is ∙ c.read_run.ensures))

pub returns-in_default-clause-printed : goal.returns-in_default-clause-printed
returns-in_default-clause-printed c = reads_back c.args.text.now None (returns-in_default-clause-read c)

pub loop-word-preserved : goal.loop-word-preserved
loop-word-preserved c =
    let made = c.split-word-items in
    let come = words_come c.args.text.now _ made.result c.into_iter-word-iterator.ensures.into_iter_gives made.ensures.text made.ensures.has_more made.ensures.pattern in
    let turn = YieldsList-turn come c.loop-word.yielded _ c.loop-word.yielded_by _ _ c.in-Some.word c.in-Some.is c.next.ensures.steps in
    let read = word_read c.loop-word.runs.items _ (length c.loop-word.yielded) _ c.in-Some.word.now c.in-Some-read_run.run' turn
    (length_push c.loop-word.yielded c.in-Some.word) (sym c.in-Some-read_run.is ∙ c.read_run.ensures) in
    rw c.in_ok-push.ensures.items (read ∙ c.loop-word.invariant)

pub returns-clause-read : goal.returns-clause-read
returns-clause-read c =
    let made = c.split-word-items in
    let come = words_come c.args.text.now _ made.result c.into_iter-word-iterator.ensures.into_iter_gives made.ensures.text made.ensures.has_more made.ensures.pattern in
    let end = YieldsList-end come c.loop-word.yielded _ c.loop-word.yielded_by _ _ c.in-None.is c.next.ensures.steps in
    sym (in_words c.args.text.now (sym c.is_empty.ensures ∙ c.if-is_empty.false) ∙ sym c.loop-word.invariant
    ∙ all_read c.loop-word.runs.items _ (length c.loop-word.yielded) (omega (arith, end.1)))

pub returns-clause-printed : goal.returns-clause-printed
returns-clause-printed c = reads_back c.args.text.now (Some c.loop-word.runs.items) (returns-clause-read c)
