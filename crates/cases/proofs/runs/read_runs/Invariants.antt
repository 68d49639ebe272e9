use Rattle.std.proofs.Common.{◌≡◌, length, drop}
use Rattle.std.specs.List.{slice_split}
use Rattle.cases.specs.Words.{is_blank, runs_in}
use Rattle.cases.proofs.Ends.{behind}
use Rattle.cases.proofs.runs.read_runs.Given as goal

-- the runs read, and those of the words that are left, are those of the text
abbrev pub invariant-loop-word : goal.invariant-loop-word
invariant-loop-word l =
    let words = slice_split is_blank l.fn.text in
    behind l.runs.items (runs_in (drop (length l.yielded) words)) ≡ runs_in words
