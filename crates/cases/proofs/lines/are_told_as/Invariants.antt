use Rattle.std.proofs.Common.{◌≡◌, ◌↔◌, length, drop, IsUtf8}
use Rattle.std.specs.Str.Lines.{lines}
use Rattle.cases.specs.Lines.{in_one, in_one_behind}
use Rattle.cases.proofs.lines.are_told_as.Given as goal

-- what is left tells the lines that are left, if all is told so
abbrev pub invariant-loop-line : goal.invariant-loop-line
invariant-loop-line l =
    IsUtf8 l.before × IsUtf8 l.rest
    × ((l.fn.told ≡ in_one (lines l.fn.text)) ↔ (l.rest ≡ in_one_behind l.before (drop (length l.yielded) (lines l.fn.text))))
