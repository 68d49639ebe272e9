use Rattle.std.proofs.Common.{take}
use Rattle.std.specs.Fmt.{HasWritten, IsPlainFormatter}
use Rattle.course.specs.Words.{sends_words}
use Rattle.course.proofs.words.SendsDisplay.fmt.Given as goal

-- the lines of the loops so far are written
abbrev pub invariant-loop-before : goal.invariant-loop-before
invariant-loop-before g l =
    IsPlainFormatter l.initial.f → HasWritten g.W.Write.write_str_gives l.initial.f (sends_words (record { counts = take l.before l.self.counts })) l.f
