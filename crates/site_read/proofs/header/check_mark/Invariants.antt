use Rattle.std.proofs.Common.{◌≡◌}
use Rattle.site_read.specs.Header.{mark_fault}
use Rattle.site_read.proofs.Marks.{wrong_from}
use Rattle.site_read.proofs.header.check_mark.Given as goal

abbrev pub invariant-loop-at : goal.invariant-loop-at
invariant-loop-at l =
    (goal.iterator-loop-at).can_next l.at-iterator
    × (goal.iterator-loop-at).is_finite l.at-iterator
    × (mark_fault l.a l.b l.c ≡ wrong_from l.at-iterator.count l.at-iterator.iter.a.rest.now l.at-iterator.iter.b.rest.now)
