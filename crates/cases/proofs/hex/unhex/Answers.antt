use Rattle.std.proofs.Common.{sym, ◌∙◌}
use Rattle.cases.proofs.Ends.{one_byte_more}
use Rattle.cases.proofs.hex.unhex.Goals as goal

pub loop-rest-preserved : goal.loop-rest-preserved
loop-rest-preserved c =
    let more =
    one_byte_more c.loop-rest.bytes.items c.loop-rest.rest.now c.in-Some.b c.in-len2-up.len_at_least
    (sym c.byte.ensures ∙ c.in-Some.is) in
    rw c.in_ok-push.ensures.items (more ∙ c.loop-rest.invariant)
