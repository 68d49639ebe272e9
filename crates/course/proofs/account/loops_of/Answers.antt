use Rattle.std.proofs.Common.{arith}
use Rattle.std.proofs.lemmas.Grind.{common_steps}
use Rattle.traffic.specs.Answered.{size_of}
use Rattle.course.proofs.account.loops_of.Goals as goal

pub returns : goal.returns
unfolding size_of
returns g c = grind (arith, common_steps)
