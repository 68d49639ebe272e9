use Rattle.std.proofs.Common.{◌^◌, ◌≤◌, arith, pow_mono}
use Rattle.std.proofs.lemmas.Bool.Decides.{nat_tests}
use Rattle.site_read.proofs.field.is_set_below.Goals as goal

-- a set of sixteen bits names only regions below 16
pub returns-then-count-ge16 : goal.returns-then-count-ge16
returns-then-count-ge16 c =
    let many : 16 ≤ c.args.count = omega arith in
    let p : 2 ^ 16 ≤ 2 ^ c.args.count = pow_mono many in
    grind (arith, nat_tests)
