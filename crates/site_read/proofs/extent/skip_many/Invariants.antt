use Rattle.std.proofs.Common.{◌≡◌, ℕ, List, Result, ◌-◌}
use Rattle.site_read.specs.declared.fault.Fault.{Fault}
use Rattle.site_read.specs.Parse.{skips, Skips}
use Rattle.site_read.proofs.extent.skip_many.Given as goal

abbrev pub invariant-loop : goal.invariant-loop
invariant-loop g l =
    goal.F-IsAlwaysCallable g l.skip
    × ((part : List ℕ → Result (List ℕ) Fault) → Skips (goal.F-post g l.skip) part → skips part l.n l.rest ≡ skips part (l.n - l.counter) l.left)
