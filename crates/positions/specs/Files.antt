-- The files of the worked examples, and why a file is refused.
use Rattle.std.specs.Prelude.{ℕ, List, take, slice_set, Some, None, Ok, Err, Option, Result}
use Rattle.site_read.specs.declared.fault.Fault.{Fault}
use Rattle.site_read.specs.declared.fault.Report.{Report}
use Rattle.site_read.specs.Faults.{report}
use Rattle.site_read.specs.Format.{Places, file_of}
use Rattle.site_read.specs.Sites.{site}
use Rattle.positions.specs.Sites.{two_of_two_checks}

-- the file of two loops (1, 2), which is examples/two-mounts.lkt
abbrev pub whole : List ℕ
whole = file_of two_of_two_checks

-- the same without its last byte
abbrev pub cut_short : List ℕ
cut_short = take 21 whole

-- the same with 2 for its first set, in bytes 10 and 11: it names region 1, which the loop has not. It is examples/damaged.lkt
abbrev pub stray_set : List ℕ
stray_set = slice_set whole 11 2

abbrev pub reported : Result Places Fault → Option Report
reported (Ok p) = None
reported (Err f) = Some (report f)

-- why a file is refused, absent where it is read
abbrev pub refused : List ℕ → Option Report
refused file = reported (site file)
