-- Each fault's number, loop and byte offset, and the line that says them.
use Rattle.std.specs.Prelude.{ℕ, List, ◌++◌, codes, decimal}
use Rattle.site_read.specs.declared.fault.Fault.{Fault}
use Rattle.site_read.specs.declared.fault.Fault.TheVariants.{Truncated, Mark, Version, LoopCount, Kind, Number, Set, Trailing}
use Rattle.site_read.specs.declared.fault.Report.{Report}

abbrev pub report_with : ℕ → ℕ → ℕ → Report
report_with n q a = record { number = n; place = q; at = a }

abbrev pub report : Fault → Report
report (Truncated q a) = report_with 1 q a
report (Mark a) = report_with 2 0 a
report Version = report_with 3 0 3
report LoopCount = report_with 4 0 5
report (Kind q a) = report_with 5 q a
report (Number q a) = report_with 6 q a
report (Set q a) = report_with 7 q a
report (Trailing a) = report_with 8 0 a

abbrev pub refusal : Report → List ℕ
refusal r =
    codes "refused " ++ (decimal r.number ++ (codes " loop " ++ (decimal r.place ++ (codes " at " ++ decimal r.at))))
