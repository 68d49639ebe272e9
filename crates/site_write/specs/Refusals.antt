-- The number and the value of each refusal of the writer.
use Rattle.site_write.specs.declared.write.WriteFault.{WriteFault}
use Rattle.site_write.specs.declared.write.WriteFault.TheVariants.{NoLoops, TooShort}
use Rattle.site_write.specs.declared.write.WriteReport.{WriteReport}

-- a site without loops at the offset of the loop count; a buffer too short with the bytes wanted
abbrev pub write_report : WriteFault → WriteReport
write_report NoLoops = record { number = 4; value = 5 }
write_report (TooShort wanted) = record { number = 15; value = wanted }
