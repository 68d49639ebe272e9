use Rattle.std.proofs.Common.{◌≡◌, length}
use Rattle.cases.specs.Hex.{bytes_of}
use Rattle.cases.proofs.Ends.{behind}
use Rattle.cases.proofs.hex.unhex.Given as goal

-- the bytes read, and those of the rest of the text, are those of the text
abbrev pub invariant-loop-rest : goal.invariant-loop-rest
invariant-loop-rest l = behind l.bytes.items (bytes_of l.rest) ≡ bytes_of l.hex

abbrev pub decreases-loop-rest : goal.decreases-loop-rest
decreases-loop-rest l = length l.rest
