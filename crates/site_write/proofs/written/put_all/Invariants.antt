use Rattle.std.proofs.Common.{◌≡◌, ◌+◌, length, take}
use Rattle.std.specs.List.{flat_map}
use Rattle.site_write.specs.Paste.{pasted}
use Rattle.site_write.proofs.written.put_all.Given as goal

abbrev pub invariant-loop-item : goal.invariant-loop-item
invariant-loop-item g l =
    (l.end ≡ l.at + length (flat_map g.T.Written.bytes (take l.item-index l.items)))
    × (l.out ≡ pasted l.initial.out l.at (flat_map g.T.Written.bytes (take l.item-index l.items)))
