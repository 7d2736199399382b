use Rattle.std.proofs.Common.{◌≡◌, take, length}
use Rattle.std.specs.Io.Iter.{u64_saturate}
use Rattle.std.specs.List.{flat_map}
use Rattle.snapshot_text.proofs.put_item.items_length.Given as goal

abbrev pub invariant-loop-item : goal.invariant-loop-item
invariant-loop-item g l = l.total ≡ u64_saturate (length (flat_map (g.P.PutItem.text l.writer) (take l.item-index l.items)))
