use Rattle.std.proofs.Common.{◌≡◌, ◌≤◌, ◌*◌, ◌^◌, take, length}
use Rattle.std.specs.List.{flat_map}
use Rattle.catalog_text.proofs.list.items_length.Given as goal

abbrev pub invariant-loop-item : goal.invariant-loop-item
invariant-loop-item g l = record {
  so_far : l.total ≡ length (flat_map g.F.Format.text (take l.item-index l.items));
  bound : l.total ≤ l.item-index * 2 ^ 24;
}
