use Rattle.std.proofs.Common.{◌≡◌, length}
use Rattle.std.specs.List.{AllByRecursion}
use Rattle.save_finish.specs.Parts.{IsListFor}
use Rattle.save_finish.proofs.part_room.part_lists.Given as goal

abbrev pub invariant-loop-part : goal.invariant-loop-part
invariant-loop-part l = record {
  each : AllByRecursion IsListFor l.lists.items;
  count : length l.lists.items ≡ l._part;
}
