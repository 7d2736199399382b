use Rattle.std.proofs.Common.{◌≡◌, ◌+◌, ◌*◌, drop, length}
use Rattle.std.specs.List.{AllByRecursion}
use Rattle.std.specs.Prelude.{Ok}
use Rattle.std.specs.Vec.Iter.{into_iter_items}
use Rattle.catalog_change.specs.Changes.{max_part}
use Rattle.room_effects.specs.Running.{Does}
use Rattle.room_effects.specs.View.{IsBetweenCommands}
use Rattle.save_finish.specs.Ending.{part_count, parts_to}
use Rattle.save_finish.specs.Parts.{HasEntered, IsListFor}
use Rattle.save_finish.proofs.index.enter_parts.Given as goal

abbrev pub invariant-loop-part : goal.invariant-loop-part
invariant-loop-part g l = record {
  does : Does {T = Unit {0}} (parts_to l.part l.m l.ssid l.fn.index.items) (Ok tt) l.fn.room.room l.room.room (g.D.Store.view l.fn.store) (g.D.Store.view l.store);
  between : IsBetweenCommands l.room.room;
  entered : HasEntered l.ssid l.part l.fn.index.items l.fn.room l.room;
  rest : into_iter_items l.entries ≡ drop (max_part * l.part) l.fn.index.items;
  each : AllByRecursion IsListFor l.lists.items;
  lists : length l.lists.items + l.part ≡ l.count;
  count : l.count ≡ part_count (length l.fn.index.items);
}
