use Rattle.std.proofs.Common.{◌≡◌, map, take}
use Rattle.room_media.specs.Inventory.{slot_line}
use Rattle.room_media.proofs.listing.slot_lines.Given as goal

abbrev pub invariant-loop-filled : goal.invariant-loop-filled
invariant-loop-filled l = l.lines.items ≡ map (slot_line l.room.room) (take l.filled-index l.filled-items)
