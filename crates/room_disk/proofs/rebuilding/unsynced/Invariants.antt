use Rattle.std.proofs.Common.{◌≡◌, ◌≤◌, reverse, take}
use Rattle.room_disk.specs.Crashed.{unsynced}
use Rattle.room_disk.proofs.rebuilding.unsynced.Given as goal

abbrev pub invariant-loop-event : goal.invariant-loop-event
invariant-loop-event l = (l.count ≡ unsynced l.file (reverse (take l.event-index l.events))) × (l.count ≤ l.event-index)
