use Rattle.std.proofs.Common.{◌≡◌, reverse, take}
use Rattle.room_disk.specs.Crashed.{all_partly_done}
use Rattle.room_disk.proofs.rebuilding.do_all.Given as goal

abbrev pub invariant-loop-event : goal.invariant-loop-event
invariant-loop-event l =
    (l.bytes.bytes ≡ all_partly_done l.part l.file l.initial.bytes.bytes (reverse (take l.event-index l.events))) × (l.bytes.room ≡ l.initial.bytes.room)
