use Rattle.std.proofs.Common.{◌≡◌, map, take}
use Rattle.room_checks.specs.OpenSets.{open_set}
use Rattle.room_checks.proofs.sessions.open_sets.Given as goal

abbrev pub invariant-loop-ssid : goal.invariant-loop-ssid
invariant-loop-ssid l = l.sets.items ≡ map (open_set l.room.room) (take l.ssid-index l.ssid-items)
