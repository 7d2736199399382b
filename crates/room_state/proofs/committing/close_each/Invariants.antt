use Rattle.std.proofs.Common.{◌≡◌, take}
use Rattle.room_effects.proofs.Closing.{close_each}
use Rattle.room_state.proofs.committing.close_each.Given as goal

abbrev pub invariant-loop-ssid : goal.invariant-loop-ssid
invariant-loop-ssid l = l.sessions.sessions ≡ close_each (take l.ssid-index l.ssids) l.initial.sessions.sessions
