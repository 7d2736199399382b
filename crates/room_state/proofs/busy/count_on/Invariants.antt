use Rattle.std.proofs.Common.{◌≡◌, ◌≤◌, take}
use Rattle.room_state.specs.Commits.{count_on}
use Rattle.room_state.proofs.busy.count_on.Given as goal

abbrev pub invariant-loop-ssid : goal.invariant-loop-ssid
invariant-loop-ssid l = record {
  counted : l.count ≡ count_on l.drive (take l.ssid-index l.sessions.sessions);
  few : l.count ≤ l.ssid-index;
}
