use Rattle.std.proofs.Common.{◌≡◌, ◌≤◌, length, take}
use Rattle.std.specs.List.{filter}
use Rattle.std.specs.Prelude.{vec_capacity, vec_len}
use Rattle.slot_changer.specs.Drives.{in_drive}
use Rattle.room_state.specs.Commits.{asking_number}
use Rattle.room_state.proofs.Losing.{goes}
use Rattle.room_state.proofs.committing.list_ended.Given as goal

abbrev pub invariant-loop-ssid : goal.invariant-loop-ssid
invariant-loop-ssid l = record {
  items : l.closed.items ≡ filter (goes (in_drive l.drives l.drive) (asking_number l.asking)) (take l.ssid-index l.ssids);
  count : vec_len l.closed ≡ length l.closed.items;
  room : vec_capacity l.fn.closed ≤ vec_capacity l.closed;
}
