use Rattle.std.proofs.Common.{◌≡◌, take}
use Rattle.room_catalog.specs.Changing.{purge_each}
use Rattle.room_catalog.proofs.saves.purge.Given as goal

abbrev pub invariant-loop-ssid : goal.invariant-loop-ssid
invariant-loop-ssid l = record {
  records : l.db.records ≡ purge_each l.number (take l.ssid-index l.ssids) l.fn.db.records;
  volumes : l.db.volumes ≡ l.fn.db.volumes;
  record_room : l.db.record_room ≡ l.fn.db.record_room;
  volume_room : l.db.volume_room ≡ l.fn.db.volume_room;
}
