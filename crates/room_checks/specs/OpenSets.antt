-- The sets of the open sessions, which are needed however old they are.
use Rattle.std.specs.Prelude.{List, [], map, Option, Some, None}
use Rattle.room_base.specs.declared.numbers.Ssid.{Ssid}
use Rattle.room_base.specs.declared.numbers.Volid.{Volid}
use Rattle.media_db.specs.Rows.{find_record}
use Rattle.media_db.specs.declared.copies.Section.{Section}
use Rattle.media_db.specs.declared.records.Record.{Record}
use Rattle.dep_chain.specs.declared.open_set.OpenSet.{OpenSet}
use Rattle.save_session.specs.Sessions.{SessionView, find_session}
use Rattle.room_effects.specs.View.{RoomView}
use Rattle.room_effects.specs.Faults.{ssids_of}

abbrev pub base_of : Option Record → Ssid
base_of None = record { 0 = 0 }
base_of (Some row) = row.base

abbrev pub volid_of : Section → Volid
volid_of section = section.volid

abbrev pub volids_of : Option SessionView → List Volid
volids_of None = []
volids_of (Some session) = map volid_of session.sections

-- an open session's set, the base on record, and the volumes on which its sections lie
abbrev pub open_set : RoomView → Ssid → OpenSet
open_set room ssid = record {
  ssid = ssid;
  base = base_of (find_record ssid.0 room.catalogue.records);
  volids = volids_of (find_session ssid.0 room.sessions);
}

abbrev pub open_sets : RoomView → List OpenSet
open_sets room = map (open_set room) (ssids_of room.sessions)
