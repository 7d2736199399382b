-- The open sessions have their records.
use Rattle.std.proofs.Common.{◌≡◌, List, [], ◌∷◌, refl, sym, ap, map}
use Rattle.std.specs.List.{AllByRecursion}
use Rattle.std.specs.Prelude.{Option, Some, None, IsSomeAnd}
use Rattle.media_db.specs.Rows.{find_record}
use Rattle.media_db.specs.declared.records.Record.{Record}
use Rattle.dep_chain.specs.Need.{AreSessions, HasRecord}
use Rattle.save_session.specs.Sessions.{SessionView, ssid_of}
use Rattle.room_effects.specs.View.{IsRecordOf, RoomView}
use Rattle.room_effects.specs.Faults.{ssids_of}
use Rattle.room_checks.specs.OpenSets.{base_of, open_set}

recorded_one : (room : RoomView) (session : SessionView) (held : Option Record) → find_record (ssid_of session) room.catalogue.records ≡ held → IsSomeAnd held (IsRecordOf session)
    → HasRecord room.catalogue.records (open_set room session.head.ssid)
recorded_one room session None found is = absurd is
recorded_one room session (Some row) found is = record { row = row; found = found; base = sym (ap base_of found) }

pub recorded : (room : RoomView) (sessions : List SessionView)
    → AllByRecursion (λ session. IsSomeAnd (find_record (ssid_of session) room.catalogue.records) (IsRecordOf session)) sessions
    → AreSessions room.catalogue.records (map (open_set room) (ssids_of sessions))
recorded room [] all = tt
recorded room (session ∷ sessions) all =
    (recorded_one room session (find_record (ssid_of session) room.catalogue.records) refl all.0, recorded room sessions all.1)
