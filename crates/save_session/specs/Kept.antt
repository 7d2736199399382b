-- How the program keeps the open sessions.
use Rattle.std.specs.Prelude.{◌≡◌, ℕ, ◌-◌, List, length, map, vec_len, vec_capacity}
use Rattle.std.specs.List.{AllByRecursion}
use Rattle.std.specs.Ordering.{nat_cmp}
use Rattle.sha2.specs.Hashers.{Holds256}
use Rattle.room_base.specs.declared.numbers.Ssid.{Ssid}
use Rattle.room_base.specs.Ordered.{Ascends}
use Rattle.save_session.specs.declared.session.Session.{Session}
use Rattle.save_session.specs.Sessions.{SessionView, PartRoom, SessionsView, IsSession, drive_after}

abbrev pub session_view : Session → SessionView
session_view session = record {
  head = session.text.head;
  sent = session.text.bytes;
  reading = session.reader;
  sections = session.sections.items;
  drive = session.drive;
}

abbrev pub room_of : Session → PartRoom
room_of session = record {
  ssid = session.text.head.ssid.0;
  room = vec_capacity session.sections - vec_len session.sections;
}

-- a session that was on the drive is on none
abbrev pub left_by : ℕ → Session → Session
left_by drive session = record session { drive = drive_after drive session.drive }

-- the hasher holds the bytes sent, and their number is kept
pub record IsSessionKept (session : Session) : Type 0 where
  pub is : IsSession (session_view session)
  pub held : Holds256 session.hasher session.text.bytes
  pub next : session.next ≡ length session.text.bytes

abbrev pub number_of : Ssid → ℕ
number_of ssid = ssid.0

abbrev pub ssid_in : Session → Ssid
ssid_in session = session.text.head.ssid

-- the ssids of the sessions, which ascend, and the sessions
pub record AreSessionsKept (ssids : List Ssid) (sessions : List Session) : Type 0 where
  pub listed : ssids ≡ map ssid_in sessions
  pub ascending : Ascends nat_cmp number_of ssids
  pub each : AllByRecursion IsSessionKept sessions

abbrev pub sessions_view : List Session → SessionsView
sessions_view sessions =
    record { sessions = map session_view sessions; rooms = map room_of sessions }
