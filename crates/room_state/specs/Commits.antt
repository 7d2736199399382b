-- Which session asks for a commit, when there is memory for any, and the sessions on a drive.
use Rattle.std.specs.Prelude.{ℕ, ◌≤◌, List, length, Option}
use Rattle.std.specs.List.{count_by}
use Rattle.std.specs.Option.{option_map}
use Rattle.room_base.specs.declared.numbers.Ssid.{Ssid}
use Rattle.save_session.specs.Sessions.{SessionView, is_on}
use Rattle.room_effects.specs.Memory.{HeldRoom}

-- the number of the session that asks, if one does
abbrev pub asking_number : Option Ssid → Option ℕ
asking_number asking = option_map (λ (ssid : Ssid). ssid.0) asking

-- whichever commit fails, the list of the sessions that are closed has room for them
abbrev pub IsReadyForCommits : HeldRoom → Type 0
IsReadyForCommits held = length held.room.sessions ≤ held.memory.closed

-- how many sessions are on a drive
abbrev pub count_on : ℕ → List SessionView → ℕ
count_on drive sessions = count_by (λ session. is_on drive session.drive) sessions
