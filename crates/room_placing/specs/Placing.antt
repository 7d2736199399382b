-- Where a piece of a session goes.
use Rattle.std.specs.Prelude.{◌≡◌, ℕ, Bool, false, List, [], ◌∷◌, ◌++◌, length, if◌then◌else◌}
use Rattle.std.specs.Prelude.{Option, Some, None, MatchBool}
use Rattle.slot_changer.specs.Picking.{IsPick}
use Rattle.slot_changer.specs.Taking.{fits, takes}
use Rattle.room_effects.specs.View.{RoomView, held_in}
use Rattle.room_effects.specs.Effects.{Effect, Commit, Push}
use Rattle.room_state.specs.Commits.{count_on}

-- ---- the drive

-- how many sessions each drive has
abbrev pub busy_of : RoomView → List ℕ
busy_of room = count_on 1 room.sessions ∷ count_on 2 room.sessions ∷ count_on 3 room.sessions
    ∷ count_on 4 room.sessions ∷ []

-- a session stays on its drive while that takes the piece
abbrev pub stays : Option ℕ → ℕ → RoomView → Bool
stays None count room = false
stays (Some drive) count room = takes (held_in room drive) count

-- the drive of a session's piece of so many bytes: its own while that takes the piece, else the one
-- that is picked for the pool
abbrev pub IsDriveFor : Option ℕ → List ℕ → ℕ → RoomView → Option ℕ → Type 0
IsDriveFor held pool count room drive = MatchBool (stays held count room) (drive ≡ held)
    (IsPick room.drives pool count (busy_of room) [] drive)

-- ---- the effects

-- the buffer is committed first where the piece doesn't fit
abbrev pub committing : ℕ → ℕ → ℕ → RoomView → List Effect
committing drive ssid count room =
    if fits (held_in room drive) count then [] else (Commit drive (Some ssid) ∷ [])

-- the bytes of a session from this offset of its stream on go into the drive
abbrev pub placing : ℕ → ℕ → ℕ → List ℕ → RoomView → List Effect
placing drive ssid offset bytes room =
    committing drive ssid (length bytes) room ++ Push drive ssid 1 offset bytes ∷ []
