-- What is at hand before a session ends, and what commits leave.
use Rattle.std.specs.Prelude.{◌≡◌, ◌≢◌, ℕ, ◌≤◌, ◌<◌, ◌^◌, false, length, IsTrue, IsSomeAnd}
use Rattle.room_base.specs.declared.numbers.Moment.{Moment}
use Rattle.room_base.specs.declared.numbers.Ssid.{Ssid}
use Rattle.slot_changer.specs.Drives.{IsDrive}
use Rattle.save_session.specs.Sessions.{SessionView, find_session}
use Rattle.room_effects.specs.View.{RoomView, IsBetweenCommands, held_in}
use Rattle.room_effects.specs.Effects.{entry_bytes}
use Rattle.room_effects.specs.Memory.{HeldRoom}
use Rattle.room_effects.specs.Entering.{is_at_ceiling}
use Rattle.room_state.specs.Commits.{IsReadyForCommits}
use Rattle.save_finish.specs.Ended.{HasEnded}
use Rattle.save_finish.specs.Ending.{finished_whole}

-- ---- sessions that may end

-- the session of the set has sent its whole stream, and a number is left for the entry
pub record MayEnd (ssid : ℕ) (room : RoomView) : Type 0 where
  pub opens : IsTrue room.is_open
  pub between : IsBetweenCommands room
  pub ended : IsSomeAnd (find_session ssid room.sessions) HasEnded
  pub below : is_at_ceiling room.catalogue ≡ false

-- ---- what is prepared

-- there is memory for commits, and for an index that isn't at hand yet
pub record IsReadyToEnd (held : HeldRoom) : Type 0 where
  pub commits : IsReadyForCommits held
  pub index : 0 < held.memory.catalogue.indexes

-- there is memory for the entry that has the whole index, and it can be written
pub record IsReadyToEnter (ssid : Ssid) (held : HeldRoom) (session : SessionView) : Type 0 where
  pub memory : (m : Moment)
      → length (entry_bytes m (finished_whole ssid session)) ≤ held.memory.entry
  pub short : (m : Moment) → length (entry_bytes m (finished_whole ssid session)) < 2 ^ 32

-- ---- commits

-- what is in each other drive is as before
abbrev pub KeepsOtherDrives : ℕ → RoomView → RoomView → Type 0
KeepsOtherDrives drive old new =
    (other : ℕ) → IsDrive other → other ≢ drive → held_in new other ≡ held_in old other

-- behind commits the room is as before beside its drives, and the memory is as it was
pub record IsCommittedFrom (old new : HeldRoom) : Type 0 where
  pub room : new.room ≡ record old.room { drives = new.room.drives }
  pub memory : new.memory ≡ old.memory
