-- A room stays one whatever is done in it: the effects on drives and sessions.
use Rattle.std.proofs.Common.{◌≡◌, ℕ, ◌≤◌, Bool, true, false, List, length, refl, sym, ◌∙◌, subst, arith}
use Rattle.std.specs.List.{AllByRecursion}
use Rattle.std.specs.Option.{option_map}
use Rattle.std.specs.Prelude.{Option, Some, None, IfSome, IsSomeAnd, IsTrue, not}
use Rattle.save_stream.specs.declared.head.SetHead.{SetHead}
use Rattle.save_stream.specs.Standing.{AreBytes}
use Rattle.volume_store.specs.declared.commit.Volume.{Volume}
use Rattle.slot_changer.specs.Drives.{DriveView, IsDrive, after_commit, after_push, mounted, set_drive}
use Rattle.slot_changer.specs.Taking.{CanCommit}
use Rattle.save_session.specs.Parts.{IsNextPart}
use Rattle.save_session.specs.Sessions.{SessionView, AreOpenSessions, change_session, close_session, find_session, leave_drive, placed_on, start_session, with_piece}
use Rattle.save_session.proofs.Leaving.{are_left}
use Rattle.save_session.proofs.Sending.{part_is}
use Rattle.room_effects.specs.View.{RoomView, AreDrives, HasItsDrive, IsEmptied, IsRoom, held_in}
use Rattle.room_effects.specs.Effects.{Close, Commit, Open, Push, PutIn, Take, TakeOut, after_done, closed, emptied, ends_with, left_by, part_of, placed_in, without_drive}
use Rattle.room_effects.specs.Needs.{CanDo, FitsDrive, HasStreamRoom, IsTaken}
use Rattle.room_effects.proofs.Driving.{held_and}
use Rattle.room_effects.proofs.StayingDrives.{are_committed, are_emptied, are_no_volumes, are_pushed, are_put_in, some_here}
use Rattle.room_effects.proofs.StayingSessions.{are_changed_so, are_closed, are_kept, are_started, as_many_changed, as_many_left, each_kept, fewer_kept, have_changed, have_closed, have_left, have_set, have_started, no_more_closed, one_more, took_is}

-- an open room is not a closed one
pub not_closed : (P : Type 0) (is_open : Bool) → IsTrue is_open → is_open ≡ false → P
not_closed P is_open opens shut = absurd (let no : ◌≡◌ {A = Bool} true false = sym opens ∙ shut in cc)

-- ---- rooms whose sessions and drives are others

-- a room that is open stays one with other sessions and drives that fit each other
pub stays_with : (room : RoomView) (sessions : List SessionView) (drives : List (Option DriveView)) → IsRoom room → IsTrue room.is_open
    → AreOpenSessions sessions → length sessions ≤ 64 → AreDrives drives → AllByRecursion (HasItsDrive drives) sessions
    → IsRoom (record room { sessions = sessions; drives = drives })
stays_with room sessions drives is opens are few drive have = record {
  catalogue = is.catalogue;
  sessions = are;
  few = few;
  drives = drive;
  on_drives = have;
  journal = is.journal;
  emptied = λ shut. not_closed (IsEmptied (record room { sessions = sessions; drives = drives })) room.is_open opens shut;
}

pub stays_closed : (room : RoomView) → IsRoom room → IsRoom (closed room)
stays_closed room is = record {
  catalogue = is.catalogue;
  sessions = record { ascending = tt; each = tt };
  few = omega arith;
  drives = are_no_volumes;
  on_drives = tt;
  journal = is.journal;
  emptied = λ shut. record { sessions = refl; drives = refl };
}

-- a drive is emptied, of some of the sessions
stays_emptied_of : (room : RoomView) (drive : ℕ) (sessions : List SessionView) → IsRoom room → IsTrue room.is_open → IsDrive drive
    → AreOpenSessions sessions → length sessions ≤ length room.sessions → AllByRecursion (HasItsDrive room.drives) sessions
    → IsRoom (emptied drive (record room { sessions = sessions }))
stays_emptied_of room drive sessions is opens is_drive are fewer have =
    stays_with room (leave_drive drive sessions) (set_drive room.drives drive None) is opens (are_left drive sessions are)
    (omega (arith, is.few, fewer, as_many_left drive sessions)) (are_emptied room.drives drive is.drives is_drive)
    (have_left room.drives drive is_drive sessions have)

-- ---- drives

pub stays_commit : (drive : ℕ) (asking : Option ℕ) (room : RoomView) → IsRoom room → CanDo (Commit drive asking) room
    → IsRoom (after_done (Commit drive asking) room)
stays_commit drive asking room is can =
    let there = held_and (held_in room drive) CanCommit can.needs.1 in
    let P : Option DriveView → Type 0 = λ h. AllByRecursion (HasItsDrive (set_drive room.drives drive (option_map after_commit h))) room.sessions in
    stays_with room room.sessions (after_done (Commit drive asking) room).drives is can.opens is.sessions is.few
    (are_committed drive asking room is.drives can)
    (subst P (sym there.is) (have_set room.drives drive (after_commit there.one) is.drives.four can.needs.0 room.sessions is.on_drives))

pub stays_commit_broken : (drive : ℕ) (asking : Option ℕ) (room : RoomView) → IsRoom room → CanDo (Commit drive asking) room
    → IsRoom (without_drive drive asking room)
stays_commit_broken drive asking room is can =
    let keep : SessionView → Bool = λ session. not (ends_with (held_in room drive) asking session) in
    stays_emptied_of room drive (left_by (held_in room drive) asking room.sessions) is can.opens can.needs.0
    (are_kept keep room.sessions is.sessions) (fewer_kept keep room.sessions) (each_kept keep (HasItsDrive room.drives) room.sessions is.on_drives)

pub stays_put_in : (drive : ℕ) (volume : Volume) (room : RoomView) → IsRoom room → CanDo (PutIn drive volume) room
    → IsRoom (after_done (PutIn drive volume) room)
stays_put_in drive volume room is can =
    stays_with room room.sessions (set_drive room.drives drive (Some (mounted volume))) is can.opens is.sessions is.few
    (are_put_in drive volume room is.drives can)
    (have_set room.drives drive (mounted volume) is.drives.four can.needs.is_drive room.sessions is.on_drives)

pub stays_take_out : (drive : ℕ) (room : RoomView) → IsRoom room → CanDo (TakeOut drive) room → IsRoom (after_done (TakeOut drive) room)
stays_take_out drive room is can =
    stays_emptied_of room drive room.sessions is can.opens can.needs.0 is.sessions (omega arith) is.on_drives

-- ---- pushes

-- the session of the set, if it has one, is one with the part
are_placed : (drive ssid copy offset : ℕ) (bytes : List ℕ) (room : RoomView) (one : DriveView) → IsRoom room → FitsDrive ssid copy offset bytes room one
    → AreOpenSessions (placed_in (Some one) drive ssid copy offset bytes room.sessions)
are_placed drive ssid copy offset bytes room one is fits =
    let part = part_of one ssid copy offset bytes in
    are_changed_so (placed_on drive part) (λ session. refl) ssid room.sessions
    (λ session found was. part_is session drive part was
    (let N : Option SessionView → Type 0 = λ it. IfSome it (λ (session : SessionView). IsNextPart part session.sections) in subst N found fits.next))
    is.sessions

pub stays_push : (drive ssid copy offset : ℕ) (bytes : List ℕ) (room : RoomView) → IsRoom room → CanDo (Push drive ssid copy offset bytes) room
    → IsRoom (after_done (Push drive ssid copy offset bytes) room)
stays_push drive ssid copy offset bytes room is can =
    let there = held_and (held_in room drive) (FitsDrive ssid copy offset bytes room) can.needs.held in
    let one = there.one in
    let two = after_push ssid copy offset bytes one in
    let part = part_of one ssid copy offset bytes in
    let sessions = placed_in (Some one) drive ssid copy offset bytes room.sessions in
    let drives = set_drive room.drives drive (Some two) in
    let P : Option DriveView → Type 0 = λ h. IsRoom (record room {
      sessions = placed_in h drive ssid copy offset bytes room.sessions;
      drives = set_drive room.drives drive (option_map (after_push ssid copy offset bytes) h);
    }) in
    let D : Option DriveView → Type 0 = λ h. AreDrives (set_drive room.drives drive (option_map (after_push ssid copy offset bytes) h)) in
    subst P (sym there.is) (stays_with room sessions drives is can.opens
    (are_placed drive ssid copy offset bytes room one is there.has)
    (omega (arith, is.few, as_many_changed (placed_on drive part) ssid room.sessions))
    (subst D there.is (are_pushed drive ssid copy offset bytes room is.drives can))
    (have_changed drives (placed_on drive part) ssid room.sessions
    (λ session has. (can.needs.is_drive, some_here room.drives drive two is.drives.four can.needs.is_drive))
    (have_set room.drives drive two is.drives.four can.needs.is_drive room.sessions is.on_drives)))

-- ---- sessions

pub stays_open : (head : SetHead) (room : RoomView) → IsRoom room → CanDo (Open head) room → IsRoom (after_done (Open head) room)
stays_open head room is can =
    stays_with room (start_session head room.sessions) room.drives is can.opens (are_started head room.sessions can.needs.allowed is.sessions)
    (omega (arith, can.needs.few, one_more head room.sessions)) is.drives (have_started room.drives head room.sessions is.on_drives)

-- the session's reader takes the piece
pub stays_take : (ssid : ℕ) (piece : List ℕ) (room : RoomView) → IsRoom room → CanDo (Take ssid piece) room → AreBytes piece
    → IfSome (find_session ssid room.sessions) (IsTaken piece) → IsRoom (after_done (Take ssid piece) room)
stays_take ssid piece room is can fit taken =
    stays_with room (change_session ssid (with_piece piece) room.sessions) room.drives is can.opens
    (are_changed_so (with_piece piece) (λ session. refl) ssid room.sessions
    (λ session found was. took_is piece session fit
    (let H : Option SessionView → Type 0 = λ it. IsSomeAnd it (HasStreamRoom (length piece)) in subst H found can.needs)
    (let T : Option SessionView → Type 0 = λ it. IfSome it (IsTaken piece) in subst T found taken) was) is.sessions)
    (omega (arith, is.few, as_many_changed (with_piece piece) ssid room.sessions)) is.drives
    (have_changed room.drives (with_piece piece) ssid room.sessions (λ session has. has) is.on_drives)

pub stays_close : (ssid : ℕ) (room : RoomView) → IsRoom room → CanDo (Close ssid) room → IsRoom (after_done (Close ssid) room)
stays_close ssid room is can =
    stays_with room (close_session ssid room.sessions) room.drives is can.opens (are_closed ssid room.sessions is.sessions)
    (omega (arith, is.few, no_more_closed ssid room.sessions)) is.drives (have_closed room.drives ssid room.sessions is.on_drives)
