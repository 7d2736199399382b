-- A piece that a drive takes can be pushed into it, behind the commit of its buffer if need be.
use Rattle.std.proofs.Common.{◌≡◌, ℕ, ◌≤◌, List, length, refl, sym, subst, arith}
use Rattle.std.proofs.lemmas.Cmp.{nat_cmp_total}
use Rattle.std.specs.Option.{option_map}
use Rattle.std.specs.Prelude.{true, false, Option, Some, None, IfSome, IsSome, IsSomeAnd, IsTrue}
use Rattle.room_base.proofs.OrderedLaws.{found_has_key}
use Rattle.room_base.proofs.OrderedNumbers.{equal_numbers}
use Rattle.chunk_mux.specs.Packing.{Fits, empty}
use Rattle.slot_changer.specs.Drives.{DriveView, IsDrive, after_commit, has_failed}
use Rattle.slot_changer.specs.Taking.{CanPush, fits, takes}
use Rattle.slot_changer.proofs.Changing.{set_same}
use Rattle.slot_changer.proofs.Taking.{can_commit, can_push, can_push_behind}
use Rattle.save_session.specs.Parts.{IsNextPart, end_of}
use Rattle.save_session.specs.Sessions.{IsOpen, SessionView, find_session, ssid_of}
use Rattle.save_session.proofs.Leaving.{found_is}
use Rattle.room_effects.specs.View.{IsInDrive, IsRoom, RoomView, held_in}
use Rattle.room_effects.specs.Effects.{Commit, Push, after_done, part_of}
use Rattle.room_effects.specs.Needs.{CanDo, FitsDrive}
use Rattle.room_effects.proofs.Readiness.{held_is}
use Rattle.room_between.specs.Middle.{EndsWith}
use Rattle.room_placing.proofs.Lying.{part_is_section}

-- ---- what is in the drive

held_is_so : (drive : ℕ) (room : RoomView) → IsRoom room → IfSome (held_in room drive) IsInDrive
held_is_so drive room is = by (held_in room drive) refl
  where
    by : (held : Option DriveView) → held_in room drive ≡ held → IfSome held IsInDrive
    by None there = tt
    by (Some one) there = held_is room.drives drive one is.drives there

is_sound : (held : Option DriveView) → IfSome held IsInDrive → has_failed held ≡ false
is_sound None is = refl
is_sound (Some one) is = is.sound

-- each empty buffer has room for so many bytes
has_place : (held : Option DriveView) (count : ℕ) → IfSome held IsInDrive → count ≤ 257024 → IfSome held (λ one. Fits (empty one.buffer.units) count)
has_place None count is most = tt
has_place (Some one) count is most = omega (arith, is.mounted.units, is.mounted.label.units, most)

-- ---- the bytes that were sent last

module _ (drive ssid offset : ℕ) (bytes : List ℕ) (room : RoomView) (is : IsRoom room) (opens : IsTrue room.is_open) (is_drive : IsDrive drive)
    (some : 1 ≤ length bytes) where
  fits_drive : (session : SessionView) → find_session ssid room.sessions ≡ Some session → offset ≡ end_of session.sections → (held : Option DriveView)
      → IsSomeAnd held (CanPush (length bytes)) → IsSomeAnd held (FitsDrive ssid 1 offset bytes room)
  fits_drive session found from None can = absurd can
  fits_drive session found from (Some one) can = record {
    can = can;
    next = (let N : Option SessionView → Type 0 = λ it. IfSome it (λ session. IsNextPart (part_of one ssid 1 offset bytes) session.sections) in
        subst N (sym found) (record { from = from; run = part_is_section one ssid 1 offset bytes some }));
  }

  pub can_push_last : IsOpen ssid room.sessions → IfSome (find_session ssid room.sessions) (EndsWith offset bytes) → IsSomeAnd (held_in room drive) (CanPush (length bytes))
      → CanDo (Push drive ssid 1 offset bytes) room
  can_push_last is_sent last can = by (find_session ssid room.sessions) refl
    where
      by : (found : Option SessionView) → find_session ssid room.sessions ≡ found → CanDo (Push drive ssid 1 offset bytes) room
      by None found = let S : Option SessionView → Type 0 = λ it. IsSome it in absurd (cc (subst S found is_sent))
      by (Some session) found =
          let L : Option SessionView → Type 0 = λ it. IfSome it (EndsWith offset bytes) in
          let ends = subst L found last in
          let is_session = found_is ssid session room.sessions is.sessions found in
          let same = equal_numbers (ssid_of session) ssid (found_has_key nat_cmp_total ssid_of ssid session room.sessions found) in
          record {
            opens = opens;
            needs = record {
              is_drive = is_drive;
              is_set = omega (arith, same, is_session.allowed.ssid.0);
              is_copy = omega arith;
              ends = omega (arith, ends.to, is_session.size);
              held = fits_drive session found ends.from (held_in room drive) can;
            };
          }

  -- the bytes fit the buffer
  pub can_push_now : IsOpen ssid room.sessions → IfSome (find_session ssid room.sessions) (EndsWith offset bytes) → IsTrue (takes (held_in room drive) (length bytes))
      → fits (held_in room drive) (length bytes) ≡ true → CanDo (Push drive ssid 1 offset bytes) room
  can_push_now is_sent last taken fit =
      can_push_last is_sent last (can_push (held_in room drive) (length bytes) (is_sound (held_in room drive) (held_is_so drive room is)) taken fit)

  -- the buffer is committed first
  pub can_commit_first : (asking : Option ℕ) → length bytes ≤ 257024 → IsTrue (takes (held_in room drive) (length bytes))
      → fits (held_in room drive) (length bytes) ≡ false → CanDo (Commit drive asking) room
  can_commit_first asking most taken full =
      let held = held_in room drive in
      let is_in = held_is_so drive room is in
      record { opens = opens; needs = (is_drive, can_commit held (length bytes) (is_sound held is_in) taken full (has_place held (length bytes) is_in most)) }

  pub can_push_after : (asking : Option ℕ) → length bytes ≤ 257024 → IsTrue (takes (held_in room drive) (length bytes))
      → fits (held_in room drive) (length bytes) ≡ false → IsSomeAnd (held_in (after_done (Commit drive asking) room) drive) (CanPush (length bytes))
  can_push_after asking most taken full =
      let held = held_in room drive in
      let is_in = held_is_so drive room is in
      let C : Option DriveView → Type 0 = λ one. IsSomeAnd one (CanPush (length bytes)) in
      subst C (sym (set_same room.drives drive (option_map after_commit held) is.drives.four is_drive))
      (can_push_behind held (length bytes) (is_sound held is_in) taken full (has_place held (length bytes) is_in most)).1
