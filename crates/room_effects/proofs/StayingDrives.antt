-- What stays of the drives of a room.
use Rattle.std.proofs.Common.{◌≡◌, ◌≢◌, ℕ, suc, zero, ◌-◌, List, [], ◌∷◌, length, refl, sym, ap, ◌∙◌, subst, arith, inl, inr}
use Rattle.std.proofs.lemmas.Bool.{cases_eq}
use Rattle.std.specs.List.{AllByRecursion}
use Rattle.std.specs.Option.{option_map}
use Rattle.std.specs.Prelude.{Option, Some, None, IfSome, IsSome, slice_set}
use Rattle.chunk_mux.specs.Packing.{pack}
use Rattle.volume_store.specs.declared.commit.Volume.{Volume}
use Rattle.slot_changer.specs.Drives.{DriveView, IsDrive, after_commit, after_push, in_drive, mounted, no_volumes, set_drive}
use Rattle.slot_changer.proofs.Changing.{length_set, set_other, set_same}
use Rattle.slot_changer.specs.Taking.{CanCommit, CanPush}
use Rattle.room_effects.specs.View.{AreDrives, IsInDrive, RoomView, held_in}
use Rattle.room_effects.specs.Effects.{Commit, Push, PutIn, after_done}
use Rattle.room_effects.specs.Needs.{CanDo, FitsDrive}
use Rattle.room_effects.proofs.Driving.{held_and}
use Rattle.room_effects.proofs.Entering.{none_held}
use Rattle.room_effects.proofs.Readiness.{held_is, was_set}

-- ---- one drive is set

each_set : (P : DriveView → Type 0) (drives : List (Option DriveView)) (place : ℕ) (held : Option DriveView)
    → AllByRecursion (λ one. IfSome one P) drives → IfSome held P → AllByRecursion (λ one. IfSome one P) (slice_set drives place held)
each_set P [] place held each new = tt
each_set P (one ∷ drives) zero held each new = (new, each.1)
each_set P (one ∷ drives) (suc place) held each new = (each.0, each_set P drives place held each.1 new)

-- a volume is in a drive that no other drive has the cartridge of
pub are_set : (drives : List (Option DriveView)) (drive : ℕ) (two : DriveView) → AreDrives drives → IsDrive drive → IsInDrive two
    → ((other : ℕ) (one : DriveView) → IsDrive other → in_drive drives other ≡ Some one → one.volume.cart.0 ≡ two.volume.cart.0 → other ≡ drive)
    → AreDrives (set_drive drives drive (Some two))
are_set drives drive two are is_drive is_in alone =
    let cart_of : DriveView → ℕ = λ one. one.volume.cart.0 in
    let some_of : (one : DriveView) → Some two ≡ Some one → two ≡ one = λ one same. cc same in
    record {
      four = length_set drives drive (Some two) ∙ are.four;
      each = each_set IsInDrive drives (drive - 1) (Some two) are.each is_in;
      apart = λ left right one other is_left is_right in_left in_right same.
          elim (was_set drives drive left (Some two) one are.four is_drive is_left in_left) [
            | inl here ↦ elim (was_set drives drive right (Some two) other are.four is_drive is_right in_right) [
              | inl too ↦ here.0 ∙ sym too.0
              | inr there ↦ here.0 ∙ sym (alone right other is_right there.1 (sym same ∙ sym (ap cart_of (some_of one here.1))))
            ]
            | inr there ↦ elim (was_set drives drive right (Some two) other are.four is_drive is_right in_right) [
              | inl here ↦ alone left one is_left there.1 (same ∙ sym (ap cart_of (some_of other here.1))) ∙ sym here.0
              | inr too ↦ are.apart left right one other is_left is_right there.1 too.1 same
            ]
          ];
    }

-- the same volume is in its drive, with another buffer or another mark
pub are_changed : (drives : List (Option DriveView)) (drive : ℕ) (one two : DriveView) → AreDrives drives → IsDrive drive → in_drive drives drive ≡ Some one
    → two.volume.cart.0 ≡ one.volume.cart.0 → IsInDrive two → AreDrives (set_drive drives drive (Some two))
are_changed drives drive one two are is_drive held cart is_in =
    are_set drives drive two are is_drive is_in (λ other three is_other there same. are.apart other drive three one is_other is_drive there held (same ∙ cart))

-- a drive is emptied
pub are_emptied : (drives : List (Option DriveView)) (drive : ℕ) → AreDrives drives → IsDrive drive → AreDrives (set_drive drives drive None)
are_emptied drives drive are is_drive =
    let was : (other : ℕ) (one : DriveView) → IsDrive other → in_drive (set_drive drives drive None) other ≡ Some one → in_drive drives other ≡ Some one =
    λ other one is_other now. elim (was_set drives drive other None one are.four is_drive is_other now) [
      | inl here ↦ absurd (let no : ◌≡◌ {A = Option DriveView} None (Some one) = here.1 in cc)
      | inr there ↦ there.1
    ] in
    record {
      four = length_set drives drive None ∙ are.four;
      each = each_set IsInDrive drives (drive - 1) None are.each tt;
      apart = λ left right one other is_left is_right in_left in_right same.
          are.apart left right one other is_left is_right (was left one is_left in_left) (was right other is_right in_right) same;
    }

pub are_no_volumes : AreDrives no_volumes
are_no_volumes = record {
  four = refl;
  each = (tt, (tt, (tt, (tt, tt))));
  apart = λ left right one other is_left is_right in_left in_right same. absurd (none_held left one in_left);
}

-- ---- there is a volume still

some_is : (one two : Option DriveView) → one ≡ two → IsSome two → IsSome one
some_is one two same some = let P : Option DriveView → Type 0 = λ held. IsSome held in subst P (sym same) some

pub some_set : (drives : List (Option DriveView)) (drive other : ℕ) (two : DriveView) → length drives ≡ 4 → IsDrive drive → IsDrive other
    → IsSome (in_drive drives other) → IsSome (in_drive (set_drive drives drive (Some two)) other)
some_set drives drive other two four is_drive is_other some =
    elim (cases_eq other drive) [
      | inl same ↦ some_is (in_drive (set_drive drives drive (Some two)) other) (Some two)
          (ap (in_drive (set_drive drives drive (Some two))) same ∙ set_same drives drive (Some two) four is_drive) refl
      | inr apart ↦ some_is (in_drive (set_drive drives drive (Some two)) other) (in_drive drives other)
          (set_other drives drive other (Some two) is_drive is_other apart) some
    ]

pub some_emptied : (drives : List (Option DriveView)) (drive other : ℕ) → IsDrive drive → IsDrive other → other ≢ drive
    → IsSome (in_drive drives other) → IsSome (in_drive (set_drive drives drive None) other)
some_emptied drives drive other is_drive is_other apart some =
    some_is (in_drive (set_drive drives drive None) other) (in_drive drives other) (set_other drives drive other None is_drive is_other apart) some

pub some_here : (drives : List (Option DriveView)) (drive : ℕ) (two : DriveView) → length drives ≡ 4 → IsDrive drive
    → IsSome (in_drive (set_drive drives drive (Some two)) drive)
some_here drives drive two four is_drive = some_is (in_drive (set_drive drives drive (Some two)) drive) (Some two) (set_same drives drive (Some two) four is_drive) refl

-- ---- what is in the drive

pub committed_is : (one : DriveView) → IsInDrive one → IsInDrive (after_commit one)
committed_is one is = record {
  mounted = record {
    cart = is.mounted.cart;
    label = is.mounted.label;
    mark = omega (arith, is.mounted.mark);
    units = is.mounted.units;
    room = λ some. absurd (omega (arith, some));
  };
  sound = is.sound;
}

pub pushed_is : (ssid copy offset : ℕ) (bytes : List ℕ) (one : DriveView) → IsInDrive one → CanPush (length bytes) one → IsInDrive (after_push ssid copy offset bytes one)
unfolding pack
pushed_is ssid copy offset bytes one is can = record {
  mounted = record {
    cart = is.mounted.cart;
    label = is.mounted.label;
    mark = is.mounted.mark;
    units = is.mounted.units;
    room = λ some. can.room;
  };
  sound = is.sound;
}

-- ---- the drives after each effect that changes them

pub are_committed : (drive : ℕ) (asking : Option ℕ) (room : RoomView) → AreDrives room.drives → CanDo (Commit drive asking) room
    → AreDrives (after_done (Commit drive asking) room).drives
are_committed drive asking room are can =
    let there = held_and (held_in room drive) CanCommit can.needs.1 in
    let one = there.one in
    let P : Option DriveView → Type 0 = λ h. AreDrives (set_drive room.drives drive (option_map after_commit h)) in
    subst P (sym there.is) (are_changed room.drives drive one (after_commit one) are can.needs.0 there.is refl
    (committed_is one (held_is room.drives drive one are there.is)))

pub are_pushed : (drive ssid copy offset : ℕ) (bytes : List ℕ) (room : RoomView) → AreDrives room.drives → CanDo (Push drive ssid copy offset bytes) room
    → AreDrives (after_done (Push drive ssid copy offset bytes) room).drives
are_pushed drive ssid copy offset bytes room are can =
    let there = held_and (held_in room drive) (FitsDrive ssid copy offset bytes room) can.needs.held in
    let one = there.one in
    let P : Option DriveView → Type 0 = λ h. AreDrives (set_drive room.drives drive (option_map (after_push ssid copy offset bytes) h)) in
    subst P (sym there.is) (are_changed room.drives drive one (after_push ssid copy offset bytes one) are can.needs.is_drive there.is refl
    (pushed_is ssid copy offset bytes one (held_is room.drives drive one are there.is) there.has.can))

pub mounted_is : (drive : ℕ) (volume : Volume) (room : RoomView) → CanDo (PutIn drive volume) room → IsInDrive (mounted volume)
mounted_is drive volume room can = record {
  mounted = record {
    cart = can.needs.is_cart;
    label = can.needs.allowed;
    mark = can.needs.mark;
    units = refl;
    room = λ some. absurd (omega (arith, some));
  };
  sound = refl;
}

pub are_put_in : (drive : ℕ) (volume : Volume) (room : RoomView) → AreDrives room.drives → CanDo (PutIn drive volume) room
    → AreDrives (after_done (PutIn drive volume) room).drives
are_put_in drive volume room are can =
    are_set room.drives drive (mounted volume) are can.needs.is_drive (mounted_is drive volume room can)
    (λ other one is_other held same. absurd (can.needs.in_no_drive other one is_other held same))
