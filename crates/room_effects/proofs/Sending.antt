-- Effects in memory: pushes, volumes that are put in and taken out, and sessions.
use Rattle.std.proofs.Common.{◌≡◌, ℕ, List, [], ◌∷◌, refl, sym, ap, ◌∙◌, subst, inl, inr}
use Rattle.std.specs.Option.{option_map}
use Rattle.std.specs.Prelude.{Option, Some, None, IsTrue, Ok}
use Rattle.room_disk.specs.Disk.{DiskView}
use Rattle.save_stream.specs.declared.head.SetHead.{SetHead}
use Rattle.volume_store.specs.declared.commit.Volume.{Volume}
use Rattle.slot_changer.specs.Drives.{DriveView, IsDrive, after_push, in_drive, mounted}
use Rattle.room_effects.specs.View.{RoomView, IsRoom, held_in}
use Rattle.room_effects.specs.Effects.{Close, Open, Push, PutIn, SeenVolume, Take, TakeOut, after_done}
use Rattle.room_effects.specs.Needs.{CanDo}
use Rattle.room_effects.specs.Running.{Does, IsCarried, Known, Ready}
use Rattle.room_effects.proofs.Memory.{does_in_memory}
use Rattle.room_effects.proofs.Readiness.{WasIn, ready_as, was_set}

-- ---- pushes

-- what is in a drive whose buffer was changed was there
was_mapped : (change : DriveView → DriveView) (held : Option DriveView) (now : DriveView) → ((one : DriveView) → one.volume ≡ (change one).volume)
    → option_map change held ≡ Some now → (one : DriveView) × (held ≡ Some one) × (one.volume ≡ now.volume)
was_mapped change None now keeps is = absurd (cc is)
was_mapped change (Some one) now keeps is =
    let same : change one ≡ now = cc is in
    (one, refl, keeps one ∙ ap (λ (it : DriveView). it.volume) same)

was_pushed : (drive ssid copy offset : ℕ) (bytes : List ℕ) (room : RoomView) → IsRoom room → IsDrive drive → (other : ℕ) (one : DriveView) → IsDrive other
    → held_in (after_done (Push drive ssid copy offset bytes) room) other ≡ Some one → WasIn room other one
was_pushed drive ssid copy offset bytes room is is_drive other one is_other now =
    elim (was_set room.drives drive other (option_map (after_push ssid copy offset bytes) (held_in room drive)) one is.drives.four is_drive is_other now) [
      | inl here ↦ (let was = was_mapped (after_push ssid copy offset bytes) (held_in room drive) one (λ it. refl) here.1 in
          record { old = was.0; held = ap (held_in room) here.0 ∙ was.1; volume = was.2 })
      | inr there ↦ record { old = one; held = there.1; volume = refl }
    ]

pub does_push : {T : Type 0} (drive ssid copy offset : ℕ) (bytes : List ℕ) (value : T) (room new : RoomView) (disk : DiskView) → IsRoom room
    → CanDo (Push drive ssid copy offset bytes) room → new ≡ after_done (Push drive ssid copy offset bytes) room
    → Does {T = T} (Push drive ssid copy offset bytes ∷ []) (Ok value) room new disk disk
does_push {T} drive ssid copy offset bytes value room new disk is can made =
    does_in_memory {T = T} (Push drive ssid copy offset bytes) value room new disk can tt made (λ file. refl)
    (λ told known founded ready. ready_as known room (after_done (Push drive ssid copy offset bytes) room) disk (λ opens. opens) refl
    (was_pushed drive ssid copy offset bytes room is can.needs.is_drive) ready)

-- ---- volumes

ready_put_in : (known : Known) (drive : ℕ) (volume : Volume) (room : RoomView) (disk : DiskView) → IsRoom room → CanDo (PutIn drive volume) room
    → known volume.cart.0 ≡ Some (SeenVolume (Ok volume)) → Ready known room disk → Ready known (after_done (PutIn drive volume) room) disk
ready_put_in known drive volume room disk is can founded ready =
    let stands = ready.seen volume.cart.0 (SeenVolume (Ok volume)) can.needs.is_cart founded in
    let carried : IsCarried disk (mounted volume) = record { settled = stands.settled; files = stands.is.1 } in
    let P : DriveView → Type 0 = λ one. IsCarried disk one in
    record {
      journal = ready.journal;
      drives = λ other one is_other now. elim (was_set room.drives drive other (Some (mounted volume)) one is.drives.four can.needs.is_drive is_other now) [
        | inl here ↦ (let same : mounted volume ≡ one = cc here.1 in subst P same carried)
        | inr there ↦ ready.drives other one is_other there.1
      ];
      seen = ready.seen;
    }

pub does_put_in : {T : Type 0} (drive : ℕ) (volume : Volume) (value : T) (room new : RoomView) (disk : DiskView) → IsRoom room → CanDo (PutIn drive volume) room
    → new ≡ after_done (PutIn drive volume) room → Does {T = T} (PutIn drive volume ∷ []) (Ok value) room new disk disk
does_put_in {T} drive volume value room new disk is can made =
    does_in_memory {T = T} (PutIn drive volume) value room new disk can tt made (λ file. refl)
    (λ told known founded ready. ready_put_in known drive volume room disk is can founded ready)

-- what is in the drives when one of them was emptied
pub was_emptied : (drive : ℕ) (room : RoomView) → IsRoom room → IsDrive drive → (other : ℕ) (one : DriveView) → IsDrive other
    → held_in (after_done (TakeOut drive) room) other ≡ Some one → held_in room other ≡ Some one
was_emptied drive room is is_drive other one is_other now = elim (was_set room.drives drive other None one is.drives.four is_drive is_other now) [
  | inl here ↦ absurd (let no : ◌≡◌ {A = Option DriveView} None (Some one) = here.1 in cc)
  | inr there ↦ there.1
]

pub does_take_out : {T : Type 0} (drive : ℕ) (value : T) (room new : RoomView) (disk : DiskView) → IsRoom room → CanDo (TakeOut drive) room
    → new ≡ after_done (TakeOut drive) room → Does {T = T} (TakeOut drive ∷ []) (Ok value) room new disk disk
does_take_out {T} drive value room new disk is can made =
    does_in_memory {T = T} (TakeOut drive) value room new disk can tt made (λ file. refl)
    (λ told known founded ready. ready_as known room (after_done (TakeOut drive) room) disk (λ opens. opens) refl
    (λ other one is_other now. record { old = one; held = was_emptied drive room is can.needs.0 other one is_other now; volume = refl }) ready)

-- ---- sessions

-- the drives stay as they are
ready_sessions : (known : Known) (room new : RoomView) (disk : DiskView) → (IsTrue new.is_open → IsTrue room.is_open) → new.journal ≡ room.journal
    → new.drives ≡ room.drives → Ready known room disk → Ready known new disk
ready_sessions known room new disk opens journal drives ready =
    ready_as known room new disk opens journal
    (λ other one is_other now. record {
      old = one;
      held = ap (λ (all : List (Option DriveView)). in_drive all other) (sym drives) ∙ now;
      volume = refl;
    }) ready

pub does_open : {T : Type 0} (head : SetHead) (value : T) (room new : RoomView) (disk : DiskView) → CanDo (Open head) room → new ≡ after_done (Open head) room
    → Does {T = T} (Open head ∷ []) (Ok value) room new disk disk
does_open {T} head value room new disk can made =
    does_in_memory {T = T} (Open head) value room new disk can tt made (λ file. refl)
    (λ told known founded ready. ready_sessions known room (after_done (Open head) room) disk (λ opens. opens) refl refl ready)

pub does_take : {T : Type 0} (ssid : ℕ) (piece : List ℕ) (value : T) (room new : RoomView) (disk : DiskView) → CanDo (Take ssid piece) room
    → new ≡ after_done (Take ssid piece) room → Does {T = T} (Take ssid piece ∷ []) (Ok value) room new disk disk
does_take {T} ssid piece value room new disk can made =
    does_in_memory {T = T} (Take ssid piece) value room new disk can tt made (λ file. refl)
    (λ told known founded ready. ready_sessions known room (after_done (Take ssid piece) room) disk (λ opens. opens) refl refl ready)

pub does_close : {T : Type 0} (ssid : ℕ) (value : T) (room new : RoomView) (disk : DiskView) → CanDo (Close ssid) room → new ≡ after_done (Close ssid) room
    → Does {T = T} (Close ssid ∷ []) (Ok value) room new disk disk
does_close {T} ssid value room new disk can made =
    does_in_memory {T = T} (Close ssid) value room new disk can tt made (λ file. refl)
    (λ told known founded ready. ready_sessions known room (after_done (Close ssid) room) disk (λ opens. opens) refl refl ready)
