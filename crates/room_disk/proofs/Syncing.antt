-- A sync adds nothing to what a crash may leave.
use Rattle.std.proofs.Common.{◌≡◌, ◌⊎◌, ℕ, ◌≤◌, List, ◌∷◌, length, refl, sym, subst, arith, inl, inr, Result, Ok, Err, OnOk, OnErr}
use Rattle.room_disk.specs.declared.disk_event.DiskEvent.{DiskEvent}
use Rattle.room_disk.specs.declared.disk_event.DiskEvent.TheVariants.{Synced}
use Rattle.room_disk.specs.Disk.{Image, Quiet}
use Rattle.room_disk.specs.Laws.{may_leave_read, left_now}
use Rattle.room_disk.specs.Memory.{StoreInMemory, told_store}
use Rattle.room_disk.specs.Past.{Past, listed, MayLeave, MightHaveLeft}

leaves_less : (first : Image) (older : List DiskEvent) (synced file : ℕ) (bytes : List ℕ) → MayLeave first (Synced synced ∷ older) file bytes → MayLeave first older file bytes
leaves_less first older synced file bytes left = elim left [
  | inl here ↦ subst (MayLeave first older file) (sym here.1) (may_leave_read first older file)
  | inr elsewhere ↦ elsewhere.1
]

since_less : (first : Image) (older : List DiskEvent) (synced moment : ℕ) (image : Image) → moment ≤ length older
    → MightHaveLeft first (Synced synced ∷ older) moment image → MightHaveLeft first older moment image
since_less first older synced moment image le left = elim left [
  | inl now ↦ left_now first older moment image le (λ file. leaves_less first older synced file (image file) (now.1 file))
  | inr before ↦ before
]

-- the event was done, or nothing was
pub done_or_not : {T E : Type 0} (done : Result T E) (old new : Past) (event : DiskEvent) → OnOk done (new ≡ record old { events = event ∷ old.events })
    → OnErr done (new ≡ old) → (new ≡ old) ⊎ (new ≡ record old { events = event ∷ old.events })
done_or_not (Ok done) old new event ok err = inr ok
done_or_not (Err fault) old new event ok err = inl err

pub quiet_sync : (old new : StoreInMemory) (synced : ℕ) → (new.past ≡ old.past) ⊎ (new.past ≡ record old.past { events = Synced synced ∷ old.past.events })
    → Quiet (told_store old) (told_store new)
quiet_sync old new synced which = elim which [
  | inl same ↦
      let P : Past → Type 0 = λ past. Quiet (told_store old) (told_store (record new { past = past })) in
      subst P (sym same) (record { reads = λ file. refl; leaves = λ file bytes left. left; later = omega arith; since = λ moment image le left. left })
  | inr done ↦
      let P : Past → Type 0 = λ past. Quiet (told_store old) (told_store (record new { past = past })) in
      subst P (sym done) (record {
        reads = λ file. refl;
        leaves = λ file bytes left. leaves_less (listed old.past.first) old.past.events synced file bytes left;
        later = omega arith;
        since = λ moment image le left. since_less (listed old.past.first) old.past.events synced moment image le left;
      })
]
