-- The plans of commands on slots, cartridges and drives.
use Rattle.std.proofs.Common.{◌≡◌, ℕ, Bool, List, [], ◌∷◌, ◌++◌, not, true, inl, inr, if◌then◌else◌, refl, sym, subst, arith}
use Rattle.std.proofs.lemmas.Bool.{cond-true, cond_both}
use Rattle.std.proofs.lemmas.Bool.Decides.{eqb_tells}
use Rattle.std.specs.Option.{is_some}
use Rattle.std.specs.Prelude.{codes, decimal, IsSome, None, Ok, Err, Option, Result, Some, ◌==◌}
use Rattle.room_base.specs.declared.numbers.Cart.{Cart}
use Rattle.room_base.specs.declared.numbers.Moment.{Moment}
use Rattle.room_base.specs.declared.numbers.Ssid.{Ssid}
use Rattle.room_base.specs.declared.numbers.Volid.{Volid}
use Rattle.room_base.specs.declared.refusal.Refusal.{Refusal}
use Rattle.room_base.specs.declared.refusal.Refusal.TheVariants as refusals
use Rattle.media_db.specs.Rows.{volume_on}
use Rattle.media_db.specs.declared.volumes.VolumeRec.{VolumeRec}
use Rattle.catalog_change.specs.declared.change.Change.TheVariants as changes
use Rattle.catalog_change.specs.declared.slot.FilledSlot.{FilledSlot}
use Rattle.slot_changer.specs.Drives.{DriveView, blocks_in}
use Rattle.volume_store.specs.declared.commit.Volume.{Volume}
use Rattle.volume_store.specs.declared.label.Found.{Found}
use Rattle.volume_store.specs.declared.label.Found.TheVariants as found
use Rattle.volume_store.specs.declared.marks.MountFault.{MountFault}
use Rattle.volume_store.specs.declared.marks.MountFault.TheVariants as mounts
use Rattle.room_command.specs.declared.answer.Answer.TheVariants as answers
use Rattle.room_command.specs.declared.reply.Reply.TheVariants as replies
use Rattle.room_effects.specs.View.{RoomView, held_in}
use Rattle.room_effects.specs.Effects.{Commit, Effect, Enter, Seen, SeenLabel, SeenVolume, TakeOut, WriteLabel}
use Rattle.room_effects.specs.Running.{Known, known_of, nothing_known}
use Rattle.room_effects.specs.Checked.{behind_check, checked, unless}
use Rattle.room_effects.specs.Plans.{Plan}
use Rattle.room_media.specs.Inventory.{inventory_plan}
use Rattle.room_media.specs.Labelling.{IsLabelPlan, has_pool, is_block, is_capacity, is_known_label, label_checks, label_of, label_was, may_replace, new_volume_plan, next_volid, old_label, units_of}
use Rattle.room_media.specs.Mounting.{IsMountPlan, IsOn, cart_plan, found_own, into_empty, is_drive, mount_checks, mounted_own, no_label, own_label, put_in_plan, unmount_checks, unmount_plan, volume_plan}
use Rattle.room_media.specs.Slots.{cart_in, drive_with, eject_checks, eject_plan, free_cart, free_of, in_no_drive, in_no_slot, is_cart, is_slot, load_checks, load_plan, slot_with}
use Rattle.room_media.specs.declared.labelling.NewVolume.{NewVolume}
use Rattle.room_turns.specs.Orderly.{AreOrderly, IsNoFault, IsOrderly}
use Rattle.room_turns.proofs.Orderly.{NoFaultIn, no_fault_behind, no_fault_unless, orderly_behind, orderly_checked, orderly_entering}

-- ---- slots

slot_fine : (filled : Option FilledSlot) → NoFaultIn {X = Unit {0}} (in_no_slot filled)
slot_fine None = tt
slot_fine (Some filled) = tt

load_fine : (slot cart : ℕ) (room : RoomView) → NoFaultIn {X = Unit {0}} (load_checks slot cart room)
load_fine slot cart room =
    let found = in_no_slot (slot_with cart room.catalogue.slots) in
    let empty = unless {X = Unit {0}} (not (is_some (cart_in slot room))) (refusals.Exists (codes "slot") (decimal slot)) found in
    let numbered = unless {X = Unit {0}} (is_cart cart) (refusals.Malformed (codes "cart")) empty in
    no_fault_unless {X = Unit {0}} (is_slot slot) (refusals.Malformed (codes "slot")) numbered tt
    (no_fault_unless {X = Unit {0}} (is_cart cart) (refusals.Malformed (codes "cart")) empty tt
    (no_fault_unless {X = Unit {0}} (not (is_some (cart_in slot room))) (refusals.Exists (codes "slot") (decimal slot)) found tt
    (slot_fine (slot_with cart room.catalogue.slots))))

pub load_orderly : (m : Moment) (slot : ℕ) (cart : Cart) (room : RoomView) → IsOrderly nothing_known (load_plan m slot cart room) room
load_orderly m slot cart room =
    orderly_checked {X = Unit {0}} nothing_known (load_checks slot cart.0 room) _ room (load_fine slot cart.0 room)
    (λ done. orderly_entering nothing_known (Enter m (changes.Loaded slot cart) ∷ []) answers.Empty room (λ one. (tt, tt)) (omega arith))

drive_fine : (cart : Cart) (drive : Option ℕ) → NoFaultIn {X = Cart} (in_no_drive cart drive)
drive_fine cart None = tt
drive_fine cart (Some drive) = tt

free_of_fine : (slot : ℕ) (cart : Option Cart) (room : RoomView) → NoFaultIn {X = Cart} (free_of slot cart room)
free_of_fine slot None room = tt
free_of_fine slot (Some cart) room = drive_fine cart (drive_with cart.0 room)

free_fine : (slot : ℕ) (room : RoomView) → NoFaultIn {X = Cart} (free_cart slot room)
free_fine slot room = free_of_fine slot (cart_in slot room) room

pub eject_orderly : (m : Moment) (slot : ℕ) (room : RoomView) → IsOrderly nothing_known (eject_plan m slot room) room
eject_orderly m slot room =
    orderly_checked {X = Cart} nothing_known (eject_checks slot room) _ room
    (no_fault_unless {X = Cart} (is_slot slot) (refusals.Malformed (codes "slot")) (free_cart slot room) tt (free_fine slot room))
    (λ cart. orderly_entering nothing_known (Enter m (changes.Ejected slot) ∷ []) answers.Empty room (λ one. (tt, tt)) (omega arith))

pub inventory_orderly : (room : RoomView) → IsOrderly nothing_known (inventory_plan room) room
inventory_orderly room = record { founded = tt; few = omega arith; replied = tt }

-- ---- mounting

label_fine : (volume : Option VolumeRec) (cart : Cart) → IsNoFault (no_label volume cart)
label_fine None cart = tt
label_fine (Some volume) cart = tt

own_fine : (volume : Option VolumeRec) (volid : Volid) → NoFaultIn {X = Unit {0}} (own_label volume volid)
own_fine None volid = tt
own_fine (Some volume) volid =
    let other = if_was volume volid in
    cond_both (volid.0 == volume.volid.0) (Ok tt) other (λ (one : Result (Unit {0}) Refusal). NoFaultIn {X = Unit {0}} one) (λ same. tt)
    (λ apart. cond_both (volid.0 == volume.was.0) (Err (refusals.LabelPending volume.volid volume.was)) (Err (refusals.Strange volid))
    (λ (one : Result (Unit {0}) Refusal). NoFaultIn {X = Unit {0}} one) (λ same. tt) (λ strange. tt))
  where
    if_was : VolumeRec → Volid → Result (Unit {0}) Refusal
    if_was volume volid = if volid.0 == volume.was.0 then Err (refusals.LabelPending volume.volid volume.was) else Err (refusals.Strange volid)

found_fine : (volume : Option VolumeRec) (cart : Cart) (one : Found) → NoFaultIn {X = Unit {0}} (found_own volume cart one)
found_fine volume cart found.Blank = label_fine volume cart
found_fine volume cart found.Closed = label_fine volume cart
found_fine volume cart (found.Damaged bad) = tt
found_fine volume cart (found.Labelled label) = own_fine volume label.volid

empty_fine : (drive : ℕ) (cart : Cart) (held : Option DriveView) → NoFaultIn {X = Cart} (into_empty drive cart held)
empty_fine drive cart None = tt
empty_fine drive cart (Some one) = tt

mount_fine : (slot drive : ℕ) (room : RoomView) → NoFaultIn {X = Cart} (mount_checks slot drive room)
mount_fine slot drive room =
    let free = behind_check {X = Cart} {Y = Cart} (free_cart slot room) (λ cart. into_empty drive cart (held_in room drive)) in
    no_fault_unless {X = Cart} (is_slot slot) (refusals.Malformed (codes "slot")) (unless {X = Cart} (is_drive drive) (refusals.Malformed (codes "drive")) free) tt
    (no_fault_unless {X = Cart} (is_drive drive) (refusals.Malformed (codes "drive")) free tt
    (no_fault_behind {X = Cart} {Y = Cart} (free_cart slot room) _ (free_fine slot room) (λ cart. empty_fine drive cart (held_in room drive))))

known_same : (known : Known) (cart : ℕ) (seen : Seen) → known_of cart seen known cart ≡ Some seen
known_same known cart seen = cond-true (cart == cart) (Some seen) (known cart) (eqb_same cart)
  where
    eqb_same : (a : ℕ) → (a == a) ≡ true
    eqb_same a = elim (eqb_tells a a) [
      | inl is ↦ is.0
      | inr not ↦ absurd (not.1 refl)
    ]

-- the volume that was mounted is put in
put_orderly : (known : Known) (drive : ℕ) (volume : Option VolumeRec) (cart : Cart) (answer : Result Volume MountFault) (room : RoomView) → IsOn (Ok cart) answer
    → IsOrderly (known_of cart.0 (SeenVolume answer) known) (checked {X = Volume} (mounted_own volume cart answer) (put_in_plan drive)) room
put_orderly known drive volume cart (Ok mounted) room on = by (own_label volume mounted.label.volid) (own_fine volume mounted.label.volid)
  where
    here : Known
    here = known_of cart.0 (SeenVolume (Ok mounted)) known

    by : (own : Result (Unit {0}) Refusal) → NoFaultIn {X = Unit {0}} own
        → IsOrderly here (checked {X = Volume} (behind_check {X = Unit {0}} {Y = Volume} own (λ done. Ok mounted)) (put_in_plan drive)) room
    by (Ok done) fine = record {
      founded = (let K : Cart → Type 0 = λ one. here one.0 ≡ Some (SeenVolume (Ok mounted)) in subst K (sym on) (known_same known cart.0 (SeenVolume (Ok mounted))), tt);
      few = omega arith;
      replied = tt;
    }
    by (Err refusal) fine = fine
put_orderly known drive volume cart (Err mounts.Unlabelled) room on = label_fine volume cart
put_orderly known drive volume cart (Err (mounts.BadBlock number)) room on = tt
put_orderly known drive volume cart (Err mounts.Failed) room on = label_fine volume cart

mount_on : (drive : ℕ) (one : Found) (answer : Result Volume MountFault) (room : RoomView) (checks : Result Cart Refusal) → NoFaultIn {X = Cart} checks → IsOn checks answer
    → IsOrderly nothing_known (checked {X = Cart} checks (λ cart. cart_plan drive one answer (volume_on cart.0 room.catalogue.volumes) cart)) room
mount_on drive one answer room (Err refusal) fine on = fine
mount_on drive one answer room (Ok cart) fine on =
    let volume = volume_on cart.0 room.catalogue.volumes in
    let known = known_of cart.0 (SeenLabel one) nothing_known in
    orderly_behind nothing_known cart.0 (SeenLabel one) (checked {X = Unit {0}} (found_own volume cart one) (λ done. volume_plan drive answer volume cart)) room
    (orderly_checked {X = Unit {0}} known (found_own volume cart one) _ room (found_fine volume cart one)
    (λ done. orderly_behind known cart.0 (SeenVolume answer) (checked {X = Volume} (mounted_own volume cart answer) (put_in_plan drive)) room
    (put_orderly known drive volume cart answer room on)))

pub mount_orderly : (slot drive : ℕ) (room : RoomView) (plan : Plan) → IsMountPlan slot drive room plan → IsOrderly nothing_known plan room
mount_orderly slot drive room plan is =
    let P : Plan → Type 0 = λ one. IsOrderly nothing_known one room in
    subst P (sym is.3) (mount_on drive is.0 is.1 room (mount_checks slot drive room) (mount_fine slot drive room) is.2)

-- ---- unmounting

unmount_fine : (drive : ℕ) (room : RoomView) → NoFaultIn {X = Unit {0}} (unmount_checks drive room)
unmount_fine drive room =
    let held = unless {X = Unit {0}} (is_some (held_in room drive)) (refusals.NoSuch (codes "drive") (decimal drive)) (Ok tt) in
    no_fault_unless {X = Unit {0}} (is_drive drive) (refusals.Malformed (codes "drive")) held tt
    (no_fault_unless {X = Unit {0}} (is_some (held_in room drive)) (refusals.NoSuch (codes "drive") (decimal drive)) (Ok tt) tt tt)

pub unmount_orderly : (drive : ℕ) (room : RoomView) → IsOrderly nothing_known (unmount_plan drive room) room
unmount_orderly drive room =
    orderly_checked {X = Unit {0}} nothing_known (unmount_checks drive room) _ room (unmount_fine drive room)
    (λ done. cond_both (blocks_in (held_in room drive) == 0) [] (Commit drive None ∷ [])
    (λ (list : List Effect). AreOrderly nothing_known (list ++ TakeOut drive ∷ []) (replies.Done answers.Empty) room)
    (λ none. record { founded = (tt, tt); few = omega arith; replied = tt })
    (λ some. record { founded = (tt, (tt, tt)); few = omega arith; replied = tt }))

-- ---- labelling

label_checks_fine : (named : Bool) (slot : ℕ) (pool : List ℕ) (capacity : ℕ) (block : Option ℕ) (room : RoomView)
    → NoFaultIn {X = NewVolume} (label_checks named slot pool capacity block room)
label_checks_fine named slot pool capacity block room =
    let new : Cart → Result NewVolume Refusal = λ cart. Ok (record { cart = cart; pool = pool; capacity = capacity; units = units_of block }) in
    let free = behind_check {X = Cart} {Y = NewVolume} (free_cart slot room) new in
    let there = unless {X = NewVolume} (has_pool pool room) (refusals.NoSuch (codes "pool") pool) free in
    let sized = unless {X = NewVolume} (is_capacity (units_of block) capacity) (refusals.Malformed (codes "capacity")) there in
    let blocked = unless {X = NewVolume} (is_block block) (refusals.Malformed (codes "block")) sized in
    let called = unless {X = NewVolume} named (refusals.Malformed (codes "pool")) blocked in
    no_fault_unless {X = NewVolume} (is_slot slot) (refusals.Malformed (codes "slot")) called tt
    (no_fault_unless {X = NewVolume} named (refusals.Malformed (codes "pool")) blocked tt
    (no_fault_unless {X = NewVolume} (is_block block) (refusals.Malformed (codes "block")) sized tt
    (no_fault_unless {X = NewVolume} (is_capacity (units_of block) capacity) (refusals.Malformed (codes "capacity")) there tt
    (no_fault_unless {X = NewVolume} (has_pool pool room) (refusals.NoSuch (codes "pool") pool) free tt
    (no_fault_behind {X = Cart} {Y = NewVolume} (free_cart slot room) new (free_fine slot room) (λ cart. tt))))))

was_fine : (volume : Option VolumeRec) (one : Found) → NoFaultIn {X = Volid} (label_was volume one)
was_fine volume found.Blank = tt
was_fine volume found.Closed = tt
was_fine None (found.Damaged bad) = tt
was_fine (Some volume) (found.Damaged bad) = tt
was_fine volume (found.Labelled label) =
    no_fault_unless {X = Volid} (is_known_label volume label.volid) (refusals.Strange label.volid) (Ok label.volid) tt tt

replace_fine : (volume : Option VolumeRec) (asked : Option (Result (Unit {0}) Ssid)) → NoFaultIn {X = Unit {0}} (may_replace volume asked)
replace_fine None asked = tt
replace_fine (Some volume) None = tt
replace_fine (Some volume) (Some (Ok done)) = tt
replace_fine (Some volume) (Some (Err ssid)) = tt

old_fine : (volume : Option VolumeRec) (one : Found) (asked : Option (Result (Unit {0}) Ssid)) → NoFaultIn {X = Volid} (old_label volume one asked)
old_fine volume one asked =
    no_fault_behind {X = Volid} {Y = Volid} (label_was volume one) (λ was. behind_check {X = Unit {0}} {Y = Volid} (may_replace volume asked) (λ done. Ok was)) (was_fine volume one)
    (λ was. no_fault_behind {X = Unit {0}} {Y = Volid} (may_replace volume asked) (λ done. Ok was) (replace_fine volume asked) (λ done. tt))

new_orderly : (known : Known) (m : Moment) (new : NewVolume) (was : Volid) (seen : Seen) (room : RoomView)
    → IsOrderly (known_of new.cart.0 seen known) (new_volume_plan m new was room) room
new_orderly known m new was seen room =
    let volid = next_volid room in
    orderly_entering (known_of new.cart.0 seen known)
    (Enter m (changes.Labelled volid new.cart new.pool new.capacity was) ∷ WriteLabel (label_of m volid new) ∷ []) (answers.Labelled new.cart volid) room
    (λ one. (let S : Option Seen → Type 0 = λ held. IsSome held in
    (tt, (subst S (sym (known_same known new.cart.0 seen)) refl, tt)))) (omega arith)

pub label_orderly : (m : Moment) (slot : ℕ) (pool : List ℕ) (capacity : ℕ) (block : Option ℕ) (room : RoomView) (plan : Plan)
    → IsLabelPlan m slot pool capacity block room plan → IsOrderly nothing_known plan room
label_orderly m slot pool capacity block room plan is =
    let P : Plan → Type 0 = λ one. IsOrderly nothing_known one room in
    subst P (sym is.is)
    (orderly_checked {X = NewVolume} nothing_known (label_checks is.named slot pool capacity block room) _ room (label_checks_fine is.named slot pool capacity block room)
    (λ new. (let volume = volume_on new.cart.0 room.catalogue.volumes in
    orderly_behind nothing_known new.cart.0 (SeenLabel is.found)
    (checked {X = Volid} (old_label volume is.found is.asked) (λ was. new_volume_plan m new was room)) room
    (orderly_checked {X = Volid} (known_of new.cart.0 (SeenLabel is.found) nothing_known) (old_label volume is.found is.asked) _ room (old_fine volume is.found is.asked)
    (λ was. new_orderly nothing_known m new was (SeenLabel is.found) room)))))
