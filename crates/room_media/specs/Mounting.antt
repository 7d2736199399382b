-- The plans of mounting and unmounting.
use Rattle.std.specs.Prelude.{◌≡◌, ℕ, ◌==◌, ◌&&◌, nat_le, Bool, List, [], ◌∷◌, ◌++◌, codes, decimal}
use Rattle.std.specs.Prelude.{Option, Some, None, Result, Ok, Err, if◌then◌else◌}
use Rattle.std.specs.Option.{is_some}
use Rattle.room_base.specs.declared.numbers.Cart.{Cart}
use Rattle.room_base.specs.declared.numbers.Volid.{Volid}
use Rattle.room_base.specs.declared.refusal.Refusal.{Refusal}
use Rattle.room_base.specs.declared.refusal.Refusal.TheVariants as refusals
use Rattle.media_db.specs.Rows.{volume_on}
use Rattle.media_db.specs.declared.volumes.VolumeRec.{VolumeRec}
use Rattle.slot_changer.specs.Drives.{DriveView, blocks_in}
use Rattle.volume_store.specs.declared.commit.Volume.{Volume}
use Rattle.volume_store.specs.declared.label.Found.{Found}
use Rattle.volume_store.specs.declared.label.Found.TheVariants as found
use Rattle.volume_store.specs.declared.marks.MountFault.{MountFault}
use Rattle.volume_store.specs.declared.marks.MountFault.TheVariants as mounts
use Rattle.room_command.specs.declared.answer.Answer.TheVariants.{Empty, Mounted}
use Rattle.room_command.specs.declared.reply.Reply.TheVariants.{Done}
use Rattle.room_effects.specs.View.{RoomView, held_in}
use Rattle.room_effects.specs.Effects.{
  Effect,
  Commit,
  Look,
  PutIn,
  SeenLabel,
  SeenVolume,
  TakeOut,
}
use Rattle.room_effects.specs.Checked.{behind, behind_check, checked, unless}
use Rattle.room_effects.specs.Plans.{Plan, Do}
use Rattle.room_media.specs.Slots.{free_cart, is_slot}

-- ---- the label of a cartridge, beside its volume on record

abbrev pub volid_or_none : Option VolumeRec → Volid
volid_or_none None = record { 0 = 0 }
volid_or_none (Some volume) = volume.volid

-- there is no label
abbrev pub no_label : Option VolumeRec → Cart → Refusal
no_label None cart = refusals.Unlabelled cart
no_label (Some volume) cart = refusals.LabelPending volume.volid (record { 0 = 0 })

-- The label is that of the volume on record. It may be that of the one before, where the labelling
-- stopped behind its entry.
abbrev pub own_label : Option VolumeRec → Volid → Result (Unit {0}) Refusal
own_label None volid = Err (refusals.Strange volid)
own_label (Some volume) volid =
    if volid.0 == volume.volid.0 then Ok tt
    else (if volid.0 == volume.was.0
    then Err (refusals.LabelPending volume.volid volume.was)
    else Err (refusals.Strange volid))

-- the label that was found
abbrev pub found_own : Option VolumeRec → Cart → Found → Result (Unit {0}) Refusal
found_own volume cart found.Blank = Err (no_label volume cart)
found_own volume cart found.Closed = Err (no_label volume cart)
found_own volume cart (found.Damaged bad) =
    Err (refusals.DamagedBlock (volid_or_none volume) 0)
found_own volume cart (found.Labelled label) = own_label volume label.volid

-- the volume that mounting gave
abbrev pub mounted_own : Option VolumeRec → Cart → Result Volume MountFault
    → Result Volume Refusal
mounted_own volume cart (Ok mounted) =
    behind_check (own_label volume mounted.label.volid) (λ done. Ok mounted)
mounted_own volume cart (Err mounts.Unlabelled) = Err (no_label volume cart)
mounted_own volume cart (Err (mounts.BadBlock number)) =
    Err (refusals.DamagedBlock (volid_or_none volume) number)
-- it is answered as a fault of the device
mounted_own volume cart (Err mounts.Failed) = Err (no_label volume cart)

-- ---- mounting

abbrev pub is_drive : ℕ → Bool
is_drive drive = nat_le 1 drive && nat_le drive 4

-- the drive is empty
abbrev pub into_empty : ℕ → Cart → Option DriveView → Result Cart Refusal
into_empty drive cart None = Ok cart
into_empty drive cart (Some one) = Err (refusals.DriveBusy drive one.volume.label.volid)

abbrev pub mount_checks : ℕ → ℕ → RoomView → Result Cart Refusal
mount_checks slot drive room = unless (is_slot slot) (refusals.Malformed (codes "slot"))
    (unless (is_drive drive) (refusals.Malformed (codes "drive"))
    (behind_check (free_cart slot room) (λ cart. into_empty drive cart (held_in room drive))))

abbrev pub put_in_plan : ℕ → Volume → Plan
put_in_plan drive volume =
    Do (PutIn drive volume ∷ []) (Done (Mounted drive volume.label.volid))

-- the volume is looked at, and put in
abbrev pub volume_plan : ℕ → Result Volume MountFault → Option VolumeRec → Cart → Plan
volume_plan drive answer volume cart = behind (Look cart.0 (SeenVolume answer))
    (checked (mounted_own volume cart answer) (put_in_plan drive))

-- the label is looked at before
abbrev pub cart_plan : ℕ → Found → Result Volume MountFault → Option VolumeRec → Cart → Plan
cart_plan drive found answer volume cart = behind (Look cart.0 (SeenLabel found))
    (checked (found_own volume cart found) (λ done. volume_plan drive answer volume cart))

abbrev pub mount_plan : ℕ → ℕ → Found → Result Volume MountFault → RoomView → Plan
mount_plan slot drive found answer room = checked (mount_checks slot drive room)
    (λ cart. cart_plan drive found answer (volume_on cart.0 room.catalogue.volumes) cart)

-- what a look at a cartridge gave: a volume is on that cartridge, and a failure is none
abbrev pub IsLookedAt : Cart → Result Volume MountFault → Type 0
IsLookedAt cart (Ok mounted) = mounted.cart ≡ cart
IsLookedAt cart (Err mounts.Failed) = ⊥
IsLookedAt cart (Err other) = Unit {0}

-- the same of the cartridge that the checks came to
abbrev pub IsOn : Result Cart Refusal → Result Volume MountFault → Type 0
IsOn (Ok cart) answer = IsLookedAt cart answer
IsOn (Err refusal) answer = Unit {0}

-- the plan for some label and some volume, which are found on the cartridge where they are looked at
abbrev pub IsMountPlan : ℕ → ℕ → RoomView → Plan → Type 0
IsMountPlan slot drive room plan = (found : Found) × (answer : Result Volume MountFault)
    × IsOn (mount_checks slot drive room) answer
    × (plan ≡ mount_plan slot drive found answer room)

-- ---- unmounting

abbrev pub unmount_checks : ℕ → RoomView → Result (Unit {0}) Refusal
unmount_checks drive room = unless (is_drive drive) (refusals.Malformed (codes "drive"))
    (unless (is_some (held_in room drive)) (refusals.NoSuch (codes "drive") (decimal drive))
    (Ok tt))

-- a buffer that has a block is committed
abbrev pub commit_some : ℕ → Option DriveView → List Effect
commit_some drive held = if blocks_in held == 0 then [] else (Commit drive None ∷ [])

abbrev pub emptying : ℕ → RoomView → List Effect
emptying drive room = commit_some drive (held_in room drive) ++ TakeOut drive ∷ []

abbrev pub unmount_plan : ℕ → RoomView → Plan
unmount_plan drive room =
    checked (unmount_checks drive room) (λ done. Do (emptying drive room) (Done Empty))
