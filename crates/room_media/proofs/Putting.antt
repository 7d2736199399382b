-- What is put into a drive.
use Rattle.std.proofs.Common.{◌≡◌, ℕ, ◌≤◌, refl, sym, ap, subst}
use Rattle.std.specs.Prelude.{◌≢◌, Option, None, IfOk, IsTrue, Result, Ok, Err}
use Rattle.room_base.specs.declared.numbers.Cart.{Cart}
use Rattle.room_base.specs.declared.refusal.Refusal.{Refusal}
use Rattle.media_db.specs.declared.volumes.VolumeRec.{VolumeRec}
use Rattle.volume_block.specs.Valid.{IsLabel}
use Rattle.volume_store.specs.Writes.{IsCart}
use Rattle.volume_store.specs.declared.commit.Volume.{Volume}
use Rattle.volume_store.specs.declared.marks.MountFault.{MountFault}
use Rattle.volume_store.specs.declared.marks.MountFault.TheVariants as mounts
use Rattle.slot_changer.specs.Drives.{IsDrive}
use Rattle.room_effects.specs.View.{RoomView, held_in}
use Rattle.room_effects.specs.Effects.{PutIn}
use Rattle.room_effects.specs.Needs.{CanDo, IsInNoDrive}
use Rattle.room_effects.specs.Checked.{behind_check}
use Rattle.room_media.specs.Mounting.{IsLookedAt, IsOn, mounted_own, own_label}

-- the volume that is the one on record is the one that mounting gave
pub own_is : (volume : Option VolumeRec) (cart : Cart) (answer : Result Volume MountFault) (mounted : Volume) → Ok mounted ≡ mounted_own volume cart answer → answer ≡ Ok mounted
own_is volume cart (Ok given) mounted is = by (own_label volume given.label.volid) is
  where
    by : (checks : Result (Unit {0}) Refusal) → Ok mounted ≡ behind_check {X = Unit {0}} {Y = Volume} checks (λ done. Ok given) → ◌≡◌ {A = Result Volume MountFault} (Ok given) (Ok mounted)
    by (Ok done) is = let same : mounted ≡ given = cc is in ap (λ (v : Volume). Ok v) (sym same)
    by (Err refusal) is = absurd (cc is)
own_is volume cart (Err mounts.Unlabelled) mounted is = absurd (cc is)
own_is volume cart (Err (mounts.BadBlock number)) mounted is = absurd (cc is)
own_is volume cart (Err mounts.Failed) mounted is = absurd (cc is)

pub can_put : (drive : ℕ) (cart : Cart) (room : RoomView) (answer : Result Volume MountFault) (volume : Volume) → answer ≡ Ok volume → IsTrue room.is_open → IsDrive drive
    → held_in room drive ≡ None → IsCart cart.0 → IsInNoDrive cart.0 room → IfOk answer (λ v. v.cart ≡ cart) → IfOk answer (λ v. IsLabel v.label)
    → IfOk answer (λ v. 1 ≤ v.mark) → CanDo (PutIn drive volume) room
can_put drive cart room answer volume is opens is_drive empty is_cart in_no_drive same label mark =
    let Same : Result Volume MountFault → Type 0 = λ a. IfOk a (λ v. v.cart ≡ cart) in
    let Label : Result Volume MountFault → Type 0 = λ a. IfOk a (λ v. IsLabel v.label) in
    let Mark : Result Volume MountFault → Type 0 = λ a. IfOk a (λ v. 1 ≤ v.mark) in
    let here : volume.cart ≡ cart = subst Same is same in
    let C : Cart → Type 0 = λ one. IsCart one.0 in
    let N : Cart → Type 0 = λ one. IsInNoDrive one.0 room in
    record {
      opens = opens;
      needs = record {
        is_drive = is_drive;
        empty = empty;
        is_cart = subst C (sym here) is_cart;
        allowed = subst Label is label;
        mark = subst Mark is mark;
        in_no_drive = subst N (sym here) in_no_drive;
      };
    }

-- ---- on which cartridge

pub looked_at : (cart : Cart) (answer : Result Volume MountFault) → answer ≢ Err mounts.Failed → IfOk answer (λ v. v.cart ≡ cart) → IsLookedAt cart answer
looked_at cart (Ok mounted) done same = same
looked_at cart (Err mounts.Unlabelled) done same = tt
looked_at cart (Err (mounts.BadBlock number)) done same = tt
looked_at cart (Err mounts.Failed) done same = absurd (done refl)

pub none_on : (cart : Result Cart Refusal) → IsOn cart (Err mounts.Unlabelled)
none_on (Ok cart) = tt
none_on (Err refusal) = tt
