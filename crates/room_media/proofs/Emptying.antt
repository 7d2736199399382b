-- How a drive is emptied.
use Rattle.std.proofs.Common.{◌≡◌, ◌≢◌, ℕ, List, [], ◌∷◌, ◌++◌, refl, sym, ap, subst, inl, inr}
use Rattle.std.proofs.lemmas.Bool.Decides.{eqb_tells}
use Rattle.std.specs.Prelude.{Option, Some, None, IsTrue, Ok}
use Rattle.std.specs.Option.{option_map}
use Rattle.room_disk.specs.Disk.{DiskView}
use Rattle.slot_changer.specs.Drives.{DriveView, IsDrive, MayTakeOut, after_commit, blocks_in}
use Rattle.slot_changer.proofs.Changing.{set_same}
use Rattle.room_command.specs.declared.answer.Answer.TheVariants.{Empty}
use Rattle.room_command.specs.declared.reply.Reply.TheVariants.{Done}
use Rattle.room_effects.specs.View.{RoomView, IsRoom, held_in}
use Rattle.room_effects.specs.Effects.{Commit, Effect, TakeOut, after_done}
use Rattle.room_effects.specs.Needs.{CanDo}
use Rattle.room_effects.specs.Running.{Does}
use Rattle.room_effects.proofs.Does.{does_then}
use Rattle.room_effects.proofs.Memory.{after_one}
use Rattle.room_effects.proofs.Sending.{does_take_out}
use Rattle.room_effects.specs.Plans.{Do, Follows}
use Rattle.room_effects.proofs.Following.{follows_done}
use Rattle.room_media.specs.Mounting.{commit_some, emptying}

-- ---- a buffer without blocks

emptied_at_once : (drive : ℕ) (room : RoomView) → blocks_in (held_in room drive) ≡ 0 → TakeOut drive ∷ [] ≡ emptying drive room
emptied_at_once drive room none =
    let none_first : commit_some drive (held_in room drive) ≡ [] = rw none refl in
    sym (ap (λ (first : List Effect). first ++ TakeOut drive ∷ []) none_first)

may_take : (held : Option DriveView) → blocks_in held ≡ 0 → MayTakeOut held
may_take None none = tt
may_take (Some one) none = inl none

pub follows_empty : (drive : ℕ) (room new : RoomView) (disk : DiskView) → IsRoom room → IsTrue room.is_open → IsDrive drive → blocks_in (held_in room drive) ≡ 0
    → new ≡ after_done (TakeOut drive) room → Follows (Do (emptying drive room) (Done Empty)) (Done Empty) room new disk disk
follows_empty drive room new disk is opens is_drive none made =
    let F : List Effect → Type 0 = λ effects. Follows (Do effects (Done Empty)) (Done Empty) room new disk disk in
    subst F (emptied_at_once drive room none) (follows_done (TakeOut drive ∷ []) (Done Empty) room new disk disk
    (does_take_out {T = Unit {0}} drive tt room new disk is (record { opens = opens; needs = (is_drive, may_take (held_in room drive) none) }) made))

-- ---- one with blocks

pub committed_first : (drive : ℕ) (room : RoomView) → blocks_in (held_in room drive) ≢ 0 → Commit drive None ∷ (TakeOut drive ∷ []) ≡ emptying drive room
committed_first drive room some = elim (eqb_tells (blocks_in (held_in room drive)) 0) [
  | inl is ↦ absurd (some is.1)
  | inr isnt ↦ (let first : commit_some drive (held_in room drive) ≡ Commit drive None ∷ [] = rw isnt.0 refl in
      sym (ap (λ (effects : List Effect). effects ++ TakeOut drive ∷ []) first))
]

taken_behind : (held : Option DriveView) → MayTakeOut (option_map after_commit held)
taken_behind None = tt
taken_behind (Some one) = inl refl

can_take : (drive : ℕ) (room mid : RoomView) → IsRoom room → IsTrue room.is_open → IsDrive drive → mid ≡ after_done (Commit drive None) room → CanDo (TakeOut drive) mid
can_take drive room mid is opens is_drive made =
    let C : RoomView → Type 0 = λ one. CanDo (TakeOut drive) one in
    let M : Option DriveView → Type 0 = λ held. MayTakeOut held in
    subst C (sym made) (record {
      opens = opens;
      needs = (is_drive, subst M (sym (set_same room.drives drive (option_map after_commit (held_in room drive)) is.drives.four is_drive)) (taken_behind (held_in room drive)));
    })

pub follows_committed : (drive : ℕ) (room mid new : RoomView) (before now : DiskView) → IsRoom room → IsRoom mid → IsTrue room.is_open → IsDrive drive
    → blocks_in (held_in room drive) ≢ 0 → Does {T = Unit {0}} (Commit drive None ∷ []) (Ok tt) room mid before now → new ≡ after_done (TakeOut drive) mid
    → Follows (Do (emptying drive room) (Done Empty)) (Done Empty) room new before now
follows_committed drive room mid new before now is still opens is_drive some does made =
    let F : List Effect → Type 0 = λ effects. Follows (Do effects (Done Empty)) (Done Empty) room new before now in
    let can = can_take drive room mid is opens is_drive (after_one {T = Unit {0}} (Commit drive None) tt room mid before now does) in
    subst F (committed_first drive room some) (follows_done (Commit drive None ∷ (TakeOut drive ∷ [])) (Done Empty) room new before now
    (does_then {T = Unit {0}} {U = Unit {0}} (Commit drive None) (TakeOut drive ∷ []) tt (Ok tt) room mid new before now now does
    (does_take_out {T = Unit {0}} drive tt mid new now still can made)))
