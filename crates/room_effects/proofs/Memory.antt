-- Effects that write no file, and what effects that are all done make of the room.
use Rattle.std.proofs.Common.{◌≡◌, ℕ, List, [], ◌∷◌, refl, sym, ap, ◌∙◌, subst, arith, inl}
use Rattle.std.specs.Prelude.{IsTrue, Ok}
use Rattle.room_disk.specs.Disk.{DiskView}
use Rattle.room_effects.specs.View.{RoomView}
use Rattle.room_effects.specs.Effects.{Effect, Deed, Done, Broken, after, after_all, after_done}
use Rattle.room_effects.specs.Files.{Whole, target}
use Rattle.room_effects.specs.Needs.{CanDo}
use Rattle.room_effects.specs.Running.{Does, IsFounded, IsWritten, Known, RanTo, Ready, known_behind}

-- ---- the deeds of effects that are all done

pub done_all : List Effect → List Deed
done_all [] = []
done_all (effect ∷ effects) = Done effect ∷ done_all effects

pub ran_all : {T : Type 0} (effects : List Effect) (value : T) (room : RoomView) (deeds : List Deed)
    → RanTo {T = T} effects room (Ok value) deeds → deeds ≡ done_all effects
unfolding done_all
ran_all [] value room [] ran = refl
ran_all [] value room (deed ∷ deeds) ran = absurd ran
ran_all (effect ∷ effects) value room [] ran = absurd ran
ran_all (effect ∷ effects) value room (Done one ∷ deeds) ran =
    ap (λ (e : Effect). Done e ∷ deeds) ran.0
    ∙ ap (λ (rest : List Deed). Done effect ∷ rest) (ran_all effects value (after (Done one) room) deeds ran.1)
ran_all (effect ∷ effects) value room (Broken one ∷ deeds) ran = absurd ran

-- the room after effects that are all done
pub room_after : {T : Type 0} (effects : List Effect) (value : T) (old new : RoomView) (before now : DiskView)
    → Does {T = T} effects (Ok value) old new before now → new ≡ after_all (done_all effects) old
room_after effects value old new before now does =
    does.performed.room ∙ ap (λ (deeds : List Deed). after_all deeds old) (ran_all effects value old does.deeds does.ran)

pub after_one : {T : Type 0} (effect : Effect) (value : T) (old new : RoomView) (before now : DiskView)
    → Does {T = T} (effect ∷ []) (Ok value) old new before now → new ≡ after_done effect old
unfolding done_all
after_one effect value old new before now does = room_after (effect ∷ []) value old new before now does

-- ---- an effect in memory alone

pub does_in_memory : {T : Type 0} (effect : Effect) (value : T) (room new : RoomView) (disk : DiskView) → CanDo effect room → IsWritten effect
    → new ≡ after_done effect room → ((bytes : List ℕ) → Whole effect room bytes bytes)
    → (IsTrue disk.tells → (known : Known) → IsFounded known effect → Ready known room disk
    → Ready (known_behind known (Done effect) room) (after_done effect room) disk)
    → Does {T = T} (effect ∷ []) (Ok value) room new disk disk
does_in_memory effect value room new disk can written is same keeps =
    let file = target effect room in
    record {
      deeds = Done effect ∷ [];
      ran = (refl, tt);
      performed = record {
        room = is;
        can = (can, tt);
        written = (written, tt);
        tells = refl;
        faults = λ file. omega arith;
        told = λ told known founded ready. (let P : RoomView → Type 0 = λ one. Ready (known_behind known (Done effect) room) one disk in
            record {
              ready = subst P (sym is) (keeps told known founded.0 ready);
              reads = (disk.reads, record { others = λ other apart. refl; this = same (disk.reads file) }, refl);
              images = λ image held. (image, held, (image, record { others = λ other apart. refl; this = same (image file) }, refl));
              moments = record { later = omega arith; each = λ moment image le left. inl left };
            });
      };
    }
