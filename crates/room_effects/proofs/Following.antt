-- How a command follows its plan.
use Rattle.std.proofs.Common.{◌≡◌, ℕ, List, [], ◌∷◌, ◌++◌, refl, inl, inr}
use Rattle.std.specs.Prelude.{Result, Ok, Err}
use Rattle.room_base.specs.declared.refusal.Refusal.{Refusal}
use Rattle.room_base.specs.declared.refusal.Refusal.TheVariants.{NoMemory}
use Rattle.room_disk.specs.Disk.{DiskView}
use Rattle.room_command.specs.declared.reply.Reply.{Reply}
use Rattle.room_command.specs.declared.reply.Reply.TheVariants.{Refused}
use Rattle.room_effects.specs.View.{RoomView}
use Rattle.room_effects.specs.Effects.{Effect}
use Rattle.room_effects.specs.Running.{AreLooks, Does, Performed}
use Rattle.room_effects.proofs.Does.{does_none, performed_none}
use Rattle.room_effects.specs.Plans.{Plan, Refuse, Do, Follows}

-- it is refused, and nothing is done
pub follows_refusal : (refusal : Refusal) (room : RoomView) (disk : DiskView) → Follows (Refuse refusal) (Refused refusal) room room disk disk
follows_refusal refusal room disk = record { deeds = []; turn = (inl refl, refl); performed = performed_none room disk }

module _ (effects : List Effect) (reply : Reply) (old new : RoomView) (before now : DiskView) where
  -- all is done
  pub follows_done : Does {T = Unit {0}} effects (Ok tt) old new before now → Follows (Do effects reply) reply old new before now
  follows_done does = record { deeds = does.deeds; turn = inl (refl, does.ran); performed = does.performed }

  -- one effect fails
  pub follows_fault : (fault : Refusal) → Does {T = Unit {0}} effects (Err fault) old new before now → Follows (Do effects reply) (Refused fault) old new before now
  follows_fault fault does = record { deeds = does.deeds; turn = inr (inl (fault, refl, does.ran)); performed = does.performed }

-- nothing is done, for want of memory
pub follows_no_memory : (plan : Plan) (room : RoomView) (disk : DiskView) → Follows plan (Refused NoMemory) room room disk disk
follows_no_memory (Refuse refusal) room disk = record { deeds = []; turn = (inr refl, refl); performed = performed_none room disk }
follows_no_memory (Do effects reply) room disk = record { deeds = []; turn = inr (inr (refl, tt, (0, tt))); performed = performed_none room disk }
