-- What a command is to do, and what following its plan comes to.
use Rattle.std.specs.Prelude.{◌≡◌, ◌⊎◌, ℕ, List, [], ◌∷◌, take, Ok, Err}
use Rattle.room_base.specs.declared.refusal.Refusal.{Refusal}
use Rattle.room_base.specs.declared.refusal.Refusal.TheVariants.{NoMemory}
use Rattle.room_disk.specs.Disk.{DiskView}
use Rattle.room_command.specs.declared.reply.Reply.{Reply}
use Rattle.room_command.specs.declared.reply.Reply.TheVariants.{Refused}
use Rattle.room_effects.specs.View.{RoomView}
use Rattle.room_effects.specs.Effects.{Effect, Deed}
use Rattle.room_effects.specs.Running.{AreLooks, Performed, RanTo}

-- The command is refused at once; or these effects are done, one after the other, and then it is
-- answered, with a refusal where what was read forbids more.
pub data Plan : Type 0 where
  Refuse : Refusal → Plan
  Do : List Effect → Reply → Plan

-- refused behind these reads
abbrev pub refused_behind : List Effect → Refusal → Plan
refused_behind [] refusal = Refuse refusal
refused_behind (look ∷ looks) refusal = Do (look ∷ looks) (Refused refusal)

-- What a refusal says may need memory, as the name of a field. Else all effects are done, and it is
-- answered; or one fails, and its fault is answered; or there is no memory, and no more is done than
-- the reads before the first effect that writes.
abbrev pub IsTurn : Plan → RoomView → Reply → List Deed → Type 0
IsTurn (Refuse refusal) room answer deeds =
    ((answer ≡ Refused refusal) ⊎ (answer ≡ Refused NoMemory)) × (deeds ≡ [])
IsTurn (Do effects reply) room answer deeds =
    ((answer ≡ reply) × RanTo {T = Unit {0}} effects room (Ok tt) deeds)
    ⊎ ((fault : Refusal) × (answer ≡ Refused fault)
    × RanTo {T = Unit {0}} effects room (Err fault) deeds)
    ⊎ ((answer ≡ Refused NoMemory) × AreLooks deeds × ((count : ℕ)
    × RanTo {T = Unit {0}} (take count effects) room (Ok tt) deeds))

-- a command follows its plan
pub record Follows (plan : Plan) (answer : Reply) (old new : RoomView) (before now : DiskView)
    : Type 0 where
  pub deeds : List Deed
  pub turn : IsTurn plan old answer deeds
  pub performed : Performed deeds old new before now
