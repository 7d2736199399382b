-- Effects that put a piece of a session into a drive, and plans without effects.
use Rattle.std.proofs.Common.{◌≡◌, ℕ, List, [], ◌∷◌, length, sym, subst, arith}
use Rattle.std.proofs.lemmas.Bool.{cond_both}
use Rattle.std.specs.Prelude.{Some}
use Rattle.slot_changer.specs.Taking.{fits}
use Rattle.room_command.specs.declared.answer.Answer.{Answer}
use Rattle.room_command.specs.declared.reply.Reply.TheVariants as replies
use Rattle.room_effects.specs.View.{RoomView, held_in}
use Rattle.room_effects.specs.Effects.{Commit, Effect, Push}
use Rattle.room_effects.specs.Running.{nothing_known}
use Rattle.room_effects.specs.Plans.{Do, Plan}
use Rattle.room_placing.specs.Placing.{committing, placing}
use Rattle.room_turns.specs.Orderly.{IsOrderly}
use Rattle.room_turns.proofs.Plain.{IsPlainWith, both_plain}

-- ---- placing

committing_plain : (drive ssid count : ℕ) (room : RoomView) → IsPlainWith 0 (committing drive ssid count room)
committing_plain drive ssid count room =
    cond_both (fits (held_in room drive) count) [] (Commit drive (Some ssid) ∷ []) (λ (list : List Effect). IsPlainWith 0 list)
    (λ fits. record { plain = tt; entries = omega arith }) (λ full. record { plain = (tt, tt); entries = omega arith })

pub placing_plain : (drive ssid offset : ℕ) (bytes : List ℕ) (room : RoomView) → IsPlainWith 0 (placing drive ssid offset bytes room)
placing_plain drive ssid offset bytes room =
    both_plain 0 0 (committing drive ssid (length bytes) room) (Push drive ssid 1 offset bytes ∷ []) (committing_plain drive ssid (length bytes) room)
    (record { plain = (tt, tt); entries = omega arith })

-- ---- plans

pub same_plan : (room : RoomView) (plan other : Plan) → plan ≡ other → IsOrderly nothing_known other room → IsOrderly nothing_known plan room
same_plan room plan other same orderly = let P : Plan → Type 0 = λ one. IsOrderly nothing_known one room in subst P (sym same) orderly

pub answered : (answer : Answer) (room : RoomView) → IsOrderly nothing_known (Do [] (replies.Done answer)) room
answered answer room = record { founded = tt; few = omega arith; replied = tt }
