-- Plans that are put together in order.
use Rattle.std.proofs.Common.{ℕ, ◌≤◌, Bool, List, [], ◌∷◌, ◌++◌, arith}
use Rattle.std.proofs.lemmas.Bool.{cond_both}
use Rattle.std.specs.Option.{is_some}
use Rattle.std.specs.Prelude.{Result, Ok, Err, true}
use Rattle.room_base.specs.declared.refusal.Refusal.{Refusal}
use Rattle.room_base.specs.declared.refusal.Refusal.TheVariants.{TooMany}
use Rattle.catalog_spelling.specs.Snapshots.{snapshot_text}
use Rattle.room_catalog.specs.Held.{catalogue_of}
use Rattle.room_command.specs.declared.reply.Reply.{Reply}
use Rattle.room_command.specs.declared.reply.Reply.TheVariants as replies
use Rattle.room_command.specs.declared.answer.Answer.{Answer}
use Rattle.room_effects.specs.View.{RoomView}
use Rattle.room_effects.specs.Effects.{Effect, Look, Seen, TurnOver, after_done}
use Rattle.room_effects.specs.Running.{Known, known_of}
use Rattle.room_effects.specs.Checked.{behind, behind_check, checked, unless}
use Rattle.room_effects.specs.Entering.{ceiling, entering, is_at_ceiling, with_first_file}
use Rattle.room_effects.specs.Plans.{Do, Plan, Refuse}
use Rattle.room_turns.specs.Orderly.{AreFoundedIn, AreOrderly, IsNoFault, IsOrderly, entries_in}

-- ---- checks

-- where checks refuse, it isn't with a fault
abbrev pub NoFaultIn : {X : Type 0} → Result X Refusal → Type 0
NoFaultIn (Ok value) = Unit {0}
NoFaultIn (Err refusal) = IsNoFault refusal

pub no_fault_unless : {X : Type 0} (test : Bool) (refusal : Refusal) (next : Result X Refusal) → IsNoFault refusal → NoFaultIn {X = X} next
    → NoFaultIn {X = X} (unless {X = X} test refusal next)
no_fault_unless {X} test refusal next fine more = cond_both test next (Err refusal) (λ (one : Result X Refusal). NoFaultIn {X = X} one) (λ holds. more) (λ fails. fine)

pub no_fault_behind : {X Y : Type 0} (first : Result X Refusal) (next : X → Result Y Refusal) → NoFaultIn {X = X} first → ((value : X) → NoFaultIn {X = Y} (next value))
    → NoFaultIn {X = Y} (behind_check {X = X} {Y = Y} first next)
no_fault_behind (Ok value) next fine more = more value
no_fault_behind (Err refusal) next fine more = fine

-- ---- plans

pub orderly_checked : {X : Type 0} (known : Known) (checks : Result X Refusal) (next : X → Plan) (room : RoomView) → NoFaultIn {X = X} checks
    → ((value : X) → IsOrderly known (next value) room) → IsOrderly known (checked {X = X} checks next) room
orderly_checked known (Ok value) next room fine more = more value
orderly_checked known (Err refusal) next room fine more = fine

look_orderly : (known : Known) (cart : ℕ) (seen : Seen) (effects : List Effect) (reply : Reply) (room : RoomView) → AreOrderly (known_of cart seen known) effects reply room
    → AreOrderly known (Look cart seen ∷ effects) reply room
look_orderly known cart seen effects (replies.Done answer) room orderly = record { founded = (tt, orderly.founded); few = orderly.few; replied = tt }
look_orderly known cart seen effects (replies.Refused refusal) room orderly = record { founded = (tt, orderly.founded); few = orderly.few; replied = orderly.replied }

pub orderly_behind : (known : Known) (cart : ℕ) (seen : Seen) (plan : Plan) (room : RoomView) → IsOrderly (known_of cart seen known) plan room
    → IsOrderly known (behind (Look cart seen) plan) room
orderly_behind known cart seen (Refuse refusal) room orderly = record { founded = (tt, tt); few = omega arith; replied = (tt, orderly) }
orderly_behind known cart seen (Do effects reply) room orderly = look_orderly known cart seen effects reply room orderly

first_file_orderly : (known : Known) (effects : List Effect) (answer : Answer) (room : RoomView) → ((room : RoomView) → AreFoundedIn known effects room) → entries_in effects ≤ 2
    → AreOrderly known (with_first_file room effects) (replies.Done answer) room
first_file_orderly known effects answer room founded few =
    let snapshot = snapshot_text true (catalogue_of room.catalogue) in
    cond_both (is_some room.journal.current) effects (TurnOver snapshot ∷ effects) (λ (list : List Effect). AreOrderly known list (replies.Done answer) room)
    (λ some. record { founded = founded room; few = few; replied = tt })
    (λ none. record { founded = (tt, founded (after_done (TurnOver snapshot) room)); few = few; replied = tt })

-- effects that begin with an entry
pub orderly_entering : (known : Known) (effects : List Effect) (answer : Answer) (room : RoomView) → ((room : RoomView) → AreFoundedIn known effects room) → entries_in effects ≤ 2
    → IsOrderly known (entering [] effects (replies.Done answer) room) room
orderly_entering known effects answer room founded few =
    cond_both (is_at_ceiling room.catalogue) (Refuse (TooMany ceiling)) (Do ([] ++ with_first_file room effects) (replies.Done answer)) (λ (plan : Plan). IsOrderly known plan room)
    (λ full. tt) (λ room_left. first_file_orderly known effects answer room founded few)
