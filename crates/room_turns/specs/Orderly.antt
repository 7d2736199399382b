-- What the plans of all commands have in common.
use Rattle.std.specs.Prelude.{ℕ, ◌+◌, ◌≤◌, List, [], ◌∷◌}
use Rattle.room_base.specs.declared.refusal.Refusal.{Refusal}
use Rattle.room_base.specs.declared.refusal.Refusal.TheVariants.{DeviceFault, JournalFault}
use Rattle.room_command.specs.declared.reply.Reply.{Reply}
use Rattle.room_command.specs.declared.reply.Reply.TheVariants as replies
use Rattle.room_effects.specs.View.{RoomView}
use Rattle.room_effects.specs.Effects.{Effect, Enter, Look, Done, after_done}
use Rattle.room_effects.specs.Running.{IsFounded, Known, known_behind}
use Rattle.room_effects.specs.Plans.{Plan, Refuse, Do}

-- each label is written, and each volume put in, behind the read that saw it
abbrev pub AreFoundedIn : Known → List Effect → RoomView → Type 0
AreFoundedIn known [] room = Unit {0}
AreFoundedIn known (effect ∷ effects) room = IsFounded known effect
    × AreFoundedIn (known_behind known (Done effect) room) effects (after_done effect room)

-- how many changes are entered
abbrev pub entries_in : List Effect → ℕ
entries_in [] = 0
entries_in (Enter m change ∷ effects) = 1 + entries_in effects
entries_in (_ ∷ effects) = entries_in effects

-- each effect is a read
abbrev pub AreReads : List Effect → Type 0
AreReads [] = Unit {0}
AreReads (Look cart seen ∷ effects) = AreReads effects
AreReads _ = ⊥

-- it isn't a fault of a device or of the journal
abbrev pub IsNoFault : Refusal → Type 0
IsNoFault (DeviceFault file closed) = ⊥
IsNoFault JournalFault = ⊥
IsNoFault _ = Unit {0}

-- a refusal behind effects stands behind reads alone, and is no fault
abbrev pub IsOrderlyReply : List Effect → Reply → Type 0
IsOrderlyReply effects (replies.Done answer) = Unit {0}
IsOrderlyReply effects (replies.Refused refusal) = AreReads effects × IsNoFault refusal

pub record AreOrderly (known : Known) (effects : List Effect) (reply : Reply) (room : RoomView)
    : Type 0 where
  pub founded : AreFoundedIn known effects room
  pub few : entries_in effects ≤ 2
  pub replied : IsOrderlyReply effects reply

-- At most two changes are entered, what is written and mounted was seen before, and where the
-- command is refused only reads are done.
abbrev pub IsOrderly : Known → Plan → RoomView → Type 0
IsOrderly known (Refuse refusal) room = IsNoFault refusal
IsOrderly known (Do effects reply) room = AreOrderly known effects reply room
