-- What commands have in common that enter a change.
use Rattle.std.specs.Prelude.{ℕ, max, min, Bool, true, ◌||◌, nat_le, if◌then◌else◌, List, ◌∷◌, ◌++◌}
use Rattle.std.specs.Option.{is_some}
use Rattle.room_base.specs.Numbers.{max_moment}
use Rattle.room_base.specs.declared.numbers.Moment.{Moment}
use Rattle.room_base.specs.declared.refusal.Refusal.TheVariants.{TooMany}
use Rattle.catalog_spelling.specs.Snapshots.{snapshot_text}
use Rattle.room_catalog.specs.Held.{CatalogueLists, catalogue_of}
use Rattle.room_command.specs.declared.reply.Reply.{Reply}
use Rattle.room_effects.specs.View.{RoomView}
use Rattle.room_effects.specs.Effects.{Effect, TurnOver}
use Rattle.room_effects.specs.Plans.{Plan, Do, refused_behind}

-- the moment of a command: what the clock answers, at most the greatest moment that is written, and
-- not before that of the last change
abbrev pub moment_of : ℕ → CatalogueLists → Moment
moment_of clock lists = record { 0 = max (min clock max_moment) lists.last_moment }

-- the greatest that the numbers of a catalogue may be before one more change
abbrev pub ceiling : ℕ
ceiling = 9223372036854775806

-- no number is left for one more change
abbrev pub is_at_ceiling : CatalogueLists → Bool
is_at_ceiling lists =
    nat_le ceiling lists.number || nat_le ceiling lists.next_ssid
    || nat_le ceiling lists.next_volid

-- where no file of the journal is open, the first one comes before the first entry
abbrev pub with_first_file : RoomView → List Effect → List Effect
with_first_file room effects =
    if is_some room.journal.current then effects
    else (TurnOver (snapshot_text true (catalogue_of room.catalogue)) ∷ effects)

-- behind these reads, effects that begin with an entry are done, where a number is left for it
abbrev pub entering : List Effect → List Effect → Reply → RoomView → Plan
entering looks effects reply room =
    if is_at_ceiling room.catalogue then refused_behind looks (TooMany ceiling)
    else Do (looks ++ with_first_file room effects) reply
