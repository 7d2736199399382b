-- The plan of amending a save set.
use Rattle.std.specs.Prelude.{ℕ, nat_le, Bool, true, [], ◌∷◌, codes}
use Rattle.std.specs.Prelude.{Option, Some, None, Result, Ok}
use Rattle.room_base.specs.Numbers.{max_moment}
use Rattle.room_base.specs.declared.numbers.Moment.{Moment}
use Rattle.room_base.specs.declared.numbers.Ssid.{Ssid}
use Rattle.room_base.specs.declared.refusal.Refusal.{Refusal}
use Rattle.room_base.specs.declared.refusal.Refusal.TheVariants.{Malformed}
use Rattle.media_db.specs.declared.records.Record.{Record}
use Rattle.catalog_change.specs.declared.change.Change.TheVariants.{Amended}
use Rattle.room_command.specs.declared.answer.Answer.TheVariants.{Empty}
use Rattle.room_command.specs.declared.reply.Reply.TheVariants.{Done}
use Rattle.room_effects.specs.View.{RoomView}
use Rattle.room_effects.specs.Effects.{Enter}
use Rattle.room_effects.specs.Checked.{behind_check, checked, unless}
use Rattle.room_effects.specs.Entering.{entering}
use Rattle.room_effects.specs.Plans.{Plan}
use Rattle.room_records.specs.declared.amending.Amendment.{Amendment}
use Rattle.room_records.specs.Showing.{record_of}

-- a time that is given isn't above the greatest moment
abbrev pub is_moment : Option ℕ → Bool
is_moment None = true
is_moment (Some time) = nat_le time max_moment

-- what is given, and else what the set has
abbrev pub time_or : Option ℕ → Moment → Moment
time_or None was = was
time_or (Some time) was = record { 0 = time }

abbrev pub hold_or : Option Bool → Bool → Bool
hold_or None was = was
hold_or (Some hold) was = hold

abbrev pub amended_as : Option ℕ → Option ℕ → Option Bool → Record → Amendment
amended_as browse retain hold row = record {
  browse = time_or browse row.browse;
  retain = time_or retain row.retain;
  hold = hold_or hold row.hold;
}

-- a set isn't kept for a shorter time than its files can be browsed
abbrev pub in_order : Amendment → Result Amendment Refusal
in_order amended =
    unless (nat_le amended.browse.0 amended.retain.0) (Malformed (codes "retain")) (Ok amended)

-- what the set is to have
abbrev pub amend_checks : Ssid → Option ℕ → Option ℕ → Option Bool → RoomView
    → Result Amendment Refusal
amend_checks ssid browse retain hold room =
    unless (is_moment browse) (Malformed (codes "browse"))
    (unless (is_moment retain) (Malformed (codes "retain"))
    (behind_check (record_of ssid room) (λ row. in_order (amended_as browse retain hold row))))

abbrev pub amend_plan : Moment → Ssid → Option ℕ → Option ℕ → Option Bool → RoomView → Plan
amend_plan m ssid browse retain hold room = checked (amend_checks ssid browse retain hold room)
    (λ amended. entering []
    (Enter m (Amended ssid amended.browse amended.retain amended.hold) ∷ []) (Done Empty) room)
