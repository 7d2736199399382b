-- The plan of showing what is known of a save set.
use Rattle.std.specs.Prelude.{[], codes, decimal, Option, Some, None, Result, Ok, Err}
use Rattle.room_base.specs.declared.numbers.Ssid.{Ssid}
use Rattle.room_base.specs.declared.refusal.Refusal.{Refusal}
use Rattle.room_base.specs.declared.refusal.Refusal.TheVariants.{NoSuch}
use Rattle.media_db.specs.Rows.{find_record}
use Rattle.media_db.specs.declared.records.Record.{Record}
use Rattle.room_command.specs.declared.answer.Answer.TheVariants.{Shown}
use Rattle.room_command.specs.declared.reply.Reply.TheVariants.{Done}
use Rattle.room_effects.specs.View.{RoomView}
use Rattle.room_effects.specs.Checked.{checked}
use Rattle.room_effects.specs.Plans.{Plan, Do}

-- there has to be one
abbrev pub on_record : Ssid → Option Record → Result Record Refusal
on_record ssid None = Err (NoSuch (codes "set") (decimal ssid.0))
on_record ssid (Some row) = Ok row

-- the record of a set
abbrev pub record_of : Ssid → RoomView → Result Record Refusal
record_of ssid room = on_record ssid (find_record ssid.0 room.catalogue.records)

abbrev pub show_plan : Ssid → RoomView → Plan
show_plan ssid room = checked (record_of ssid room) (λ row. Do [] (Done (Shown row)))
