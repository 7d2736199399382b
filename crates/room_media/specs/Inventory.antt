-- The plan of the inventory.
use Rattle.std.specs.Prelude.{ℕ, [], map, Option, Some, None}
use Rattle.media_db.specs.Rows.{volume_on}
use Rattle.catalog_change.specs.declared.slot.FilledSlot.{FilledSlot}
use Rattle.room_command.specs.declared.answer.Answer.TheVariants.{Slots}
use Rattle.room_command.specs.declared.answer.SlotLine.{SlotLine}
use Rattle.room_command.specs.declared.reply.Reply.TheVariants.{Done}
use Rattle.room_effects.specs.View.{RoomView}
use Rattle.room_effects.specs.Plans.{Plan, Do}
use Rattle.room_media.specs.Mounting.{volid_or_none}
use Rattle.room_media.specs.Slots.{drive_with}

abbrev pub drive_or_none : Option ℕ → ℕ
drive_or_none None = 0
drive_or_none (Some drive) = drive

-- a filled slot, the drive that has its cartridge, and the volume on record
abbrev pub slot_line : RoomView → FilledSlot → SlotLine
slot_line room filled = record {
  cart = filled.cart;
  drive = drive_or_none (drive_with filled.cart.0 room);
  slot = filled.slot;
  volid = volid_or_none (volume_on filled.cart.0 room.catalogue.volumes);
}

abbrev pub inventory_plan : RoomView → Plan
inventory_plan room = Do [] (Done (Slots (map (slot_line room) room.catalogue.slots)))
