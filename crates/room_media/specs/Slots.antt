-- The plans of loading and ejecting.
use Rattle.std.specs.Prelude.{ℕ, ◌==◌, ◌&&◌, not, nat_le, Bool, List, [], ◌∷◌, codes, decimal}
use Rattle.std.specs.Prelude.{Option, Some, None, Result, Ok, Err, if◌then◌else◌}
use Rattle.std.specs.List.{find}
use Rattle.std.specs.Option.{is_some, option_map}
use Rattle.room_base.specs.declared.numbers.Cart.{Cart}
use Rattle.room_base.specs.declared.numbers.Moment.{Moment}
use Rattle.room_base.specs.declared.refusal.Refusal.{Refusal}
use Rattle.room_base.specs.declared.refusal.Refusal.TheVariants.{
  Exists,
  InUse,
  Malformed,
  Mounted,
  SlotEmpty,
}
use Rattle.catalog_change.specs.declared.change.Change.TheVariants.{Ejected, Loaded}
use Rattle.catalog_change.specs.declared.slot.FilledSlot.{FilledSlot}
use Rattle.room_catalog.specs.Fits.{find_slot}
use Rattle.room_command.specs.declared.answer.Answer.TheVariants.{Empty}
use Rattle.room_command.specs.declared.reply.Reply.TheVariants.{Done}
use Rattle.room_effects.specs.View.{RoomView, held_in}
use Rattle.room_effects.specs.Effects.{Enter}
use Rattle.room_effects.specs.Running.{has_cart}
use Rattle.room_effects.specs.Checked.{checked, unless}
use Rattle.room_effects.specs.Entering.{entering}
use Rattle.room_effects.specs.Plans.{Plan}

-- ---- slots and drives

abbrev pub is_slot : ℕ → Bool
is_slot slot = nat_le 1 slot && nat_le slot 32

abbrev pub is_cart : ℕ → Bool
is_cart cart = nat_le 1 cart && nat_le cart 256

-- the slot that has a cartridge
abbrev pub slot_with : ℕ → List FilledSlot → Option FilledSlot
slot_with cart slots = find (λ filled. filled.cart.0 == cart) slots

-- the cartridge in a slot
abbrev pub cart_in : ℕ → RoomView → Option Cart
cart_in slot room = option_map (λ filled. filled.cart) (find_slot slot room.catalogue.slots)

-- this drive, if it has the cartridge's volume, or else what the others come to
abbrev pub drive_or : ℕ → RoomView → ℕ → Option ℕ → Option ℕ
drive_or cart room drive others = if has_cart cart (held_in room drive) then Some drive else others

-- the drive that has the volume of a cartridge
abbrev pub drive_with : ℕ → RoomView → Option ℕ
drive_with cart room =
    drive_or cart room 1 (drive_or cart room 2 (drive_or cart room 3 (drive_or cart room 4 None)))

-- the cartridge, which must be in no drive
abbrev pub in_no_drive : Cart → Option ℕ → Result Cart Refusal
in_no_drive cart None = Ok cart
in_no_drive cart (Some drive) = Err (Mounted drive)

abbrev pub free_of : ℕ → Option Cart → RoomView → Result Cart Refusal
free_of slot None room = Err (SlotEmpty slot)
free_of slot (Some cart) room = in_no_drive cart (drive_with cart.0 room)

-- the cartridge of a slot, which must be in no drive
abbrev pub free_cart : ℕ → RoomView → Result Cart Refusal
free_cart slot room = free_of slot (cart_in slot room) room

-- ---- loading

-- no slot has the cartridge
abbrev pub in_no_slot : Option FilledSlot → Result (Unit {0}) Refusal
in_no_slot None = Ok tt
in_no_slot (Some filled) = Err (InUse (codes "slot") (decimal filled.slot))

abbrev pub load_checks : ℕ → ℕ → RoomView → Result (Unit {0}) Refusal
load_checks slot cart room = unless (is_slot slot) (Malformed (codes "slot"))
    (unless (is_cart cart) (Malformed (codes "cart"))
    (unless (not (is_some (cart_in slot room))) (Exists (codes "slot") (decimal slot))
    (in_no_slot (slot_with cart room.catalogue.slots))))

abbrev pub load_plan : Moment → ℕ → Cart → RoomView → Plan
load_plan m slot cart room = checked (load_checks slot cart.0 room)
    (λ done. entering [] (Enter m (Loaded slot cart) ∷ []) (Done Empty) room)

-- ---- ejecting

abbrev pub eject_checks : ℕ → RoomView → Result Cart Refusal
eject_checks slot room = unless (is_slot slot) (Malformed (codes "slot")) (free_cart slot room)

abbrev pub eject_plan : Moment → ℕ → RoomView → Plan
eject_plan m slot room = checked (eject_checks slot room)
    (λ cart. entering [] (Enter m (Ejected slot) ∷ []) (Done Empty) room)
