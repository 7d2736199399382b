-- What is answered where an effect fails.
use Rattle.std.specs.Prelude.{List, [], map, Option, Some, None, if◌then◌else◌}
use Rattle.std.specs.Option.{option_map}
use Rattle.room_base.specs.declared.numbers.Ssid.{Ssid}
use Rattle.room_base.specs.declared.refusal.Refusal.{Refusal}
use Rattle.room_base.specs.declared.refusal.Refusal.TheVariants.{DeviceFault, JournalFault}
use Rattle.volume_store.specs.Writes.{cart_file}
use Rattle.slot_changer.specs.Committing.{cart_file_of}
use Rattle.save_session.specs.Sessions.{SessionView}
use Rattle.room_effects.specs.View.{RoomView, held_in}
use Rattle.room_effects.specs.Effects.{
  Effect,
  Enter,
  EnterPart,
  TurnOver,
  Commit,
  Look,
  WriteLabel,
  ended_with,
  is_at_last,
}

-- the ssids of sessions, which ascend as they do
abbrev pub ssids_of : List SessionView → List Ssid
ssids_of sessions = map (λ (session : SessionView). session.head.ssid) sessions

-- the refusal that a failed effect is answered with; an effect in memory can't fail
abbrev pub fault_of : Effect → RoomView → Option Refusal
fault_of (Enter m change) room = Some JournalFault
fault_of (EnterPart m ssid part index) room = Some JournalFault
fault_of (TurnOver snapshot) room = if is_at_last room.journal then None else Some JournalFault
fault_of (Commit drive asking) room = option_map
    (λ one. DeviceFault (cart_file_of one)
    (ssids_of (ended_with (held_in room drive) asking room.sessions)))
    (held_in room drive)
fault_of (Look cart seen) room = Some (DeviceFault (cart_file cart) [])
fault_of (WriteLabel label) room = Some (DeviceFault (cart_file label.cart.0) [])
fault_of _ room = None
