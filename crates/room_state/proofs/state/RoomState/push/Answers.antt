use Rattle.room_effects.specs.Effects.{Push}
use Rattle.room_effects.specs.Needs.{FitsDrive}
use Rattle.room_effects.specs.View.{held_in}
use Rattle.room_effects.proofs.Staying.{stays_push}
use Rattle.room_state.specs.Inside.{state_view}
use Rattle.room_state.proofs.Doing.{can_in}
use Rattle.room_state.proofs.Placing.{placed_so}
use Rattle.room_state.proofs.state.RoomState.push.Goals as goal

pub invariant_of-self : goal.invariant_of-self
invariant_of-self c =
    let held = state_view c.self.inside in
    let room = held.room in
    let drive = c.args.drive in
    let ssid = c.args.ssid.0 in
    let copy = c.args.copy.0 in
    let offset = c.args.offset in
    let bytes = c.args.bytes.now in
    let can = can_in (Push drive ssid copy offset bytes) held _ c.self.view_is c.requires.can in
    rw (
      c.place_part.ensures.sessions,
      c.push_into-part.ensures.pushed,
      placed_so (FitsDrive ssid copy offset bytes room) (held_in room drive) drive ssid copy offset bytes c.push_into-part.result room.sessions
          can.needs.held c.push_into-part.ensures.part,
    )
    (stays_push drive ssid copy offset bytes room c.self.invariant can)
