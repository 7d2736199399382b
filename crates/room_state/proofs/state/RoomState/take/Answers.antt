use Rattle.std.proofs.Common.{arith}
use Rattle.save_session.specs.Sessions.{find_session}
use Rattle.room_effects.specs.Effects.{Take}
use Rattle.room_effects.proofs.Staying.{stays_take}
use Rattle.room_state.specs.Inside.{state_view}
use Rattle.room_state.proofs.Doing.{can_in}
use Rattle.room_state.proofs.Placing.{taken_of}
use Rattle.room_state.proofs.state.RoomState.take.Goals as goal

pub invariant_of-self-2 : goal.invariant_of-self-2
invariant_of-self-2 c =
    let held = state_view c.self.inside in
    let ssid = c.args.ssid.0 in
    let piece = c.args.piece.now in
    rw c.in_ok-take.ensures.ok
    (stays_take ssid piece held.room c.self.invariant (can_in (Take ssid piece) held _ c.self.view_is c.requires)
    (λ i. omega (arith, c.type_inv.piece i)) (taken_of (find_session ssid held.room.sessions) piece c.in_ok-take.ensures.read))
