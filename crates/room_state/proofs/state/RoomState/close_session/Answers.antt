use Rattle.room_effects.specs.Effects.{Close}
use Rattle.room_effects.proofs.Staying.{stays_close}
use Rattle.room_state.specs.Inside.{state_view}
use Rattle.room_state.proofs.Doing.{can_in}
use Rattle.room_state.proofs.state.RoomState.close_session.Goals as goal

pub invariant_of-self : goal.invariant_of-self
invariant_of-self c =
    let held = state_view c.self.inside in
    rw c.close.ensures.sessions
    (stays_close c.args.ssid.0 held.room c.self.invariant (can_in (Close c.args.ssid.0) held _ c.self.view_is c.requires))
