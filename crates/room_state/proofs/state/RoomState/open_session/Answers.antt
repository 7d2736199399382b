use Rattle.room_effects.specs.Effects.{Open}
use Rattle.room_effects.proofs.Staying.{stays_open}
use Rattle.room_state.specs.Inside.{state_view}
use Rattle.room_state.proofs.Doing.{can_in}
use Rattle.room_state.proofs.state.RoomState.open_session.Goals as goal

pub invariant_of-self-2 : goal.invariant_of-self-2
invariant_of-self-2 c =
    let held = state_view c.self.inside in
    rw c.in_ok-start.ensures.ok
    (stays_open c.args.head held.room c.self.invariant (can_in (Open c.args.head) held _ c.self.view_is c.requires))
