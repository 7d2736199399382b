use Rattle.room_effects.specs.Effects.{TakeOut}
use Rattle.room_effects.proofs.Staying.{stays_take_out}
use Rattle.room_state.specs.Inside.{state_view}
use Rattle.room_state.proofs.Doing.{can_in}
use Rattle.room_state.proofs.state.RoomState.take_out.Goals as goal

pub invariant_of-self : goal.invariant_of-self
invariant_of-self c =
    let held = state_view c.self.inside in
    rw (c.take_out.ensures, c.left.ensures.sessions)
    (stays_take_out c.args.drive held.room c.self.invariant (can_in (TakeOut c.args.drive) held _ c.self.view_is c.requires))
