use Rattle.room_effects.specs.Effects.{PutIn}
use Rattle.room_effects.proofs.Staying.{stays_put_in}
use Rattle.room_state.specs.Inside.{state_view}
use Rattle.room_state.proofs.Doing.{can_in}
use Rattle.room_state.proofs.state.RoomState.put_in.Goals as goal

pub invariant_of-self-2 : goal.invariant_of-self-2
invariant_of-self-2 c =
    let held = state_view c.self.inside in
    let effect = PutIn c.args.drive c.args.volume in
    rw c.in_ok-put_in.ensures.put
    (stays_put_in c.args.drive c.args.volume held.room c.self.invariant (can_in effect held _ c.self.view_is c.requires))
