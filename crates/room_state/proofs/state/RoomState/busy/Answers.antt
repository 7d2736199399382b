use Rattle.room_state.proofs.Listed.{each_count}
use Rattle.room_state.proofs.state.RoomState.busy.Goals as goal

pub returns-clause-counts : goal.returns-clause-counts
returns-clause-counts c drive is = rw (← c.self.view_is)
    (each_count drive _ _ _ _ c.self.inside.sessions.sessions is c.count_on.ensures c.count_on-2.ensures c.count_on-3.ensures c.count_on-4.ensures)
