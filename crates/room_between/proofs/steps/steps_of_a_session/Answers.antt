use Rattle.room_between.proofs.Stepping.{begins, closed_one, pushed, taken}
use Rattle.room_between.proofs.steps.steps_of_a_session.Goals as goal

pub returns : goal.returns
returns c = record { begun = begins; take = taken; push = pushed; close = closed_one }
