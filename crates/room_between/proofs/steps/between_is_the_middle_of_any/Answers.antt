use Rattle.room_between.proofs.Stepping.{but_any}
use Rattle.room_between.proofs.steps.between_is_the_middle_of_any.Goals as goal

pub returns : goal.returns
returns c = but_any
