use Rattle.room_between.proofs.Planning.{between_behind}
use Rattle.room_between.proofs.plans.between_behind_quiet_deeds.Goals as goal

pub returns : goal.returns
returns c = between_behind
