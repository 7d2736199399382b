use Rattle.room_base.proofs.OrderedLaws.{found_removed}
use Rattle.room_base.proofs.ordered.removed_is_not_found.Goals as goal

pub returns : goal.returns
returns g c = λ key gone xs wanted. found_removed g.met.K.Ord.total key gone wanted xs
