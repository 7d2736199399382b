use Rattle.room_base.proofs.OrderedLaws.{found_updated}
use Rattle.room_base.proofs.ordered.change_is_found.Goals as goal

pub returns : goal.returns
returns g c = λ key change keeps changed xs wanted. found_updated g.met.K.Ord.total key change keeps changed wanted xs
