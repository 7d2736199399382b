use Rattle.room_base.proofs.OrderedLaws.{found_put}
use Rattle.room_base.proofs.ordered.put_is_found.Goals as goal

pub returns : goal.returns
returns g c = λ key item xs wanted. found_put g.met.K.Ord.total key item wanted xs
