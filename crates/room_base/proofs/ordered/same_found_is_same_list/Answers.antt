use Rattle.room_base.proofs.OrderedLaws.{same_lists}
use Rattle.room_base.proofs.ordered.same_found_is_same_list.Goals as goal

pub returns : goal.returns
returns g c = λ key xs ys up other same. same_lists g.met.K.Ord.total key xs ys up other same
