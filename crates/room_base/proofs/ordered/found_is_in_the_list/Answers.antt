use Rattle.room_base.proofs.OrderedLaws.{found_has_key, found_listed, listed_found}
use Rattle.room_base.proofs.ordered.found_is_in_the_list.Goals as goal

pub returns : goal.returns
returns g c = record {
  key = λ key xs wanted found is. found_has_key g.met.K.Ord.total key wanted found xs is;
  listed = λ key xs wanted found is. found_listed g.met.K.Ord.total key wanted found xs is;
  found = λ key xs x up there. listed_found g.met.K.Ord.total key x xs up there;
}
