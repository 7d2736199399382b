use Rattle.media_db.proofs.Dropped.{each_left, no_copy_on}
use Rattle.media_db.proofs.laws.no_copy_is_left_on_the_volume.Goals as goal

pub returns : goal.returns
returns c = record {
  copies = λ rows volid. each_left volid _ (λ row is. no_copy_on volid row.copies) rows;
  records = λ rows volid. each_left volid _ (λ row is. is) rows;
}
