use Rattle.std.proofs.lemmas.Cmp.{nat_cmp_total}
use Rattle.room_base.proofs.OrderedLaws.{same_lists}
use Rattle.media_db.specs.Rows.{ssid_of, volid_of}
use Rattle.media_db.proofs.laws.lists_are_what_is_found.Goals as goal

pub returns : goal.returns
returns c = record {
  records = λ rows others are also same. same_lists nat_cmp_total ssid_of rows others are.ascending also.ascending same;
  volumes = λ volumes others up also same. same_lists nat_cmp_total volid_of volumes others up also same;
}
