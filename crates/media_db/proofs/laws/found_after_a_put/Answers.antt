use Rattle.std.proofs.Common.{◌∙◌, sym}
use Rattle.std.proofs.lemmas.Bool.{cond-true, cond-false}
use Rattle.std.proofs.lemmas.Cmp.{nat_cmp_total}
use Rattle.room_base.proofs.OrderedLaws.{found_put}
use Rattle.room_base.proofs.OrderedNumbers.{same_number, other_number}
use Rattle.media_db.specs.Rows.{ssid_of, volid_of}
use Rattle.media_db.proofs.laws.found_after_a_put.Goals as goal

pub returns : goal.returns
returns c = record {
  record_put = λ row rows. found_put nat_cmp_total ssid_of row row.ssid.0 rows ∙ cond-true _ _ _ (same_number row.ssid.0);
  other_record = λ row rows ssid differs. found_put nat_cmp_total ssid_of row ssid rows ∙ cond-false _ _ _ (other_number row.ssid.0 ssid (λ same. differs (sym same)));
  volume_put = λ volume volumes. found_put nat_cmp_total volid_of volume volume.volid.0 volumes ∙ cond-true _ _ _ (same_number volume.volid.0);
  other_volume = λ volume volumes volid differs. found_put nat_cmp_total volid_of volume volid volumes ∙ cond-false _ _ _ (other_number volume.volid.0 volid (λ same. differs (sym same)));
}
