use Rattle.std.proofs.lemmas.Cmp.{nat_cmp_total}
use Rattle.room_base.proofs.OrderedLaws.{found_has_key, found_listed, listed_found}
use Rattle.room_base.proofs.OrderedNumbers.{equal_numbers}
use Rattle.media_db.specs.Rows.{ssid_of, volid_of}
use Rattle.media_db.proofs.laws.found_is_listed.Goals as goal

pub returns : goal.returns
returns c = record {
  record_number = λ rows ssid row found. equal_numbers row.ssid.0 ssid (found_has_key nat_cmp_total ssid_of ssid row rows found);
  record_listed = λ rows ssid row found. found_listed nat_cmp_total ssid_of ssid row rows found;
  record_found = λ rows row are there. listed_found nat_cmp_total ssid_of row rows are.ascending there;
  volume_number = λ volumes volid volume found. equal_numbers volume.volid.0 volid (found_has_key nat_cmp_total volid_of volid volume volumes found);
  volume_listed = λ volumes volid volume found. found_listed nat_cmp_total volid_of volid volume volumes found;
  volume_found = λ volumes volume up there. listed_found nat_cmp_total volid_of volume volumes up there;
}
