use Rattle.std.proofs.Common.{◌∙◌, sym}
use Rattle.std.proofs.lemmas.Bool.{cond-true, cond-false}
use Rattle.std.proofs.lemmas.Cmp.{nat_cmp_total}
use Rattle.room_base.proofs.OrderedLaws.{found_removed}
use Rattle.room_base.proofs.OrderedNumbers.{same_number, other_number}
use Rattle.media_db.specs.Rows.{ssid_of, volid_of}
use Rattle.media_db.proofs.laws.found_after_a_removal.Goals as goal

pub returns : goal.returns
returns c = record {
  no_record = λ rows ssid. found_removed nat_cmp_total ssid_of ssid ssid rows ∙ cond-true _ _ _ (same_number ssid);
  other_record = λ rows gone ssid differs. found_removed nat_cmp_total ssid_of gone ssid rows ∙ cond-false _ _ _ (other_number gone ssid (λ same. differs (sym same)));
  no_volume = λ volumes volid. found_removed nat_cmp_total volid_of volid volid volumes ∙ cond-true _ _ _ (same_number volid);
  other_volume = λ volumes gone volid differs. found_removed nat_cmp_total volid_of gone volid volumes ∙ cond-false _ _ _ (other_number gone volid (λ same. differs (sym same)));
}
