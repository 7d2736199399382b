use Rattle.std.proofs.Common.{◌∙◌, sym, ap}
use Rattle.std.proofs.lemmas.Bool.{cond-true, cond-false}
use Rattle.std.proofs.lemmas.Cmp.{nat_cmp_total}
use Rattle.room_base.specs.declared.numbers.Ssid.{Ssid}
use Rattle.room_base.proofs.OrderedLaws.{found_updated}
use Rattle.room_base.proofs.OrderedNumbers.{same_number, other_number}
use Rattle.media_db.specs.Rows.{ssid_of}
use Rattle.media_db.proofs.laws.found_after_an_edit.Goals as goal

pub returns : goal.returns
returns c = record {
  edited = λ change keeps rows ssid. found_updated nat_cmp_total ssid_of change (λ row. ap (λ (s : Ssid). s.0) (keeps row)) ssid ssid rows ∙ cond-true _ _ _ (same_number ssid);
  others = λ change keeps rows edited ssid differs. found_updated nat_cmp_total ssid_of change (λ row. ap (λ (s : Ssid). s.0) (keeps row)) edited ssid rows ∙ cond-false _ _ _ (other_number edited ssid (λ same. differs (sym same)));
}
