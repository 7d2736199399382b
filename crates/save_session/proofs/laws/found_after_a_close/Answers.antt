use Rattle.std.proofs.Common.{◌∙◌, sym}
use Rattle.std.proofs.lemmas.Bool.{cond-true, cond-false}
use Rattle.std.proofs.lemmas.Cmp.{nat_cmp_total}
use Rattle.room_base.proofs.OrderedLaws.{found_removed}
use Rattle.room_base.proofs.OrderedNumbers.{same_number, other_number}
use Rattle.save_session.specs.Sessions.{ssid_of}
use Rattle.save_session.proofs.laws.found_after_a_close.Goals as goal

pub returns : goal.returns
returns c = record {
  none = λ sessions ssid. found_removed nat_cmp_total ssid_of ssid ssid sessions ∙ cond-true _ _ _ (same_number ssid);
  others = λ sessions closed ssid differs. found_removed nat_cmp_total ssid_of closed ssid sessions ∙ cond-false _ _ _ (other_number closed ssid (λ same. differs (sym same)));
}
