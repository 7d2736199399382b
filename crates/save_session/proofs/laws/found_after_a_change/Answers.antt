use Rattle.std.proofs.Common.{◌∙◌, sym}
use Rattle.std.proofs.lemmas.Bool.{cond-true, cond-false}
use Rattle.std.proofs.lemmas.Cmp.{nat_cmp_total}
use Rattle.room_base.proofs.OrderedLaws.{found_updated}
use Rattle.room_base.proofs.OrderedNumbers.{same_number, other_number}
use Rattle.save_session.specs.Sessions.{ssid_of}
use Rattle.save_session.proofs.laws.found_after_a_change.Goals as goal

pub returns : goal.returns
returns c = record {
  changed = λ change keeps sessions ssid. found_updated nat_cmp_total ssid_of change keeps ssid ssid sessions ∙ cond-true _ _ _ (same_number ssid);
  others = λ change keeps sessions changed ssid differs. found_updated nat_cmp_total ssid_of change keeps changed ssid sessions ∙ cond-false _ _ _ (other_number changed ssid (λ same. differs (sym same)));
}
