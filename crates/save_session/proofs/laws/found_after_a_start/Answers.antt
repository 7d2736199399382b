use Rattle.std.proofs.Common.{◌∙◌, sym}
use Rattle.std.proofs.lemmas.Bool.{cond-true, cond-false}
use Rattle.std.proofs.lemmas.Cmp.{nat_cmp_total}
use Rattle.room_base.proofs.OrderedLaws.{found_put}
use Rattle.room_base.proofs.OrderedNumbers.{same_number, other_number}
use Rattle.save_session.specs.Sessions.{ssid_of, started}
use Rattle.save_session.proofs.laws.found_after_a_start.Goals as goal

pub returns : goal.returns
returns c = record {
  started = λ sessions head. found_put nat_cmp_total ssid_of (started head) head.ssid.0 sessions ∙ cond-true _ _ _ (same_number head.ssid.0);
  others = λ sessions head ssid differs. found_put nat_cmp_total ssid_of (started head) ssid sessions ∙ cond-false _ _ _ (other_number head.ssid.0 ssid (λ same. differs (sym same)));
}
