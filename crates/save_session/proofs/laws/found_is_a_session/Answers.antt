use Rattle.std.proofs.lemmas.Cmp.{nat_cmp_total}
use Rattle.room_base.proofs.OrderedLaws.{each_found, found_has_key}
use Rattle.room_base.proofs.OrderedNumbers.{equal_numbers}
use Rattle.save_session.specs.Sessions.{IsSession, ssid_of}
use Rattle.save_session.proofs.laws.found_is_a_session.Goals as goal

pub returns : goal.returns
returns c = λ sessions ssid session are found. (
  equal_numbers (ssid_of session) ssid (found_has_key nat_cmp_total ssid_of ssid session sessions found),
  each_found nat_cmp_total ssid_of IsSession ssid session sessions are.each found,
)
