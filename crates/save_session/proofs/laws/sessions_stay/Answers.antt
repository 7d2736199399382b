use Rattle.std.proofs.Common.{refl}
use Rattle.std.proofs.lemmas.Cmp.{nat_cmp_total}
use Rattle.room_base.proofs.OrderedUpdates.{ascends_put, ascends_removed, each_put, each_removed}
use Rattle.save_session.specs.Sessions.{IsSession, placed_on, ssid_of, started, with_piece}
use Rattle.save_session.proofs.Leaving.{are_left, changed_are, found_is}
use Rattle.save_session.proofs.Sending.{part_is, piece_is, started_is}
use Rattle.save_session.proofs.laws.sessions_stay.Goals as goal

pub returns : goal.returns
returns c = record {
  none = record { ascending = tt; each = tt };
  start = λ sessions head are allowed. record {
    ascending = ascends_put nat_cmp_total ssid_of sessions (started head) are.ascending;
    each = each_put nat_cmp_total ssid_of IsSession sessions (started head) (started_is head allowed) are.each;
  };
  take = λ sessions ssid session piece are found fit room read.
      changed_are (with_piece piece) (λ one. refl) ssid session
      (piece_is session piece (with_piece piece session).reading (found_is ssid session sessions are found) fit room read) sessions are found;
  place = λ sessions ssid session drive part are found next.
      changed_are (placed_on drive part) (λ one. refl) ssid session
      (part_is session drive part (found_is ssid session sessions are found) next) sessions are found;
  leave = λ sessions drive are. are_left drive sessions are;
  close = λ sessions ssid are. record {
    ascending = ascends_removed nat_cmp_total ssid_of ssid sessions are.ascending;
    each = each_removed nat_cmp_total ssid_of IsSession ssid sessions are.each;
  };
}
