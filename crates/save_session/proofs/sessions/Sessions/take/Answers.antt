use Rattle.std.proofs.Common.{◌≡◌, ◌+◌, ◌≤◌, ◌^◌, ap, length}
use Rattle.save_session.specs.Kept.{session_view}
use Rattle.save_session.specs.Sessions.{SessionView, FollowsPiece, PartRoom, with_piece}
use Rattle.save_session.proofs.Keeping.{changed_views, found_in_value, found_there, kept_after, place_of_value, same_rooms, same_value}
use Rattle.save_session.proofs.Views.{of_some, on_err, on_ok, to_some}
use Rattle.save_session.proofs.sessions.Sessions.take.Goals as goal

pub take-requires-clause-size : goal.take-requires-clause-size
take-requires-clause-size c =
    let k = c.args.ssid.0 in
    let old = c.index_mut-session.result.now in
    let place = place_of_value k _ _ c.self.view_is c.place-at.result c.place-at.ensures.place in
    let found = found_in_value k _ _ c.self.view_is (session_view old) (found_there _ _ c.self.invariant k c.place-at.result place old c.index_mut-session.ensures.value) in
    of_some (λ (session : SessionView). session.reading.read + length c.args.piece.now ≤ 2 ^ 36) _ (session_view old) found c.requires.size

pub invariant_of-self : goal.invariant_of-self
invariant_of-self c =
    let k = c.args.ssid.0 in
    let old = c.index_mut-session.result.now in
    let place = place_of_value k _ _ c.self.view_is c.place-at.result c.place-at.ensures.place in
    kept_after _ _ c.self.invariant k c.place-at.result place old c.index_mut-session.ensures.value c.take.new.self (ap (λ (r : PartRoom). record { 0 = r.ssid }) c.take.ensures.room) c.take.ensures.kept

pub returns-clause-read : goal.returns-clause-read
returns-clause-read c =
    let k = c.args.ssid.0 in
    let old = c.index_mut-session.result.now in
    let place = place_of_value k _ _ c.self.view_is c.place-at.result c.place-at.ensures.place in
    let found = found_in_value k _ _ c.self.view_is (session_view old) (found_there _ _ c.self.invariant k c.place-at.result place old c.index_mut-session.ensures.value) in
    to_some (λ (session : SessionView). FollowsPiece c.args.piece.now session c.take.result) _ (session_view old) found c.take.ensures.read

pub returns-clause-ok : goal.returns-clause-ok
returns-clause-ok c =
    let k = c.args.ssid.0 in
    let old = c.index_mut-session.result.now in
    let place = place_of_value k _ _ c.self.view_is c.place-at.result c.place-at.ensures.place in
    rw (← c.self.view_is)
    (on_ok c.take.result
    (changed_views _ _ c.self.invariant k c.place-at.result place old c.index_mut-session.ensures.value c.take.new.self (ap (λ (r : PartRoom). record { 0 = r.ssid }) c.take.ensures.room) (with_piece c.args.piece.now))
    c.take.ensures.ok)

pub returns-clause-err : goal.returns-clause-err
returns-clause-err c =
    let old = c.index_mut-session.result.now in
    rw (← c.self.view_is)
    (on_err c.take.result (λ (same : c.take.new.self ≡ old). same_value _ c.place-at.result old c.index_mut-session.ensures.value c.take.new.self (ap session_view same) c.take.ensures.room) c.take.ensures.err)

pub returns-clause-rooms : goal.returns-clause-rooms
returns-clause-rooms c =
    let old = c.index_mut-session.result.now in
    rw (← c.self.view_is) (same_rooms _ c.place-at.result old c.index_mut-session.ensures.value c.take.new.self c.take.ensures.room)
