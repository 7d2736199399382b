use Rattle.std.proofs.Common.{◌<◌, ap}
use Rattle.save_session.specs.Kept.{room_of}
use Rattle.save_session.specs.Sessions.{SessionView}
use Rattle.save_session.proofs.Keeping.{kept_after, others_after, place_of_value, room_after, room_there, same_views}
use Rattle.save_session.proofs.Views.{on_ok}
use Rattle.save_session.proofs.sessions.Sessions.reserve.Goals as goal

pub invariant_of-self : goal.invariant_of-self
invariant_of-self c =
    let place = place_of_value c.args.ssid.0 _ _ c.self.view_is c.place-at.result c.place-at.ensures.place in
    kept_after _ _ c.self.invariant c.args.ssid.0 c.place-at.result place c.index_mut-session.result.now c.index_mut-session.ensures.value c.reserve.new.self (ap (λ (v : SessionView). v.head.ssid) c.reserve.ensures.view) c.reserve.ensures.kept

pub returns-clause-sessions : goal.returns-clause-sessions
returns-clause-sessions c =
    rw (← c.self.view_is) (same_views _ c.place-at.result c.index_mut-session.result.now c.index_mut-session.ensures.value c.reserve.new.self c.reserve.ensures.view)

pub returns-clause-ok : goal.returns-clause-ok
returns-clause-ok c =
    let place = place_of_value c.args.ssid.0 _ _ c.self.view_is c.place-at.result c.place-at.ensures.place in
    let after = room_after _ _ c.self.invariant c.args.ssid.0 c.place-at.result place c.index_mut-session.result.now c.index_mut-session.ensures.value c.reserve.new.self (ap (λ (v : SessionView). v.head.ssid) c.reserve.ensures.view) in
    on_ok c.reserve.result (λ (some : 0 < (room_of c.reserve.new.self).room). rw after some) c.reserve.ensures.ok

pub returns-clause-no_less : goal.returns-clause-no_less
returns-clause-no_less c =
    let place = place_of_value c.args.ssid.0 _ _ c.self.view_is c.place-at.result c.place-at.ensures.place in
    let before = room_there _ _ c.self.invariant c.args.ssid.0 c.place-at.result place c.index_mut-session.result.now c.index_mut-session.ensures.value in
    let after = room_after _ _ c.self.invariant c.args.ssid.0 c.place-at.result place c.index_mut-session.result.now c.index_mut-session.ensures.value c.reserve.new.self (ap (λ (v : SessionView). v.head.ssid) c.reserve.ensures.view) in
    rw (← c.self.view_is, before, after) c.reserve.ensures.room

pub returns-clause-rooms : goal.returns-clause-rooms
returns-clause-rooms c =
    let place = place_of_value c.args.ssid.0 _ _ c.self.view_is c.place-at.result c.place-at.ensures.place in
    rw (← c.self.view_is)
    (others_after _ _ c.self.invariant c.args.ssid.0 c.place-at.result place c.index_mut-session.result.now c.index_mut-session.ensures.value c.reserve.new.self (ap (λ (v : SessionView). v.head.ssid) c.reserve.ensures.view))
