use Rattle.std.proofs.Common.{◌<◌, ap, sym, subst, arith}
use Rattle.save_session.specs.Kept.{session_view}
use Rattle.save_session.specs.Parts.{IsNextPart}
use Rattle.save_session.specs.Sessions.{SessionsView, SessionView, placed_on, room_for}
use Rattle.save_session.proofs.Keeping.{changed_views, found_in_value, found_there, kept_after, others_after, place_of_value, room_after, room_there}
use Rattle.save_session.proofs.Views.{of_some}
use Rattle.save_session.proofs.sessions.Sessions.placed.Goals as goal

pub place-requires-clause-room : goal.place-requires-clause-room
place-requires-clause-room c =
    let k = c.args.ssid.0 in
    let place = place_of_value k _ _ c.self.view_is c.place-at.result c.place-at.ensures.place in
    let there = room_there _ _ c.self.invariant k c.place-at.result place c.index_mut-session.result.now c.index_mut-session.ensures.value in
    let some = subst (λ (v : SessionsView). 0 < room_for k v.rooms) (sym c.self.view_is) c.requires.room in
    omega (arith, there, some)

pub place-requires-clause-part : goal.place-requires-clause-part
place-requires-clause-part c =
    let k = c.args.ssid.0 in
    let old = c.index_mut-session.result.now in
    let place = place_of_value k _ _ c.self.view_is c.place-at.result c.place-at.ensures.place in
    let found = found_in_value k _ _ c.self.view_is (session_view old) (found_there _ _ c.self.invariant k c.place-at.result place old c.index_mut-session.ensures.value) in
    of_some (λ (session : SessionView). IsNextPart c.args.part session.sections) _ (session_view old) found c.requires.part

pub invariant_of-self : goal.invariant_of-self
invariant_of-self c =
    let place = place_of_value c.args.ssid.0 _ _ c.self.view_is c.place-at.result c.place-at.ensures.place in
    kept_after _ _ c.self.invariant c.args.ssid.0 c.place-at.result place c.index_mut-session.result.now c.index_mut-session.ensures.value c.place.new.self (ap (λ (v : SessionView). v.head.ssid) c.place.ensures.view) c.place.ensures.kept

pub returns-clause-sessions : goal.returns-clause-sessions
returns-clause-sessions c =
    let place = place_of_value c.args.ssid.0 _ _ c.self.view_is c.place-at.result c.place-at.ensures.place in
    rw (← c.self.view_is)
    (changed_views _ _ c.self.invariant c.args.ssid.0 c.place-at.result place c.index_mut-session.result.now c.index_mut-session.ensures.value c.place.new.self (ap (λ (v : SessionView). v.head.ssid) c.place.ensures.view) (placed_on c.args.drive c.args.part) c.place.ensures.view)

pub returns-clause-room : goal.returns-clause-room
returns-clause-room c =
    let place = place_of_value c.args.ssid.0 _ _ c.self.view_is c.place-at.result c.place-at.ensures.place in
    let before = room_there _ _ c.self.invariant c.args.ssid.0 c.place-at.result place c.index_mut-session.result.now c.index_mut-session.ensures.value in
    let after = room_after _ _ c.self.invariant c.args.ssid.0 c.place-at.result place c.index_mut-session.result.now c.index_mut-session.ensures.value c.place.new.self (ap (λ (v : SessionView). v.head.ssid) c.place.ensures.view) in
    rw (← c.self.view_is, before, after) c.place.ensures.room

pub returns-clause-rooms : goal.returns-clause-rooms
returns-clause-rooms c =
    let place = place_of_value c.args.ssid.0 _ _ c.self.view_is c.place-at.result c.place-at.ensures.place in
    rw (← c.self.view_is)
    (others_after _ _ c.self.invariant c.args.ssid.0 c.place-at.result place c.index_mut-session.result.now c.index_mut-session.ensures.value c.place.new.self (ap (λ (v : SessionView). v.head.ssid) c.place.ensures.view))
