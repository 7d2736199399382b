use Rattle.std.proofs.Common.{◌≡◌, ◌∙◌, Err, List, None, Ok, Option, ap, subst, sym}
use Rattle.std.specs.Option.{is_some}
use Rattle.std.specs.Ordering.{nat_cmp}
use Rattle.std.proofs.lemmas.Bool.{true≢false}
use Rattle.room_base.specs.declared.numbers.Ssid.{Ssid}
use Rattle.room_base.specs.Ordered.{IsPlace}
use Rattle.save_session.specs.Kept.{number_of}
use Rattle.save_session.specs.Sessions.{SessionsView, SessionView, find_session}
use Rattle.save_session.proofs.Keeping.{kept_started, open_at, others_started, place_in_views, room_started, views_started}
use Rattle.save_session.proofs.sessions.Sessions.start.Goals as goal

pub invariant_of-self-in-Err : goal.invariant_of-self-in-Err
invariant_of-self-in-Err c =
    let ssid = c.args.head.ssid in
    let at = c.in-Err.at in
    let place = subst (λ (xs : List Ssid). IsPlace nat_cmp number_of ssid.0 xs (Err at)) (c.deref.ensures.value ∙ c.in_ok-reserve.ensures.items) c.in-Err.ensures in
    let same = sym (ap (λ (v : SessionView). v.head.ssid) c.in_ok-session.ensures.view) in
    rw (c.insert_in_room.ensures.items, c.insert_in_room-in-Err.ensures.items, c.in_ok-reserve.ensures.items, c.in_ok-reserve-2.ensures.items)
    (kept_started _ _ c.self.invariant ssid at place c.in_ok-session.session same c.in_ok-session.ensures.kept)

pub returns-in-Err-clause-ok : goal.returns-in-Err-clause-ok
returns-in-Err-clause-ok c =
    let ssid = c.args.head.ssid in
    let at = c.in-Err.at in
    let place = subst (λ (xs : List Ssid). IsPlace nat_cmp number_of ssid.0 xs (Err at)) (c.deref.ensures.value ∙ c.in_ok-reserve.ensures.items) c.in-Err.ensures in
    let same = sym (ap (λ (v : SessionView). v.head.ssid) c.in_ok-session.ensures.view) in
    rw (← c.self.view_is, c.insert_in_room-in-Err.ensures.items, c.in_ok-reserve-2.ensures.items)
    (views_started _ _ c.self.invariant ssid at place c.in_ok-session.session same c.args.head c.in_ok-session.ensures.view)

pub returns-in-Err-clause-rooms : goal.returns-in-Err-clause-rooms
returns-in-Err-clause-rooms c =
    let ssid = c.args.head.ssid in
    let at = c.in-Err.at in
    let place = subst (λ (xs : List Ssid). IsPlace nat_cmp number_of ssid.0 xs (Err at)) (c.deref.ensures.value ∙ c.in_ok-reserve.ensures.items) c.in-Err.ensures in
    let same = sym (ap (λ (v : SessionView). v.head.ssid) c.in_ok-session.ensures.view) in
    rw (← c.self.view_is, c.insert_in_room-in-Err.ensures.items, c.in_ok-reserve-2.ensures.items)
    (others_started _ _ c.self.invariant ssid at place c.in_ok-session.session same)

pub returns-in-Err-clause-first : goal.returns-in-Err-clause-first
returns-in-Err-clause-first c =
    let ssid = c.args.head.ssid in
    let at = c.in-Err.at in
    let place = subst (λ (xs : List Ssid). IsPlace nat_cmp number_of ssid.0 xs (Err at)) (c.deref.ensures.value ∙ c.in_ok-reserve.ensures.items) c.in-Err.ensures in
    let same = sym (ap (λ (v : SessionView). v.head.ssid) c.in_ok-session.ensures.view) in
    rw (
      c.insert_in_room-in-Err.ensures.items,
      c.in_ok-reserve-2.ensures.items,
      room_started _ _ c.self.invariant ssid at place c.in_ok-session.session same,
    )
    c.in_ok-session.ensures.room

-- the ssid has no place yet
pub returns-in_default-clause-ok : goal.returns-in_default-clause-ok
returns-in_default-clause-ok c =
    let ssid = c.args.head.ssid in
    let at = c.in_default.field-0 in
    let place = subst (λ (xs : List Ssid). IsPlace nat_cmp number_of ssid.0 xs (Ok at)) (c.deref.ensures.value ∙ c.in_ok-reserve.ensures.items) c.in_default.ensures in
    let none = subst (λ (v : SessionsView). find_session ssid.0 v.sessions ≡ None) (sym c.self.view_is) c.requires.new in
    let there = place_in_views _ _ c.self.invariant ssid.0 (Ok at) place in
    absurd (true≢false (open_at _ _ c.self.invariant ssid.0 (Ok at) there ∙ ap (λ (found : Option SessionView). is_some found) none))

pub returns-in_default-clause-first : goal.returns-in_default-clause-first
returns-in_default-clause-first c =
    let ssid = c.args.head.ssid in
    let at = c.in_default.field-0 in
    let place = subst (λ (xs : List Ssid). IsPlace nat_cmp number_of ssid.0 xs (Ok at)) (c.deref.ensures.value ∙ c.in_ok-reserve.ensures.items) c.in_default.ensures in
    let none = subst (λ (v : SessionsView). find_session ssid.0 v.sessions ≡ None) (sym c.self.view_is) c.requires.new in
    let there = place_in_views _ _ c.self.invariant ssid.0 (Ok at) place in
    absurd (true≢false (open_at _ _ c.self.invariant ssid.0 (Ok at) there ∙ ap (λ (found : Option SessionView). is_some found) none))
