use Rattle.save_session.proofs.Keeping.{kept_closed, others_closed, place_of_value, views_closed}
use Rattle.save_session.proofs.sessions.Sessions.close.Goals as goal

pub invariant_of-self : goal.invariant_of-self
invariant_of-self c =
    let place = place_of_value c.args.ssid.0 _ _ c.self.view_is c.place-at.result c.place-at.ensures.place in
    rw (c.remove.ensures.items, c.remove-2.ensures.items) (kept_closed _ _ c.self.invariant c.args.ssid.0 c.place-at.result place)

pub returns-clause-sessions : goal.returns-clause-sessions
returns-clause-sessions c =
    let place = place_of_value c.args.ssid.0 _ _ c.self.view_is c.place-at.result c.place-at.ensures.place in
    rw (← c.self.view_is, c.remove-2.ensures.items) (views_closed _ _ c.self.invariant c.args.ssid.0 c.place-at.result place)

pub returns-clause-rooms : goal.returns-clause-rooms
returns-clause-rooms c =
    let place = place_of_value c.args.ssid.0 _ _ c.self.view_is c.place-at.result c.place-at.ensures.place in
    rw (← c.self.view_is, c.remove-2.ensures.items) (others_closed _ _ c.self.invariant c.args.ssid.0 c.place-at.result place)
