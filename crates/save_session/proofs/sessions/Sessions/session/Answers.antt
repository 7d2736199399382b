use Rattle.save_session.specs.Kept.{session_view}
use Rattle.save_session.proofs.Keeping.{found_in_value, found_there, kept_there, place_of_value}
use Rattle.save_session.proofs.sessions.Sessions.session.Goals as goal

pub returns-clause-found : goal.returns-clause-found
returns-clause-found c =
    let k = c.args.ssid.0 in
    let place = place_of_value k _ _ c.self.view_is c.place.result c.place.ensures.place in
    found_in_value k _ _ c.self.view_is (session_view c.index.result.now) (found_there _ _ c.self.invariant k c.place.result place c.index.result.now c.index.ensures)

pub returns-clause-kept : goal.returns-clause-kept
returns-clause-kept c =
    let k = c.args.ssid.0 in
    let place = place_of_value k _ _ c.self.view_is c.place.result c.place.ensures.place in
    kept_there _ _ c.self.invariant k c.place.result place c.index.result.now c.index.ensures
