use Rattle.std.proofs.Common.{◌≡◌, ◌∙◌, List, Option, Some, ap, sym, true}
use Rattle.std.specs.Option.{option_map}
use Rattle.save_stream.specs.declared.entry.IndexEntry.{IndexEntry}
use Rattle.save_session.specs.Kept.{session_view}
use Rattle.save_session.specs.Sessions.{SessionView}
use Rattle.save_session.proofs.Keeping.{found_in_value, found_there, kept_closed, others_closed, place_of_value, views_closed}
use Rattle.save_session.proofs.Views.{of_some}
use Rattle.save_session.proofs.sessions.Sessions.finish.Goals as goal

pub into_entries-requires : goal.into_entries-requires
into_entries-requires c =
    let k = c.args.ssid.0 in
    let session = c.remove-session.result in
    let place = place_of_value k _ _ c.self.view_is c.place-at.result c.place-at.ensures.place in
    let found = found_in_value k _ _ c.self.view_is (session_view session) (found_there _ _ c.self.invariant k c.place-at.result place session c.remove-session.ensures.value) in
    of_some (λ (s : SessionView). s.reading.ended ≡ true) _ (session_view session) found c.requires.ended

pub invariant_of-self : goal.invariant_of-self
invariant_of-self c =
    let place = place_of_value c.args.ssid.0 _ _ c.self.view_is c.place-at.result c.place-at.ensures.place in
    rw (c.remove.ensures.items, c.remove-session.ensures.items) (kept_closed _ _ c.self.invariant c.args.ssid.0 c.place-at.result place)

pub returns-clause-value : goal.returns-clause-value
returns-clause-value c =
    let k = c.args.ssid.0 in
    let session = c.remove-session.result in
    let place = place_of_value k _ _ c.self.view_is c.place-at.result c.place-at.ensures.place in
    let found = found_in_value k _ _ c.self.view_is (session_view session) (found_there _ _ c.self.invariant k c.place-at.result place session c.remove-session.ensures.value) in
    ap (λ (o : Option SessionView). option_map (λ (s : SessionView). s.reading.entries) o) found
    ∙ ap (λ (entries : List IndexEntry). Some entries) (sym c.into_entries.ensures.value)

pub returns-clause-sessions : goal.returns-clause-sessions
returns-clause-sessions c =
    let place = place_of_value c.args.ssid.0 _ _ c.self.view_is c.place-at.result c.place-at.ensures.place in
    rw (← c.self.view_is, c.remove-session.ensures.items) (views_closed _ _ c.self.invariant c.args.ssid.0 c.place-at.result place)

pub returns-clause-rooms : goal.returns-clause-rooms
returns-clause-rooms c =
    let place = place_of_value c.args.ssid.0 _ _ c.self.view_is c.place-at.result c.place-at.ensures.place in
    rw (← c.self.view_is, c.remove-session.ensures.items) (others_closed _ _ c.self.invariant c.args.ssid.0 c.place-at.result place)
