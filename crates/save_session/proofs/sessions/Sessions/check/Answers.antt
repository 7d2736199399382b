use Rattle.std.proofs.Common.{◌≡◌, List, Option, None, Ok, Err, sym, subst, ap, ◌∙◌}
use Rattle.std.specs.Ordering.{nat_cmp}
use Rattle.std.proofs.lemmas.Cmp.{nat_cmp_total}
use Rattle.room_base.specs.declared.numbers.Ssid.{Ssid}
use Rattle.room_base.specs.Ordered.{Ascends, IsPlace}
use Rattle.room_base.proofs.OrderedSearch.{none_at}
use Rattle.save_session.specs.Kept.{number_of, session_view}
use Rattle.save_session.specs.Sessions.{SessionsView, SessionView, check_open, check_sent, find_session, ssid_of}
use Rattle.save_session.proofs.Keeping.{found_in_value, found_there, kept_there, place_in_views}
use Rattle.save_session.proofs.sessions.Sessions.check.Goals as goal

pub place_of-requires : goal.place_of-requires
place_of-requires c = subst (Ascends nat_cmp number_of) (sym c.deref.ensures.value) c.self.invariant.ascending

pub returns-in-Ok : goal.returns-in-Ok
returns-in-Ok c =
    let k = c.args.ssid.0 in
    let at = c.in-Ok.at in
    let place = place_in_views _ _ c.self.invariant k (Ok at) (subst (λ (xs : List Ssid). IsPlace nat_cmp number_of k xs (Ok at)) c.deref.ensures.value c.in-Ok.ensures) in
    let session = c.index.result.now in
    let found = found_in_value k _ _ c.self.view_is (session_view session) (found_there _ _ c.self.invariant k at place session c.index.ensures) in
    let next = (kept_there _ _ c.self.invariant k at place session c.index.ensures).next in
    c.check.ensures ∙ ap (λ n. check_sent n c.args.offset c.args.length) next ∙ ap (λ (o : Option SessionView). check_open o c.args.offset c.args.length) (sym found)

pub returns-in-Err : goal.returns-in-Err
returns-in-Err c =
    let k = c.args.ssid.0 in
    let at = c.in-Err.field-0 in
    let place = place_in_views _ _ c.self.invariant k (Err at) (subst (λ (xs : List Ssid). IsPlace nat_cmp number_of k xs (Err at)) c.deref.ensures.value c.in-Err.ensures) in
    let none = none_at nat_cmp_total ssid_of k _ at place in
    ap (λ (o : Option SessionView). check_open o c.args.offset c.args.length) (sym (subst (λ (v : SessionsView). find_session k v.sessions ≡ None) c.self.view_is none))
