use Rattle.std.proofs.Common.{◌≡◌, ◌∙◌, List, subst}
use Rattle.std.specs.Option.{is_some}
use Rattle.std.specs.Ordering.{nat_cmp}
use Rattle.std.specs.Result.{is_ok}
use Rattle.room_base.specs.declared.numbers.Ssid.{Ssid}
use Rattle.room_base.specs.Ordered.{IsPlace}
use Rattle.save_session.specs.Kept.{number_of}
use Rattle.save_session.specs.Sessions.{SessionsView, find_session}
use Rattle.save_session.proofs.Keeping.{open_at, place_in_views}
use Rattle.save_session.proofs.sessions.Sessions.is_open.Goals as goal

pub returns : goal.returns
returns c =
    let k = c.args.ssid.0 in
    let r = c.place_of.result in
    let place = place_in_views _ _ c.self.invariant k r (subst (λ (xs : List Ssid). IsPlace nat_cmp number_of k xs r) c.deref.ensures.value c.place_of.ensures) in
    c.is_ok.ensures.value ∙ subst (λ (v : SessionsView). is_ok r ≡ is_some (find_session k v.sessions)) c.self.view_is (open_at _ _ c.self.invariant k r place)
