use Rattle.std.proofs.Common.{ℕ, List, Result, Ok, sym, subst, ◌∙◌}
use Rattle.std.specs.Ordering.{nat_cmp}
use Rattle.room_base.specs.declared.numbers.Ssid.{Ssid}
use Rattle.room_base.specs.Ordered.{Ascends, IsPlace}
use Rattle.save_session.specs.Kept.{number_of}
use Rattle.save_session.specs.Sessions.{SessionsView, IsOpen, ssid_of}
use Rattle.save_session.proofs.Keeping.{open_at, place_in_views}
use Rattle.save_session.proofs.sessions.Sessions.place.Goals as goal

pub place_of-requires : goal.place_of-requires
place_of-requires c = subst (Ascends nat_cmp number_of) (sym c.deref.ensures.value) c.self.invariant.ascending

pub unwrap-requires : goal.unwrap-requires
unwrap-requires c =
    let k = c.args.ssid.0 in
    let r = c.place_of.result in
    let place = place_in_views _ _ c.self.invariant k r (subst (λ (xs : List Ssid). IsPlace nat_cmp number_of k xs r) c.deref.ensures.value c.place_of.ensures) in
    open_at _ _ c.self.invariant k r place ∙ subst (λ (v : SessionsView). IsOpen k v.sessions) (sym c.self.view_is) c.requires

pub returns-clause-place : goal.returns-clause-place
returns-clause-place c =
    let k = c.args.ssid.0 in
    let at = c.unwrap.result in
    let there = subst (λ (r : Result ℕ ℕ). IsPlace nat_cmp number_of k c.deref.result.now r) c.unwrap.ensures c.place_of.ensures in
    let place = place_in_views _ _ c.self.invariant k (Ok at) (subst (λ (xs : List Ssid). IsPlace nat_cmp number_of k xs (Ok at)) c.deref.ensures.value there) in
    subst (λ (v : SessionsView). IsPlace nat_cmp ssid_of k v.sessions (Ok at)) c.self.view_is place
