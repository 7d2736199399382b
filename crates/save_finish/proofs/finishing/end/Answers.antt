use Rattle.std.proofs.Common.{◌≡◌, true, subst, sym}
use Rattle.room_catalog.specs.Held.{HeldCatalogue}
use Rattle.save_session.specs.Sessions.{find_session}
use Rattle.room_effects.specs.Entering.{is_at_ceiling}
use Rattle.save_finish.proofs.Planning.{ceiling_found}
use Rattle.save_finish.proofs.finishing.end.Goals as goal

pub returns-then-is_at_ceiling-clause-follows : goal.returns-then-is_at_ceiling-clause-follows
returns-then-is_at_ceiling-clause-follows g c =
    let room = c.args.room.now.room in
    let C : HeldCatalogue → Type 0 = λ held. is_at_ceiling held.lists ≡ true in
    let at : is_at_ceiling room.catalogue ≡ true = subst C c.catalogue.ensures (sym c.if-is_at_ceiling.ensures) in
    ceiling_found c.args.m c.args.ssid room (find_session c.args.ssid.0 room.sessions) (g.D.Store.view c.args.store.now) at
