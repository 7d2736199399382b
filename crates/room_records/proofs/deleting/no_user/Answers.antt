use Rattle.std.proofs.Common.{◌≡◌, List, sym, ◌∙◌, ap, subst}
use Rattle.std.specs.Prelude.{Some}
use Rattle.media_db.specs.declared.records.Record.{Record}
use Rattle.dep_chain.specs.Need.{AreSessions, IsLeastUser}
use Rattle.dep_chain.specs.declared.open_set.OpenSet.{OpenSet}
use Rattle.room_catalog.specs.Held.{HeldCatalogue}
use Rattle.room_checks.specs.OpenSets.{open_sets}
use Rattle.room_records.proofs.deleting.no_user.Goals as goal

pub user_of-user-requires-clause-sessions : goal.user_of-user-requires-clause-sessions
user_of-user-requires-clause-sessions c =
    let room = c.args.room.now.room in
    let records : c.db.result.now.records ≡ room.catalogue.records =
    c.db.ensures.records ∙ ap (λ (held : HeldCatalogue). held.lists.records) c.catalogue.ensures in
    let sets : c.as_slice.result.now ≡ open_sets room = c.as_slice.ensures ∙ c.in-Ok.ensures.sets in
    let R : List Record → Type 0 = λ rows. AreSessions rows (open_sets room) in
    let S : List OpenSet → Type 0 = λ open_so. AreSessions c.db.result.now.records open_so in
    subst S (sym sets) (subst R (sym records) (c.in-Ok.ensures.recorded c.requires.between))

pub returns-in-Ok : goal.returns-in-Ok
returns-in-Ok c =
    let room = c.args.room.now.room in
    let user = c.user_of-user.result in
    let records : c.db.result.now.records ≡ room.catalogue.records =
    c.db.ensures.records ∙ ap (λ (held : HeldCatalogue). held.lists.records) c.catalogue.ensures in
    let sets : c.as_slice.result.now ≡ open_sets room = c.as_slice.ensures ∙ c.in-Ok.ensures.sets in
    let R : List Record → Type 0 = λ rows. IsLeastUser rows (open_sets room) c.args.m.0 c.args.ssid.0 user in
    let S : List OpenSet → Type 0 = λ open_so. IsLeastUser c.db.result.now.records open_so c.args.m.0 c.args.ssid.0 user in
    (Some user, subst R records (subst S sets c.user_of-user.ensures), c.unused.ensures)
