use Rattle.std.proofs.Common.{◌≡◌, List, sym, ◌∙◌, ap, subst}
use Rattle.media_db.specs.declared.records.Record.{Record}
use Rattle.dep_chain.specs.Need.{AreSessions}
use Rattle.dep_chain.specs.declared.open_set.OpenSet.{OpenSet}
use Rattle.room_catalog.specs.Held.{HeldCatalogue}
use Rattle.room_checks.specs.OpenSets.{open_sets}
use Rattle.room_records.proofs.purging.sets_to_purge.Goals as goal

pub purgeable_sets-requires-clause-sessions : goal.purgeable_sets-requires-clause-sessions
purgeable_sets-requires-clause-sessions c =
    let room = c.args.room.now.room in
    let records : c.db-db.result.now.records ≡ room.catalogue.records =
    c.db-db.ensures.records ∙ ap (λ (held : HeldCatalogue). held.lists.records) c.catalogue.ensures in
    let sets : c.as_slice.result.now ≡ open_sets room = c.as_slice.ensures ∙ c.in-Ok.ensures.sets in
    let R : List Record → Type 0 = λ rows. AreSessions rows (open_sets room) in
    let S : List OpenSet → Type 0 = λ open_so. AreSessions c.db-db.result.now.records open_so in
    subst S (sym sets) (subst R (sym records) (c.open_sets.ensures.recorded c.requires.between))
