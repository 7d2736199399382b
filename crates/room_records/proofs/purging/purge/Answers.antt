use Rattle.std.proofs.Common.{◌≡◌, false, List, length, sym, subst}
use Rattle.std.specs.Prelude.{◌==◌}
use Rattle.room_base.specs.declared.numbers.Ssid.{Ssid}
use Rattle.catalog_change.specs.Changes.{IsChange}
use Rattle.catalog_change.specs.declared.change.Change.TheVariants.{Purged}
use Rattle.room_catalog.specs.Fits.{FitsByKind}
use Rattle.room_catalog.specs.Held.{HeldCatalogue, catalogue_of}
use Rattle.room_catalog.specs.Invariant.{IsHeld}
use Rattle.room_effects.proofs.Following.{follows_no_memory}
use Rattle.room_records.specs.Purging.{purging}
use Rattle.room_records.proofs.Purgeable.{purge_allowed, purge_fits}
use Rattle.room_records.proofs.PurgePlan.{follows_some}
use Rattle.room_records.proofs.purging.purge.Goals as goal

pub enter-requires-clause-allowed : goal.enter-requires-clause-allowed
enter-requires-clause-allowed g c =
    let room = c.args.room.now.room in
    let H : HeldCatalogue → Type 0 = λ held. IsHeld held.lists in
    let held = subst H c.catalogue.ensures c.number-number.ensures.held in
    let P : List Ssid → Type 0 = λ list. IsChange (Purged list) in
    subst P (sym c.in-Ok.ensures) (purge_allowed c.args.m room c.args.ssids held c.requires.purged)

pub enter-requires-clause-fits : goal.enter-requires-clause-fits
enter-requires-clause-fits g c =
    let room = c.args.room.now.room in
    let H : HeldCatalogue → Type 0 = λ held. IsHeld held.lists in
    let held = subst H c.catalogue.ensures c.number-number.ensures.held in
    let P : List Ssid → Type 0 = λ list. FitsByKind (catalogue_of room.catalogue) (Purged list) in
    subst P (sym c.in-Ok.ensures) (purge_fits c.args.m room c.args.ssids held c.requires.purged)

pub returns-in-Ok-clause-follows : goal.returns-in-Ok-clause-follows
returns-in-Ok-clause-follows g c =
    let L : List Ssid → Type 0 = λ list. (length list == 0) ≡ false in
    let some : (length c.args.ssids == 0) ≡ false = subst L c.as_slice.ensures (sym c.if-is_empty.ensures) in
    follows_some c.args.m c.args.ssids c.in-Ok.copy c.enter.result c.args.room.now.room c.enter.new.room.room (g.D.Store.view c.args.store.now) (g.D.Store.view c.enter.new.store)
    c.in-Ok.ensures some c.enter.ensures.follows

pub returns-in-Err-clause-follows : goal.returns-in-Err-clause-follows
returns-in-Err-clause-follows g c =
    let room = c.args.room.now.room in
    follows_no_memory (purging c.args.m c.args.ssids room) room (g.D.Store.view c.args.store.now)
