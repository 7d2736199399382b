use Rattle.std.proofs.Common.{subst, sym}
use Rattle.std.specs.Prelude.{◌↔◌, IsTrue}
use Rattle.catalog_change.specs.declared.change.Change.{Change}
use Rattle.room_catalog.specs.Fits.{FitsByKind}
use Rattle.room_catalog.specs.Held.{catalogue_of}
use Rattle.room_catalog.specs.Views.{held_of}
use Rattle.room_catalog.proofs.kept.Kept.fits_by_kind.Goals as goal

pub returns-in-Defined : goal.returns-in-Defined
returns-in-Defined c =
    let catalogue = catalogue_of (held_of c.args.self.now).lists in
    let fits = rw c.as_slice.ensures at c.are_addable.ensures in
    subst (λ (change : Change). (IsTrue c.are_addable.result ↔ FitsByKind (catalogue_of (held_of c.args.self.now).lists) change)) (sym c.in-Defined.is) fits
