-- What changes make of lists that are one catalogue is one catalogue.
use Rattle.std.proofs.Common.{◌≡◌, ◌+◌, List, [], ◌∷◌, refl, sym, ap, ◌∙◌}
use Rattle.room_base.specs.declared.numbers.Moment.{Moment}
use Rattle.catalog_change.specs.Catalogues.{Catalogue}
use Rattle.catalog_change.specs.declared.change.Change.{Change}
use Rattle.catalog_change.specs.declared.change.Change.TheVariants.{Defined, Dropped, Loaded, Ejected, Labelled, Begun, Finished, Aborted, Amended, Deleted, Purged, CopyBegun, CopyDone, IndexPart, FinishedParts}
use Rattle.catalog_spelling.specs.Changes.{Stamped}
use Rattle.room_catalog.specs.Changing.{catalogue_after, without_parts}
use Rattle.room_catalog.specs.Held.{CatalogueLists, catalogue_of}
use Rattle.room_effects.specs.Running.{catalogue_behind}
use Rattle.room_effects.proofs.Changing.{AreIndexed, IsIndexed, after_bare}
use Rattle.journal_files.proofs.Alike.{alike_after}

bare_alike : (m : Moment) (change : Change) (one other : CatalogueLists) → catalogue_of one ≡ catalogue_of other
    → catalogue_of (catalogue_after m change (without_parts one)) ≡ catalogue_of (catalogue_after m change (without_parts other))
bare_alike m (IndexPart ssid part index) one other same =
    ap (λ (catalogue : Catalogue). record catalogue { number = catalogue.number + 1; last_moment = m.0 }) same
bare_alike m (Defined resources) one other same = (alike_after m (Defined resources) (without_parts one) (without_parts other) (same, refl)).0
bare_alike m (Dropped kind name) one other same = (alike_after m (Dropped kind name) (without_parts one) (without_parts other) (same, refl)).0
bare_alike m (Loaded slot cart) one other same = (alike_after m (Loaded slot cart) (without_parts one) (without_parts other) (same, refl)).0
bare_alike m (Ejected slot) one other same = (alike_after m (Ejected slot) (without_parts one) (without_parts other) (same, refl)).0
bare_alike m (Labelled volid cart pool capacity was) one other same =
    (alike_after m (Labelled volid cart pool capacity was) (without_parts one) (without_parts other) (same, refl)).0
bare_alike m (Begun head) one other same = (alike_after m (Begun head) (without_parts one) (without_parts other) (same, refl)).0
bare_alike m (Finished ssid files bytes digest sections index) one other same =
    (alike_after m (Finished ssid files bytes digest sections index) (without_parts one) (without_parts other) (same, refl)).0
bare_alike m (Aborted ssid) one other same = (alike_after m (Aborted ssid) (without_parts one) (without_parts other) (same, refl)).0
bare_alike m (Amended ssid browse retain hold) one other same =
    (alike_after m (Amended ssid browse retain hold) (without_parts one) (without_parts other) (same, refl)).0
bare_alike m (Deleted ssid) one other same = (alike_after m (Deleted ssid) (without_parts one) (without_parts other) (same, refl)).0
bare_alike m (Purged ssids) one other same = (alike_after m (Purged ssids) (without_parts one) (without_parts other) (same, refl)).0
bare_alike m (CopyBegun ssid copy) one other same = (alike_after m (CopyBegun ssid copy) (without_parts one) (without_parts other) (same, refl)).0
bare_alike m (CopyDone ssid copy sections removed) one other same =
    (alike_after m (CopyDone ssid copy sections removed) (without_parts one) (without_parts other) (same, refl)).0
bare_alike m (FinishedParts ssid files bytes digest sections) one other same =
    (alike_after m (FinishedParts ssid files bytes digest sections) (without_parts one) (without_parts other) (same, refl)).0

after_alike : (m : Moment) (change : Change) (one other : CatalogueLists) → IsIndexed change → catalogue_of one ≡ catalogue_of other
    → catalogue_of (catalogue_after m change one) ≡ catalogue_of (catalogue_after m change other)
after_alike m change one other indexed same =
    ap catalogue_of (after_bare m change one indexed) ∙ bare_alike m change one other same ∙ ap catalogue_of (sym (after_bare m change other indexed))

pub made_alike : (changes : List Stamped) (one other : CatalogueLists) → AreIndexed changes → catalogue_of one ≡ catalogue_of other
    → catalogue_of (catalogue_behind changes one) ≡ catalogue_of (catalogue_behind changes other)
made_alike [] one other indexed same = same
made_alike (first ∷ more) one other indexed same =
    let m : Moment = record { 0 = first.moment } in
    made_alike more (catalogue_after m first.change one) (catalogue_after m first.change other) indexed.1 (after_alike m first.change one other indexed.0 same)
