-- The catalogue behind a change is one that there can be.
use Rattle.std.proofs.Common.{◌≡◌, ℕ, ◌+◌, ◌≤◌, List, refl, arith}
use Rattle.room_base.specs.Numbers.{max_moment}
use Rattle.room_base.specs.declared.numbers.Moment.{Moment}
use Rattle.room_base.specs.declared.numbers.Ssid.{Ssid}
use Rattle.save_stream.specs.Spelling.{PathsAscend}
use Rattle.media_db.specs.declared.copies.Section.{Section}
use Rattle.catalog_change.specs.Changes.{AreEntries, IsChange}
use Rattle.catalog_change.specs.declared.change.Change.{Change}
use Rattle.catalog_change.specs.declared.change.Change.TheVariants.{Defined, Dropped, Loaded, Ejected, Labelled, Begun, Finished, Aborted, Amended, Deleted, Purged, CopyBegun, CopyDone, IndexPart, FinishedParts}
use Rattle.catalog_spelling.specs.Decoding.{IsStamped}
use Rattle.room_catalog.specs.Changing.{HasWholeDigest, changed, catalogue_after, without_parts}
use Rattle.room_catalog.specs.Fits.{Fits, FitsParts}
use Rattle.room_catalog.specs.Held.{CatalogueLists, CatalogueRoom, catalogue_of}
use Rattle.room_catalog.specs.Invariant.{IsHeld}
use Rattle.room_catalog.specs.Ready.{IsReady}
use Rattle.room_catalog.proofs.Applied.{IsNoPart}
use Rattle.room_catalog.proofs.KeptCatalogue.{stays_allowed}
use Rattle.room_effects.specs.Needs.{IsWholeChange}

-- what is known of a change that is applied to these lists, in which there is room for it
pub record IsApplied (m : Moment) (change : Change) (lists : CatalogueLists) (memory : CatalogueRoom) : Type 0 where
  pub held : IsHeld lists
  pub ascend : PathsAscend lists.parts.entries
  pub stamped : IsStamped m.0 change
  pub fits : Fits (catalogue_of lists) change
  pub parts_fit : FitsParts lists.parts change
  pub ready : IsReady (record { lists = lists; room = memory }) change

held_bare : (number : ℕ) (m : Moment) (change : Change) (lists : CatalogueLists) (memory : CatalogueRoom) → IsHeld lists → number ≡ lists.number + 1
    → m.0 ≤ max_moment → IsNoPart change → IsChange change → HasWholeDigest change → Fits (catalogue_of lists) change
    → IsReady (record { lists = lists; room = memory }) change → IsHeld (without_parts (changed number m change lists))
held_bare number m change lists memory held next within no_part allowed whole fits ready = record {
  catalogue = stays_allowed number m lists lists.parts memory held.catalogue next within change no_part allowed whole fits ready;
  parts = tt;
}

-- a change that needs no index of parts
held_whole : (m : Moment) (change : Change) (lists : CatalogueLists) (memory : CatalogueRoom) → IsNoPart change → HasWholeDigest change
    → IsApplied m change lists memory → IsHeld (without_parts (changed (lists.number + 1) m change lists))
held_whole m change lists memory no_part whole is =
    held_bare (lists.number + 1) m change lists memory is.held refl is.stamped.written no_part is.stamped.allowed whole is.fits is.ready

held_closed : (m : Moment) (ssid : Ssid) (files bytes : ℕ) (digest : List ℕ) (sections : List Section) (lists : CatalogueLists) (memory : CatalogueRoom)
    → IsApplied m (FinishedParts ssid files bytes digest sections) lists memory
    → IsHeld (without_parts (changed (lists.number + 1) m (Finished ssid files bytes digest sections lists.parts.entries) lists))
held_closed m ssid files bytes digest sections lists memory is =
    let entries : AreEntries lists.parts.entries = record {
      each = is.held.parts;
      order = is.ascend;
      count = omega (arith, is.parts_fit.joined, is.stamped.fits.of_files);
    } in
    held_bare (lists.number + 1) m (Finished ssid files bytes digest sections lists.parts.entries) lists memory is.held refl is.stamped.written tt
    (is.stamped.allowed.1, entries) is.stamped.fits.of_digest is.fits is.ready

-- The catalogue behind a change that is allowed, fits, and finds room.
pub held_after : (m : Moment) (change : Change) (lists : CatalogueLists) (memory : CatalogueRoom) → IsWholeChange change → IsApplied m change lists memory
    → IsHeld (catalogue_after m change lists)
held_after m (Defined resources) lists memory whole is = held_whole m (Defined resources) lists memory tt tt is
held_after m (Dropped kind name) lists memory whole is = held_whole m (Dropped kind name) lists memory tt tt is
held_after m (Loaded slot cart) lists memory whole is = held_whole m (Loaded slot cart) lists memory tt tt is
held_after m (Ejected slot) lists memory whole is = held_whole m (Ejected slot) lists memory tt tt is
held_after m (Labelled volid cart pool capacity was) lists memory whole is = held_whole m (Labelled volid cart pool capacity was) lists memory tt tt is
held_after m (Begun head) lists memory whole is = held_whole m (Begun head) lists memory tt tt is
held_after m (Finished ssid files bytes digest sections index) lists memory whole is = held_whole m (Finished ssid files bytes digest sections index) lists memory tt is.stamped.fits.0.of_digest is
held_after m (Aborted ssid) lists memory whole is = held_whole m (Aborted ssid) lists memory tt tt is
held_after m (Amended ssid browse retain hold) lists memory whole is = held_whole m (Amended ssid browse retain hold) lists memory tt tt is
held_after m (Deleted ssid) lists memory whole is = held_whole m (Deleted ssid) lists memory tt tt is
held_after m (Purged ssids) lists memory whole is = held_whole m (Purged ssids) lists memory tt tt is
held_after m (CopyBegun ssid copy) lists memory whole is = held_whole m (CopyBegun ssid copy) lists memory tt tt is
held_after m (CopyDone ssid copy sections removed) lists memory whole is = held_whole m (CopyDone ssid copy sections removed) lists memory tt tt is
held_after m (IndexPart ssid part index) lists memory whole is = absurd whole
held_after m (FinishedParts ssid files bytes digest sections) lists memory whole is = held_closed m ssid files bytes digest sections lists memory is
