-- What a change makes of two lists that are one catalogue is one catalogue.
use Rattle.std.proofs.Common.{◌≡◌, ◌∙◌, ℕ, ◌==◌, Bool, cond, true, false, List, [], ◌∷◌, refl, sym, ap}
use Rattle.std.specs.Prelude.{Option, Some, None}
use Rattle.std.proofs.Math.Path.{fun_ext}
use Rattle.room_base.specs.declared.numbers.Moment.{Moment}
use Rattle.room_base.specs.declared.numbers.Ssid.{Ssid}
use Rattle.media_db.specs.Edits.{has_copy_if_complete, without_copies_on}
use Rattle.media_db.specs.Rows.{volume_on}
use Rattle.media_db.specs.declared.records.Record.{Record}
use Rattle.media_db.specs.declared.volumes.VolumeRec.{VolumeRec}
use Rattle.client_index.specs.declared.index.SetIndex.{SetIndex}
use Rattle.client_index.specs.Sets.{forget, forget_each, put}
use Rattle.catalog_change.specs.Catalogues.{Catalogue}
use Rattle.catalog_change.specs.declared.change.Change.{Change}
use Rattle.catalog_change.specs.declared.change.Change.TheVariants.{Labelled, Finished, Deleted, Purged, IndexPart, FinishedParts}
use Rattle.room_catalog.specs.Applying.{is_among}
use Rattle.room_catalog.specs.Changing.{forget_off, forget_row_off, lists_after, sets_off}
use Rattle.room_catalog.specs.Held.{CatalogueLists, Parts, catalogue_of, index_in, resources_of}
use Rattle.room_catalog.proofs.Found.{index_forgotten, index_purged, index_put}
use Rattle.room_effects.specs.Reopening.{AreAlike}

-- ---- indexes

-- each set has the same index, none being as one without entries
abbrev AreSame : List SetIndex → List SetIndex → Type 0
AreSame sets others = (ssid : ℕ) → index_in others ssid ≡ index_in sets ssid

otherwise : {X : Type 0} (here : Bool) (x y z : X) → y ≡ z → cond here x y ≡ cond here x z
otherwise true x y z same = refl
otherwise false x y z same = same

put_same : (new : SetIndex) (sets others : List SetIndex) → AreSame sets others → AreSame (put sets new) (put others new)
put_same new sets others same ssid =
    index_put others new ssid ∙ otherwise (new.ssid.0 == ssid) new.entries (index_in others ssid) (index_in sets ssid) (same ssid) ∙ sym (index_put sets new ssid)

forget_same : (gone : Ssid) (sets others : List SetIndex) → AreSame sets others → AreSame (forget sets gone) (forget others gone)
forget_same gone sets others same ssid =
    index_forgotten others gone ssid ∙ otherwise (gone.0 == ssid) [] (index_in others ssid) (index_in sets ssid) (same ssid) ∙ sym (index_forgotten sets gone ssid)

purge_same : (gone : List Ssid) (sets others : List SetIndex) → AreSame sets others → AreSame (forget_each gone sets) (forget_each gone others)
purge_same gone sets others same ssid =
    index_purged gone others ssid ∙ otherwise (is_among gone ssid) [] (index_in others ssid) (index_in sets ssid) (same ssid) ∙ sym (index_purged gone sets ssid)

row_off_same : (stays : Bool) (gone : Ssid) (sets others : List SetIndex) → AreSame sets others → AreSame (cond stays sets (forget sets gone)) (cond stays others (forget others gone))
row_off_same true gone sets others same = same
row_off_same false gone sets others same = forget_same gone sets others same

rows_off_same : (volid : ℕ) (rows : List Record) (sets others : List SetIndex) → AreSame sets others → AreSame (forget_off volid rows sets) (forget_off volid rows others)
rows_off_same volid [] sets others same = same
rows_off_same volid (row ∷ rows) sets others same =
    rows_off_same volid rows (forget_row_off volid row sets) (forget_row_off volid row others)
    (row_off_same (has_copy_if_complete (without_copies_on volid row)) row.ssid sets others same)

sets_off_same : (gone : Option VolumeRec) (rows : List Record) (sets others : List SetIndex) → AreSame sets others → AreSame (sets_off gone rows sets) (sets_off gone rows others)
sets_off_same None rows sets others same = same
sets_off_same (Some gone) rows sets others same = rows_off_same gone.volid.0 rows sets others same

-- ---- changes

abbrev with_sets : List SetIndex → CatalogueLists → CatalogueLists
with_sets sets lists = record lists { sets = sets }

-- a catalogue whose indexes are found in these lists
abbrev found_in : Catalogue → List SetIndex → Catalogue
found_in catalogue sets = record catalogue { index = index_in sets }

same_index : (catalogue : Catalogue) (sets others : List SetIndex) → AreSame sets others → found_in catalogue sets ≡ found_in catalogue others
same_index catalogue sets others same = ap (λ index. record catalogue { index = index }) (fun_ext (λ ssid. sym (same ssid)))

after_same : (m : Moment) (change : Change) (lists : CatalogueLists) (sets : List SetIndex) → AreSame lists.sets sets
    → catalogue_of (lists_after m change lists) ≡ catalogue_of (lists_after m change (with_sets sets lists))
after_same m (Labelled volid cart pool capacity was) lists sets same =
    same_index (catalogue_of (lists_after m (Labelled volid cart pool capacity was) lists)) _ _
    (sets_off_same (volume_on cart.0 lists.volumes) lists.records lists.sets sets same)
after_same m (Finished ssid files bytes digest sections index) lists sets same =
    same_index (catalogue_of (lists_after m (Finished ssid files bytes digest sections index) lists)) _ _
    (put_same (record { ssid = ssid; entries = index }) lists.sets sets same)
after_same m (FinishedParts ssid files bytes digest sections) lists sets same =
    same_index (catalogue_of (lists_after m (FinishedParts ssid files bytes digest sections) lists)) _ _
    (put_same (record { ssid = ssid; entries = lists.parts.entries }) lists.sets sets same)
after_same m (Deleted ssid) lists sets same =
    same_index (catalogue_of (lists_after m (Deleted ssid) lists)) _ _ (forget_same ssid lists.sets sets same)
after_same m (Purged ssids) lists sets same =
    same_index (catalogue_of (lists_after m (Purged ssids) lists)) _ _ (purge_same ssids lists.sets sets same)
after_same m change lists sets same = same_index (catalogue_of (lists_after m change lists)) _ _ same

parts_same : (m : Moment) (change : Change) (lists : CatalogueLists) (sets : List SetIndex) → (lists_after m change lists).parts ≡ (lists_after m change (with_sets sets lists)).parts
parts_same m (IndexPart ssid part index) lists sets = refl
parts_same m change lists sets = refl

-- ---- lists that are one catalogue

abbrev lists_of : Catalogue → List SetIndex → Parts → CatalogueLists
lists_of catalogue sets parts = record {
  number = catalogue.number;
  last_moment = catalogue.last_moment;
  next_ssid = catalogue.next_ssid;
  next_volid = catalogue.next_volid;
  resources = resources_of catalogue;
  slots = catalogue.slots;
  volumes = catalogue.volumes;
  records = catalogue.records;
  sets = sets;
  parts = parts;
}

-- they are the same but for the lists of indexes
but_sets : (one other : CatalogueLists) → AreAlike one other → with_sets other.sets one ≡ other
but_sets one other alike =
    ap (λ (catalogue : Catalogue). lists_of catalogue other.sets one.parts) alike.0 ∙ ap (λ (parts : Parts). lists_of (catalogue_of other) other.sets parts) alike.1

pub alike_self : (one other : CatalogueLists) → one ≡ other → AreAlike one other
alike_self one other same = (ap catalogue_of same, ap (λ (lists : CatalogueLists). lists.parts) same)

pub alike_back : (one other : CatalogueLists) → AreAlike one other → AreAlike other one
alike_back one other alike = (sym alike.0, sym alike.1)

pub alike_then : (one mid other : CatalogueLists) → AreAlike one mid → AreAlike mid other → AreAlike one other
alike_then one mid other first second = (first.0 ∙ second.0, first.1 ∙ second.1)

pub alike_after : (m : Moment) (change : Change) (one other : CatalogueLists) → AreAlike one other → AreAlike (lists_after m change one) (lists_after m change other)
alike_after m change one other alike =
    let same : AreSame one.sets other.sets = λ ssid. ap (λ (catalogue : Catalogue). catalogue.index ssid) (sym alike.0) in
    alike_then (lists_after m change one) (lists_after m change (with_sets other.sets one)) (lists_after m change other)
    (after_same m change one other.sets same, parts_same m change one other.sets)
    (alike_self (lists_after m change (with_sets other.sets one)) (lists_after m change other) (ap (lists_after m change) (but_sets one other alike)))
