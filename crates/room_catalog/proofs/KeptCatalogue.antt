-- A catalogue stays one that is allowed, whatever fits it.
use Rattle.std.proofs.Common.{◌≡◌, ℕ, ◌+◌, ◌≤◌, Bool, true, false, cond, List, [], ◌∷◌, Option, Some, refl, sym, subst, ap, ◌∙◌, arith}
use Rattle.std.specs.Prelude.{◌==◌, IsSomeAnd}
use Rattle.std.specs.Ordering.{eq_by_cmp, nat_cmp}
use Rattle.std.proofs.lemmas.Bool.{cond-false, cond-true}
use Rattle.room_base.specs.Numbers.{max_moment}
use Rattle.room_base.specs.declared.numbers.Moment.{Moment}
use Rattle.room_base.specs.declared.numbers.Ssid.{Ssid}
use Rattle.save_stream.specs.declared.entry.IndexEntry.{IndexEntry}
use Rattle.media_db.specs.declared.records.Record.{Record}
use Rattle.media_db.specs.declared.volumes.VolumeRec.{VolumeRec}
use Rattle.media_db.specs.Edits.{aborted, amended, finished, purged_by, with_begun_copy, with_copy_removed, with_done_copy}
use Rattle.media_db.specs.Rows.{find_record, update_row, volume_on}
use Rattle.catalog_change.specs.declared.change.Change.{Change}
use Rattle.catalog_change.specs.declared.change.Change.TheVariants.{Defined, Dropped, Loaded, Ejected, Labelled, Begun, Finished, Aborted, Amended, Deleted, Purged, CopyBegun, CopyDone, IndexPart, FinishedParts}
use Rattle.catalog_change.specs.declared.resource.ResourceKind.TheVariants as kinds
use Rattle.catalog_change.specs.declared.slot.FilledSlot.{FilledSlot}
use Rattle.catalog_change.specs.Catalogues.{Catalogue, HasRecords, HasResources, IsCatalogue}
use Rattle.catalog_change.specs.Changes.{IsChange}
use Rattle.room_catalog.specs.Applying.{begun_row, is_among, row_off_gone, with_copy_ended}
use Rattle.room_catalog.specs.Changing.{HasWholeDigest, changed, records_off, sets_off}
use Rattle.resource_lists.specs.Changing.{with_each, without_named}
use Rattle.room_catalog.specs.Fits.{Fits}
use Rattle.room_catalog.specs.Held.{CatalogueLists, CatalogueRoom, Parts, catalogue_of, index_in}
use Rattle.room_catalog.specs.Ready.{IsReady}
use Rattle.room_catalog.proofs.Applied.{IsNoPart}
use Rattle.room_catalog.proofs.Found.{found_edited, found_edited_twice, found_off, found_purged, found_row, found_without, index_forgotten, index_off, index_purged, index_put}
use Rattle.room_catalog.proofs.KeptIndexes.{edited_none, fewer_indexes, found_some, left_indexes, one_index, purged_none, put_none, removed_none, same_indexes}
use Rattle.room_catalog.proofs.KeptRecords.{aborted_is, amended_is, begun_are, edited_are, finished_is, off_are, purged_are, removed_are, with_begun_copy_is, with_copy_ended_is}
use Rattle.room_catalog.proofs.KeptResources.{added_are, dropped_are}
use Rattle.room_catalog.proofs.KeptVolumes.{emptied_are, filled_are, laid_are}

-- resources are allowed whatever stands beside them
moved : (a : Catalogue) (number last_moment next_ssid next_volid : ℕ) (slots : List FilledSlot) (volumes : List VolumeRec) (records : List Record) (index : ℕ → List IndexEntry) → HasResources a
    → HasResources (record a { number = number; last_moment = last_moment; next_ssid = next_ssid; next_volid = next_volid; slots = slots; volumes = volumes; records = records; index = index })
moved a number last_moment next_ssid next_volid slots volumes records index is = record {
  policies = is.policies;
  pools = is.pools;
  clients = is.clients;
  schedules = is.schedules;
  groups = is.groups;
  count = is.count;
  kept = is.kept;
  scheduled = is.scheduled;
  default = is.default;
  room = is.room;
}

-- what holds of what is found holds of the record that is found
holds_of : (P : Record → Type 0) (found : Option Record) (row : Record) → found ≡ Some row → IsSomeAnd found P → P row
holds_of P found row is has = subst (λ (one : Option Record). IsSomeAnd one P) is has

-- two edits of one record are one
edited_once : (ssid : ℕ) (first second : Record → Record) → ((row : Record) → (first row).ssid ≡ row.ssid) → (rows : List Record) → update_row ssid second (update_row ssid first rows) ≡ update_row ssid (λ row. second (first row)) rows
edited_once ssid first second keeps [] = refl
edited_once ssid first second keeps (row ∷ rows) = by (eq_by_cmp nat_cmp row.ssid.0 ssid) refl (edited_once ssid first second keeps rows)
  where
    by : (here : Bool) → eq_by_cmp nat_cmp row.ssid.0 ssid ≡ here → update_row ssid second (update_row ssid first rows) ≡ update_row ssid (λ row. second (first row)) rows
        → update_row ssid second (cond here (first row ∷ rows) (row ∷ update_row ssid first rows)) ≡ cond here (second (first row) ∷ rows) (row ∷ update_row ssid (λ row. second (first row)) rows)
    by true is rest =
        let still : eq_by_cmp nat_cmp (first row).ssid.0 ssid ≡ true = ap (λ (s : Ssid). eq_by_cmp nat_cmp s.0 ssid) (keeps row) ∙ is in
        cond-true (eq_by_cmp nat_cmp (first row).ssid.0 ssid) (second (first row) ∷ rows) (first row ∷ update_row ssid second rows) still
    by false is rest =
        cond-false (eq_by_cmp nat_cmp row.ssid.0 ssid) (second row ∷ update_row ssid first rows) (row ∷ update_row ssid second (update_row ssid first rows)) is
        ∙ ap (λ (others : List Record). row ∷ others) rest

module _ (number : ℕ) (m : Moment) (old : CatalogueLists) (parts : Parts) (room : CatalogueRoom) (is : IsCatalogue (catalogue_of old)) (next : number ≡ old.number + 1) (within : m.0 ≤ max_moment) where
  pub stays_allowed : (change : Change) → IsNoPart change → IsChange change → HasWholeDigest change → Fits (catalogue_of old) change → IsReady (record { lists = old; room = room }) change → IsCatalogue (catalogue_of (changed number m change (record old { parts = parts })))
  stays_allowed (Defined new) no_part allowed whole fits ready = record {
    number = omega (arith, fits.0);
    last_moment = within;
    next_ssid = is.next_ssid;
    next_volid = is.next_volid;
    resources = moved (catalogue_of (record old { resources = with_each new old.resources })) _ _ _ _ _ _ _ _ (added_are old new is.resources allowed.1 fits.1 ready.1);
    slots = is.slots;
    volumes = is.volumes;
    records = is.records;
    indexes = is.indexes;
  }
  stays_allowed (Dropped kinds.Policy gone) no_part allowed whole fits ready = record {
    number = omega (arith, fits.0);
    last_moment = within;
    next_ssid = is.next_ssid;
    next_volid = is.next_volid;
    resources = moved (catalogue_of (record old { resources = without_named kinds.Policy gone old.resources })) _ _ _ _ _ _ _ _ (dropped_are old kinds.Policy gone is.resources fits.1.1);
    slots = is.slots;
    volumes = is.volumes;
    records = is.records;
    indexes = is.indexes;
  }
  stays_allowed (Dropped kinds.Pool gone) no_part allowed whole fits ready = record {
    number = omega (arith, fits.0);
    last_moment = within;
    next_ssid = is.next_ssid;
    next_volid = is.next_volid;
    resources = moved (catalogue_of (record old { resources = without_named kinds.Pool gone old.resources })) _ _ _ _ _ _ _ _ (dropped_are old kinds.Pool gone is.resources fits.1.1);
    slots = is.slots;
    volumes = is.volumes;
    records = is.records;
    indexes = is.indexes;
  }
  stays_allowed (Dropped kinds.Client gone) no_part allowed whole fits ready = record {
    number = omega (arith, fits.0);
    last_moment = within;
    next_ssid = is.next_ssid;
    next_volid = is.next_volid;
    resources = moved (catalogue_of (record old { resources = without_named kinds.Client gone old.resources })) _ _ _ _ _ _ _ _ (dropped_are old kinds.Client gone is.resources fits.1.1);
    slots = is.slots;
    volumes = is.volumes;
    records = is.records;
    indexes = is.indexes;
  }
  stays_allowed (Dropped kinds.Schedule gone) no_part allowed whole fits ready = record {
    number = omega (arith, fits.0);
    last_moment = within;
    next_ssid = is.next_ssid;
    next_volid = is.next_volid;
    resources = moved (catalogue_of (record old { resources = without_named kinds.Schedule gone old.resources })) _ _ _ _ _ _ _ _ (dropped_are old kinds.Schedule gone is.resources fits.1.1);
    slots = is.slots;
    volumes = is.volumes;
    records = is.records;
    indexes = is.indexes;
  }
  stays_allowed (Dropped kinds.Group gone) no_part allowed whole fits ready = record {
    number = omega (arith, fits.0);
    last_moment = within;
    next_ssid = is.next_ssid;
    next_volid = is.next_volid;
    resources = moved (catalogue_of (record old { resources = without_named kinds.Group gone old.resources })) _ _ _ _ _ _ _ _ (dropped_are old kinds.Group gone is.resources fits.1.1);
    slots = is.slots;
    volumes = is.volumes;
    records = is.records;
    indexes = is.indexes;
  }
  stays_allowed (Loaded slot cart) no_part allowed whole fits ready = record {
    number = omega (arith, fits.0);
    last_moment = within;
    next_ssid = is.next_ssid;
    next_volid = is.next_volid;
    resources = moved (catalogue_of old) _ _ _ _ _ _ _ _ is.resources;
    slots = filled_are old.slots slot cart is.slots fits.1;
    volumes = is.volumes;
    records = is.records;
    indexes = is.indexes;
  }
  stays_allowed (Ejected slot) no_part allowed whole fits ready = record {
    number = omega (arith, fits.0);
    last_moment = within;
    next_ssid = is.next_ssid;
    next_volid = is.next_volid;
    resources = moved (catalogue_of old) _ _ _ _ _ _ _ _ is.resources;
    slots = emptied_are old.slots slot is.slots;
    volumes = is.volumes;
    records = is.records;
    indexes = is.indexes;
  }
  stays_allowed (Labelled volid cart pool capacity was) no_part allowed whole fits ready = record {
    number = omega (arith, fits.0);
    last_moment = within;
    next_ssid = is.next_ssid;
    next_volid = (omega arith, omega (arith, fits.1.1));
    resources = moved (catalogue_of old) _ _ _ _ _ _ _ _ is.resources;
    slots = is.slots;
    volumes = laid_are old.next_volid old.volumes (record { volid = volid; cart = cart; pool = pool; capacity = capacity; was = was }) is.volumes allowed.0 fits.1.0 fits.1.1 fits.1.2 allowed.1 allowed.2 ready.1;
    records = off_are old.next_ssid (volume_on cart.0 old.volumes) old.records is.records;
    indexes = left_indexes old.records (records_off (volume_on cart.0 old.volumes) old.records) (index_in old.sets) (index_in (sets_off (volume_on cart.0 old.volumes) old.records old.sets)) is.indexes (λ ssid. row_off_gone (volume_on cart.0 old.volumes) (find_record ssid old.records)) (λ ssid. found_off (volume_on cart.0 old.volumes) ssid old.records is.records.order) (λ ssid. index_off (volume_on cart.0 old.volumes) old.records old.sets ssid is.records.order (is.indexes ssid).1);
  }
  stays_allowed (Begun head) no_part allowed whole fits ready = record {
    number = omega (arith, fits.0);
    last_moment = within;
    next_ssid = (omega arith, omega (arith, fits.1.1));
    next_volid = is.next_volid;
    resources = moved (catalogue_of old) _ _ _ _ _ _ _ _ is.resources;
    slots = is.slots;
    volumes = is.volumes;
    records = begun_are old.next_ssid old.records is.records head allowed fits.1.0 fits.1.1 ready.2;
    indexes = same_indexes old.records _ (index_in old.sets) (index_in old.sets) is.indexes (λ ssid none. put_none (head.ssid.0 == ssid) (begun_row head) (find_record ssid old.records) (sym (found_row (begun_row head) ssid old.records) ∙ none)) (λ ssid. refl);
  }
  stays_allowed (Finished set files bytes digest sections index) no_part allowed whole fits ready = record {
    number = omega (arith, fits.0);
    last_moment = within;
    next_ssid = is.next_ssid;
    next_volid = is.next_volid;
    resources = moved (catalogue_of old) _ _ _ _ _ _ _ _ is.resources;
    slots = is.slots;
    volumes = is.volumes;
    records = edited_are old.next_ssid old.records is.records set (finished files bytes digest sections) (λ row. refl) (λ row found of. finished_is old.next_ssid row of files bytes digest sections (holds_of _ (find_record set.0 old.records) row found fits.1) whole allowed.0);
    indexes = one_index old.records _ (index_in old.sets) _ is.indexes set index allowed.1 (λ ssid none. edited_none set (finished files bytes digest sections) ssid (find_record ssid old.records) (sym (found_edited set (finished files bytes digest sections) (λ row. refl) ssid old.records) ∙ none)) (found_some (find_record set.0 old.records) _ fits.1) (λ ssid. index_put old.sets (record { ssid = set; entries = index }) ssid);
  }
  stays_allowed (Aborted set) no_part allowed whole fits ready = record {
    number = omega (arith, fits.0);
    last_moment = within;
    next_ssid = is.next_ssid;
    next_volid = is.next_volid;
    resources = moved (catalogue_of old) _ _ _ _ _ _ _ _ is.resources;
    slots = is.slots;
    volumes = is.volumes;
    records = edited_are old.next_ssid old.records is.records set aborted (λ row. refl) (λ row found of. aborted_is old.next_ssid row of);
    indexes = same_indexes old.records _ (index_in old.sets) (index_in old.sets) is.indexes (λ ssid none. edited_none set aborted ssid (find_record ssid old.records) (sym (found_edited set aborted (λ row. refl) ssid old.records) ∙ none)) (λ ssid. refl);
  }
  stays_allowed (Amended set browse retain hold) no_part allowed whole fits ready = record {
    number = omega (arith, fits.0);
    last_moment = within;
    next_ssid = is.next_ssid;
    next_volid = is.next_volid;
    resources = moved (catalogue_of old) _ _ _ _ _ _ _ _ is.resources;
    slots = is.slots;
    volumes = is.volumes;
    records = edited_are old.next_ssid old.records is.records set (amended browse retain hold number) (λ row. refl) (λ row found of. amended_is old.next_ssid row of browse retain hold number fits.1.1 fits.1.2);
    indexes = same_indexes old.records _ (index_in old.sets) (index_in old.sets) is.indexes (λ ssid none. edited_none set (amended browse retain hold number) ssid (find_record ssid old.records) (sym (found_edited set (amended browse retain hold number) (λ row. refl) ssid old.records) ∙ none)) (λ ssid. refl);
  }
  stays_allowed (Deleted set) no_part allowed whole fits ready = record {
    number = omega (arith, fits.0);
    last_moment = within;
    next_ssid = is.next_ssid;
    next_volid = is.next_volid;
    resources = moved (catalogue_of old) _ _ _ _ _ _ _ _ is.resources;
    slots = is.slots;
    volumes = is.volumes;
    records = removed_are old.next_ssid old.records is.records set.0;
    indexes = fewer_indexes old.records _ (index_in old.sets) _ is.indexes (λ ssid. set.0 == ssid) (λ ssid other none. removed_none (set.0 == ssid) (find_record ssid old.records) other (sym (found_without set.0 ssid old.records) ∙ none)) (λ ssid. index_forgotten old.sets set ssid);
  }
  stays_allowed (Purged sets) no_part allowed whole fits ready = record {
    number = omega (arith, fits.0);
    last_moment = within;
    next_ssid = is.next_ssid;
    next_volid = is.next_volid;
    resources = moved (catalogue_of old) _ _ _ _ _ _ _ _ is.resources;
    slots = is.slots;
    volumes = is.volumes;
    records = purged_are old.next_ssid number sets old.records is.records;
    indexes = fewer_indexes old.records _ (index_in old.sets) _ is.indexes (is_among sets) (λ ssid other none. purged_none (is_among sets ssid) (purged_by number) (find_record ssid old.records) (sym (found_purged number sets ssid old.records) ∙ none)) (λ ssid. index_purged sets old.sets ssid);
  }
  stays_allowed (CopyBegun set copy) no_part allowed whole fits ready = record {
    number = omega (arith, fits.0);
    last_moment = within;
    next_ssid = is.next_ssid;
    next_volid = is.next_volid;
    resources = moved (catalogue_of old) _ _ _ _ _ _ _ _ is.resources;
    slots = is.slots;
    volumes = is.volumes;
    records = edited_are old.next_ssid old.records is.records set (with_begun_copy copy) (λ row. refl) (λ row found of. with_begun_copy_is old.next_ssid row of copy (holds_of _ (find_record set.0 old.records) row found fits.1));
    indexes = same_indexes old.records _ (index_in old.sets) (index_in old.sets) is.indexes (λ ssid none. edited_none set (with_begun_copy copy) ssid (find_record ssid old.records) (sym (found_edited set (with_begun_copy copy) (λ row. refl) ssid old.records) ∙ none)) (λ ssid. refl);
  }
  stays_allowed (CopyDone set copy sections removed) no_part allowed whole fits ready = record {
    number = omega (arith, fits.0);
    last_moment = within;
    next_ssid = is.next_ssid;
    next_volid = is.next_volid;
    resources = moved (catalogue_of old) _ _ _ _ _ _ _ _ is.resources;
    slots = is.slots;
    volumes = is.volumes;
    records = subst (HasRecords old.next_ssid) (sym (edited_once set.0 (with_done_copy copy sections) (with_copy_removed removed) (λ row. refl) old.records)) (edited_are old.next_ssid old.records is.records set (with_copy_ended copy sections removed) (λ row. refl) (λ row found of. with_copy_ended_is old.next_ssid row of copy sections removed (holds_of _ (find_record set.0 old.records) row found fits.1) allowed));
    indexes = same_indexes old.records _ (index_in old.sets) (index_in old.sets) is.indexes (λ ssid none. edited_none set (with_copy_ended copy sections removed) ssid (find_record ssid old.records) (sym (found_edited_twice set (with_done_copy copy sections) (with_copy_removed removed) (λ row. refl) (λ row. refl) ssid old.records) ∙ none)) (λ ssid. refl);
  }
  stays_allowed (IndexPart set part index) no_part allowed whole fits ready = absurd no_part
  stays_allowed (FinishedParts set files bytes digest sections) no_part allowed whole fits ready = absurd no_part
