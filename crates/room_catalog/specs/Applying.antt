-- What a change makes of a catalogue, look-up by look-up.
use Rattle.std.specs.Prelude.{◌≡◌, ℕ, ◌+◌, List, [], ◌∷◌, ◌++◌, replicate, Bool}
use Rattle.std.specs.Prelude.{Option, Some, None}
use Rattle.std.specs.Prelude.{false, ◌&&◌, ◌==◌, if◌then◌else◌, filter_map, option_map}
use Rattle.std.specs.List.{list_any}
use Rattle.std.specs.Option.{option_and_then, option_or}
use Rattle.std.specs.Ordering.{eq_by_cmp, nat_cmp}
use Rattle.std.specs.Cmp.Lexicographic.{slice_cmp}
use Rattle.room_base.specs.declared.numbers.CopyNo.{CopyNo}
use Rattle.room_base.specs.declared.numbers.Moment.{Moment}
use Rattle.room_base.specs.declared.numbers.Ssid.{Ssid}
use Rattle.save_stream.specs.declared.entry.IndexEntry.{IndexEntry}
use Rattle.save_stream.specs.declared.head.SetHead.{SetHead}
use Rattle.media_db.specs.Edits.{
  aborted,
  amended,
  begun_copy,
  finished,
  has_copy_if_complete,
  purged_by,
  with_begun_copy,
  with_copy_removed,
  with_done_copy,
  without_copies_on,
}
use Rattle.media_db.specs.Rows.{find_record, find_volume, volume_on}
use Rattle.media_db.specs.declared.copies.Section.{Section}
use Rattle.media_db.specs.declared.records.Record.{Record}
use Rattle.media_db.specs.declared.records.RecordState.TheVariants as states
use Rattle.media_db.specs.declared.volumes.VolumeRec.{VolumeRec}
use Rattle.catalog_change.specs.declared.change.Change.{Change}
use Rattle.catalog_change.specs.declared.change.Change.TheVariants.{
  Defined,
  Dropped,
  Loaded,
  Ejected,
  Labelled,
  Begun,
  Finished,
  Aborted,
  Amended,
  Deleted,
  Purged,
  CopyBegun,
  CopyDone,
  IndexPart,
  FinishedParts,
}
use Rattle.catalog_change.specs.declared.resource.Resource.{Resource}
use Rattle.catalog_change.specs.declared.resource.ResourceKind.{ResourceKind}
use Rattle.catalog_change.specs.declared.resource.ResourceKind.TheVariants as kinds
use Rattle.catalog_change.specs.declared.slot.FilledSlot.{FilledSlot}
use Rattle.catalog_change.specs.Catalogues.{Catalogue}
use Rattle.catalog_change.specs.Resources.{
  client_name,
  group_name,
  policy_name,
  pool_name,
  schedule_name,
}
use Rattle.room_catalog.specs.Fits.{find_slot}
use Rattle.room_catalog.specs.Held.{Parts, no_parts}
use Rattle.resource_lists.specs.Kinds.{
  as_client,
  as_group,
  as_policy,
  as_pool,
  as_schedule,
  find_named,
  is_kind,
}

-- ---- numbers

-- a part of an index is no change by itself
abbrev pub number_after : Change → ℕ → ℕ
number_after (IndexPart ssid part index) old = old
number_after _ old = old + 1

abbrev pub moment_after : Change → Moment → ℕ → ℕ
moment_after (IndexPart ssid part index) m old = old
moment_after _ m old = m.0

abbrev pub next_ssid_after : Change → ℕ → ℕ
next_ssid_after (Begun head) old = head.ssid.0 + 1
next_ssid_after _ old = old

abbrev pub next_volid_after : Change → ℕ → ℕ
next_volid_after (Labelled volid cart pool capacity was) old = volid.0 + 1
next_volid_after _ old = old

-- ---- resources and slots

-- the resource of this kind and name after a change: one that is added, or the old one, unless it
-- is dropped
abbrev pub resource_after : {X : Type 0} → ResourceKind → (X → List ℕ) → (Resource → Option X)
    → Change → List ℕ → Option X → Option X
resource_after kind name_of as_kind (Defined new) name old =
    option_or (find_named name_of name (filter_map as_kind new)) old
resource_after kind name_of as_kind (Dropped gone_kind gone) name old =
    if is_kind gone_kind kind && eq_by_cmp (slice_cmp nat_cmp) gone name then None else old
resource_after kind name_of as_kind _ name old = old

-- what lies in a slot after a change
abbrev pub slot_after : Change → ℕ → Option FilledSlot → Option FilledSlot
slot_after (Loaded filled cart) slot old =
    if filled == slot then Some (record { slot = filled; cart = cart }) else old
slot_after (Ejected emptied) slot old = if emptied == slot then None else old
slot_after _ slot old = old

-- ---- volumes

-- the volume of this number is the one that has to go
abbrev pub is_gone : Option VolumeRec → ℕ → Bool
is_gone None volid = false
is_gone (Some gone) volid = gone.volid.0 == volid

-- the volume of this number after a change: a volume that is labelled takes the place of the one
-- that lay on its cartridge
abbrev pub volume_after : Catalogue → Change → ℕ → Option VolumeRec → Option VolumeRec
volume_after before (Labelled new cart pool capacity was) volid old =
    if new.0 == volid then Some (record {
      volid = new;
      cart = cart;
      pool = pool;
      capacity = capacity;
      was = was;
    }) else (if is_gone (volume_on cart.0 before.volumes) volid then None else old)
volume_after before _ volid old = old

-- ---- records

-- the record of a save that has begun: copy 1 is begun
abbrev pub begun_row : SetHead → Record
begun_row head = record {
  ssid = head.ssid;
  client = head.client;
  set = head.set;
  group = head.group;
  pool = head.pool;
  level = head.level;
  base = head.base;
  saved = head.saved;
  browse = head.browse;
  retain = head.retain;
  hold = false;
  state = states.Begun;
  purged = false;
  files = 0;
  bytes = 0;
  digest = replicate 32 0;
  copies = begun_copy (record { 0 = 1 }) ∷ [];
  next_copy = 2;
  changed = 0;
}

-- A record without its done copies on a volume. A complete record that has no done copy then goes.
abbrev pub row_off : ℕ → Record → Option Record
row_off volid row =
    if has_copy_if_complete (without_copies_on volid row)
    then Some (without_copies_on volid row) else None

-- the same, of the volume that has to go, if there is one
abbrev pub row_off_gone : Option VolumeRec → Option Record → Option Record
row_off_gone None old = old
row_off_gone (Some gone) old = option_and_then (row_off gone.volid.0) old

-- the record of a set, edited where it is that of the first one
abbrev pub edited_at : Ssid → (Record → Record) → ℕ → Option Record → Option Record
edited_at edited edit ssid old = if edited.0 == ssid then option_map edit old else old

-- one of these is the set
abbrev pub is_among : List Ssid → ℕ → Bool
is_among ssids ssid = list_any (λ one. one.0 == ssid) ssids

-- a copy is done, and another one is removed; 0 is the number of none
abbrev pub with_copy_ended : CopyNo → List Section → CopyNo → Record → Record
with_copy_ended copy sections removed row =
    with_copy_removed removed (with_done_copy copy sections row)

-- the record of a set after a change, which has this number
abbrev pub row_after : Catalogue → ℕ → Change → ℕ → Option Record → Option Record
row_after before number (Labelled volid cart pool capacity was) ssid old =
    row_off_gone (volume_on cart.0 before.volumes) old
row_after before number (Begun head) ssid old =
    if head.ssid.0 == ssid then Some (begun_row head) else old
row_after before number (Finished set files bytes digest sections index) ssid old =
    edited_at set (finished files bytes digest sections) ssid old
row_after before number (FinishedParts set files bytes digest sections) ssid old =
    edited_at set (finished files bytes digest sections) ssid old
row_after before number (Aborted set) ssid old = edited_at set aborted ssid old
row_after before number (Amended set browse retain hold) ssid old =
    edited_at set (amended browse retain hold number) ssid old
row_after before number (Deleted set) ssid old = if set.0 == ssid then None else old
row_after before number (Purged sets) ssid old =
    if is_among sets ssid then option_map (purged_by number) old else old
row_after before number (CopyBegun set copy) ssid old =
    edited_at set (with_begun_copy copy) ssid old
row_after before number (CopyDone set copy sections removed) ssid old =
    edited_at set (with_copy_ended copy sections removed) ssid old
row_after before number _ ssid old = old

-- ---- indexes

-- a record that goes takes its index along
abbrev pub index_of_row : Option Record → List IndexEntry → List IndexEntry
index_of_row None old = []
index_of_row (Some row) old = old

-- the index of a set after a change, where these are the joined entries of the parts that wait
abbrev pub index_after : Catalogue → List IndexEntry → Change → ℕ → List IndexEntry
    → List IndexEntry
index_after before joined (Labelled volid cart pool capacity was) ssid old =
    index_of_row (row_off_gone (volume_on cart.0 before.volumes) (find_record ssid before.records))
    old
index_after before joined (Finished set files bytes digest sections index) ssid old =
    if set.0 == ssid then index else old
index_after before joined (FinishedParts set files bytes digest sections) ssid old =
    if set.0 == ssid then joined else old
index_after before joined (Deleted set) ssid old = if set.0 == ssid then [] else old
index_after before joined (Purged sets) ssid old = if is_among sets ssid then [] else old
index_after before joined _ ssid old = old

-- ---- catalogues

-- the change makes the second catalogue of the first
pub record Applies (old : Catalogue) (joined : List IndexEntry) (m : Moment) (change : Change)
    (new : Catalogue) : Type 0 where
  pub number : new.number ≡ number_after change old.number
  pub last_moment : new.last_moment ≡ moment_after change m old.last_moment
  pub next_ssid : new.next_ssid ≡ next_ssid_after change old.next_ssid
  pub next_volid : new.next_volid ≡ next_volid_after change old.next_volid
  pub policies : (name : List ℕ) → find_named policy_name name new.policies
      ≡ resource_after kinds.Policy policy_name as_policy change name
      (find_named policy_name name old.policies)
  pub pools : (name : List ℕ) → find_named pool_name name new.pools
      ≡ resource_after kinds.Pool pool_name as_pool change name
      (find_named pool_name name old.pools)
  pub clients : (name : List ℕ) → find_named client_name name new.clients
      ≡ resource_after kinds.Client client_name as_client change name
      (find_named client_name name old.clients)
  pub schedules : (name : List ℕ) → find_named schedule_name name new.schedules
      ≡ resource_after kinds.Schedule schedule_name as_schedule change name
      (find_named schedule_name name old.schedules)
  pub groups : (name : List ℕ) → find_named group_name name new.groups
      ≡ resource_after kinds.Group group_name as_group change name
      (find_named group_name name old.groups)
  pub slots : (slot : ℕ) → find_slot slot new.slots
      ≡ slot_after change slot (find_slot slot old.slots)
  pub volumes : (volid : ℕ) → find_volume volid new.volumes
      ≡ volume_after old change volid (find_volume volid old.volumes)
  pub records : (ssid : ℕ) → find_record ssid new.records
      ≡ row_after old new.number change ssid (find_record ssid old.records)
  pub indexes : (ssid : ℕ) → new.index ssid
      ≡ index_after old joined change ssid (old.index ssid)

-- ---- parts

-- the parts with one more; part 0 begins anew
abbrev pub with_part : Ssid → ℕ → List IndexEntry → Parts → Parts
with_part ssid part index parts = record {
  ssid = ssid.0;
  count = part + 1;
  entries = if part == 0 then index else (parts.entries ++ index);
}

-- the parts that wait after a change: every change but a further part empties them
abbrev pub parts_after : Change → Parts → Parts
parts_after (IndexPart ssid part index) parts = with_part ssid part index parts
parts_after _ parts = no_parts
