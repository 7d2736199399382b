-- What a change makes of a catalogue, look-up by look-up.
use Rattle.std.proofs.Common.{◌≡◌, ◌∙◌, ℕ, ◌+◌, List, [], None, ◌≤◌, refl, sym, ap, subst, arith}
use Rattle.std.specs.Prelude.{filter_map}
use Rattle.std.specs.Cmp.Lexicographic.{nat_list_cmp_total}
use Rattle.std.specs.Ordering.{nat_cmp}
use Rattle.room_base.specs.declared.numbers.Moment.{Moment}
use Rattle.room_base.specs.declared.numbers.Ssid.{Ssid}
use Rattle.room_base.specs.Ordered.{Ascends}
use Rattle.room_base.proofs.OrderedLaws.{found_removed}
use Rattle.save_stream.specs.declared.entry.IndexEntry.{IndexEntry}
use Rattle.media_db.specs.declared.copies.Section.{Section}
use Rattle.media_db.specs.Edits.{aborted, amended, finished, with_begun_copy, with_copy_removed, with_done_copy}
use Rattle.media_db.specs.Rows.{find_record, ssid_of, volume_on}
use Rattle.catalog_change.specs.declared.change.Change.{Change}
use Rattle.catalog_change.specs.declared.change.Change.TheVariants.{Defined, Dropped, Loaded, Ejected, Labelled, Begun, Finished, Aborted, Amended, Deleted, Purged, CopyBegun, CopyDone, IndexPart, FinishedParts}
use Rattle.catalog_change.specs.declared.resource.ResourceKind.TheVariants as kinds
use Rattle.catalog_change.specs.Catalogues.{Catalogue, IsCatalogue}
use Rattle.catalog_change.specs.Resources.{client_name, group_name, policy_name, pool_name, schedule_name}
use Rattle.room_catalog.specs.Applying.{Applies, begun_row, parts_after}
use Rattle.room_catalog.specs.Changing.{changed}
use Rattle.room_catalog.specs.Fits.{FitsByKind}
use Rattle.room_catalog.specs.Held.{CatalogueLists, CatalogueRoom, Parts, catalogue_of, index_in, no_parts}
use Rattle.resource_lists.specs.Kinds.{as_client, as_group, as_policy, as_pool, as_schedule}
use Rattle.room_catalog.specs.Ready.{TakesRoom, entries_left}
use Rattle.room_catalog.proofs.Found.{found_each, found_edited, found_edited_twice, found_emptied, found_filled, found_laid, found_off, found_purged, found_row, found_without, index_forgotten, index_off, index_purged, index_put}
use Rattle.room_catalog.proofs.Kinded.{apart_of, client_says, group_says, policy_says, pool_says, schedule_says}

-- parts are treated elsewhere
abbrev pub IsNoPart : Change → Type 0
IsNoPart (IndexPart ssid part index) = ⊥
IsNoPart (FinishedParts ssid files bytes digest sections) = ⊥
IsNoPart _ = Unit {0}

pub applied : (number : ℕ) (m : Moment) (was : CatalogueLists) (joined : List IndexEntry) (change : Change) → IsNoPart change → number ≡ was.number + 1 → FitsByKind (catalogue_of was) change
    → Ascends nat_cmp ssid_of was.records → ((ssid : ℕ) → find_record ssid was.records ≡ None → index_in was.sets ssid ≡ [])
    → Applies (catalogue_of was) joined m change (catalogue_of (changed number m change was))
applied number m was joined (Defined new) whole is fits ascend none = record {
  number = is;
  last_moment = refl;
  next_ssid = refl;
  next_volid = refl;
  policies = λ name. found_each policy_name (filter_map as_policy new) was.resources.policies name (apart_of kinds.Policy as_policy policy_name policy_says new fits.distinct);
  pools = λ name. found_each pool_name (filter_map as_pool new) was.resources.pools name (apart_of kinds.Pool as_pool pool_name pool_says new fits.distinct);
  clients = λ name. found_each client_name (filter_map as_client new) was.resources.clients name (apart_of kinds.Client as_client client_name client_says new fits.distinct);
  schedules = λ name. found_each schedule_name (filter_map as_schedule new) was.resources.schedules name (apart_of kinds.Schedule as_schedule schedule_name schedule_says new fits.distinct);
  groups = λ name. found_each group_name (filter_map as_group new) was.resources.groups name (apart_of kinds.Group as_group group_name group_says new fits.distinct);
  slots = λ slot. refl;
  volumes = λ volid. refl;
  records = λ ssid. refl;
  indexes = λ ssid. refl;
}
applied number m was joined (Dropped kinds.Policy gone) whole is fits ascend none = record {
  number = is;
  last_moment = refl;
  next_ssid = refl;
  next_volid = refl;
  policies = λ name. found_removed nat_list_cmp_total policy_name gone name was.resources.policies;
  pools = λ name. refl;
  clients = λ name. refl;
  schedules = λ name. refl;
  groups = λ name. refl;
  slots = λ slot. refl;
  volumes = λ volid. refl;
  records = λ ssid. refl;
  indexes = λ ssid. refl;
}
applied number m was joined (Dropped kinds.Pool gone) whole is fits ascend none = record {
  number = is;
  last_moment = refl;
  next_ssid = refl;
  next_volid = refl;
  policies = λ name. refl;
  pools = λ name. found_removed nat_list_cmp_total pool_name gone name was.resources.pools;
  clients = λ name. refl;
  schedules = λ name. refl;
  groups = λ name. refl;
  slots = λ slot. refl;
  volumes = λ volid. refl;
  records = λ ssid. refl;
  indexes = λ ssid. refl;
}
applied number m was joined (Dropped kinds.Client gone) whole is fits ascend none = record {
  number = is;
  last_moment = refl;
  next_ssid = refl;
  next_volid = refl;
  policies = λ name. refl;
  pools = λ name. refl;
  clients = λ name. found_removed nat_list_cmp_total client_name gone name was.resources.clients;
  schedules = λ name. refl;
  groups = λ name. refl;
  slots = λ slot. refl;
  volumes = λ volid. refl;
  records = λ ssid. refl;
  indexes = λ ssid. refl;
}
applied number m was joined (Dropped kinds.Schedule gone) whole is fits ascend none = record {
  number = is;
  last_moment = refl;
  next_ssid = refl;
  next_volid = refl;
  policies = λ name. refl;
  pools = λ name. refl;
  clients = λ name. refl;
  schedules = λ name. found_removed nat_list_cmp_total schedule_name gone name was.resources.schedules;
  groups = λ name. refl;
  slots = λ slot. refl;
  volumes = λ volid. refl;
  records = λ ssid. refl;
  indexes = λ ssid. refl;
}
applied number m was joined (Dropped kinds.Group gone) whole is fits ascend none = record {
  number = is;
  last_moment = refl;
  next_ssid = refl;
  next_volid = refl;
  policies = λ name. refl;
  pools = λ name. refl;
  clients = λ name. refl;
  schedules = λ name. refl;
  groups = λ name. found_removed nat_list_cmp_total group_name gone name was.resources.groups;
  slots = λ slot. refl;
  volumes = λ volid. refl;
  records = λ ssid. refl;
  indexes = λ ssid. refl;
}
applied number m was joined (Loaded filled cart) whole is fits ascend none = record {
  number = is;
  last_moment = refl;
  next_ssid = refl;
  next_volid = refl;
  policies = λ name. refl;
  pools = λ name. refl;
  clients = λ name. refl;
  schedules = λ name. refl;
  groups = λ name. refl;
  slots = λ slot. found_filled (record { slot = filled; cart = cart }) slot was.slots;
  volumes = λ volid. refl;
  records = λ ssid. refl;
  indexes = λ ssid. refl;
}
applied number m was joined (Ejected emptied) whole is fits ascend none = record {
  number = is;
  last_moment = refl;
  next_ssid = refl;
  next_volid = refl;
  policies = λ name. refl;
  pools = λ name. refl;
  clients = λ name. refl;
  schedules = λ name. refl;
  groups = λ name. refl;
  slots = λ slot. found_emptied emptied slot was.slots;
  volumes = λ volid. refl;
  records = λ ssid. refl;
  indexes = λ ssid. refl;
}
applied number m was joined (Labelled volid cart pool capacity before) whole is fits ascend none = record {
  number = is;
  last_moment = refl;
  next_ssid = refl;
  next_volid = refl;
  policies = λ name. refl;
  pools = λ name. refl;
  clients = λ name. refl;
  schedules = λ name. refl;
  groups = λ name. refl;
  slots = λ slot. refl;
  volumes = λ other. found_laid (record { volid = volid; cart = cart; pool = pool; capacity = capacity; was = before }) (volume_on cart.0 was.volumes) other was.volumes;
  records = λ ssid. found_off (volume_on cart.0 was.volumes) ssid was.records ascend;
  indexes = λ ssid. index_off (volume_on cart.0 was.volumes) was.records was.sets ssid ascend (none ssid);
}
applied number m was joined (Begun head) whole is fits ascend none = record {
  number = is;
  last_moment = refl;
  next_ssid = refl;
  next_volid = refl;
  policies = λ name. refl;
  pools = λ name. refl;
  clients = λ name. refl;
  schedules = λ name. refl;
  groups = λ name. refl;
  slots = λ slot. refl;
  volumes = λ volid. refl;
  records = λ ssid. found_row (begun_row head) ssid was.records;
  indexes = λ ssid. refl;
}
applied number m was joined (Finished set files bytes digest sections index) whole is fits ascend none = record {
  number = is;
  last_moment = refl;
  next_ssid = refl;
  next_volid = refl;
  policies = λ name. refl;
  pools = λ name. refl;
  clients = λ name. refl;
  schedules = λ name. refl;
  groups = λ name. refl;
  slots = λ slot. refl;
  volumes = λ volid. refl;
  records = λ ssid. found_edited set (finished files bytes digest sections) (λ row. refl) ssid was.records;
  indexes = λ ssid. index_put was.sets (record { ssid = set; entries = index }) ssid;
}
applied number m was joined (Aborted set) whole is fits ascend none = record {
  number = is;
  last_moment = refl;
  next_ssid = refl;
  next_volid = refl;
  policies = λ name. refl;
  pools = λ name. refl;
  clients = λ name. refl;
  schedules = λ name. refl;
  groups = λ name. refl;
  slots = λ slot. refl;
  volumes = λ volid. refl;
  records = λ ssid. found_edited set aborted (λ row. refl) ssid was.records;
  indexes = λ ssid. refl;
}
applied number m was joined (Amended set browse retain hold) whole is fits ascend none = record {
  number = is;
  last_moment = refl;
  next_ssid = refl;
  next_volid = refl;
  policies = λ name. refl;
  pools = λ name. refl;
  clients = λ name. refl;
  schedules = λ name. refl;
  groups = λ name. refl;
  slots = λ slot. refl;
  volumes = λ volid. refl;
  records = λ ssid. found_edited set (amended browse retain hold number) (λ row. refl) ssid was.records;
  indexes = λ ssid. refl;
}
applied number m was joined (Deleted set) whole is fits ascend none = record {
  number = is;
  last_moment = refl;
  next_ssid = refl;
  next_volid = refl;
  policies = λ name. refl;
  pools = λ name. refl;
  clients = λ name. refl;
  schedules = λ name. refl;
  groups = λ name. refl;
  slots = λ slot. refl;
  volumes = λ volid. refl;
  records = λ ssid. found_without set.0 ssid was.records;
  indexes = λ ssid. index_forgotten was.sets set ssid;
}
applied number m was joined (Purged sets) whole is fits ascend none = record {
  number = is;
  last_moment = refl;
  next_ssid = refl;
  next_volid = refl;
  policies = λ name. refl;
  pools = λ name. refl;
  clients = λ name. refl;
  schedules = λ name. refl;
  groups = λ name. refl;
  slots = λ slot. refl;
  volumes = λ volid. refl;
  records = λ ssid. found_purged number sets ssid was.records;
  indexes = λ ssid. index_purged sets was.sets ssid;
}
applied number m was joined (CopyBegun set copy) whole is fits ascend none = record {
  number = is;
  last_moment = refl;
  next_ssid = refl;
  next_volid = refl;
  policies = λ name. refl;
  pools = λ name. refl;
  clients = λ name. refl;
  schedules = λ name. refl;
  groups = λ name. refl;
  slots = λ slot. refl;
  volumes = λ volid. refl;
  records = λ ssid. found_edited set (with_begun_copy copy) (λ row. refl) ssid was.records;
  indexes = λ ssid. refl;
}
applied number m was joined (CopyDone set copy sections removed) whole is fits ascend none = record {
  number = is;
  last_moment = refl;
  next_ssid = refl;
  next_volid = refl;
  policies = λ name. refl;
  pools = λ name. refl;
  clients = λ name. refl;
  schedules = λ name. refl;
  groups = λ name. refl;
  slots = λ slot. refl;
  volumes = λ volid. refl;
  records = λ ssid. found_edited_twice set (with_done_copy copy sections) (with_copy_removed removed) (λ row. refl) (λ row. refl) ssid was.records;
  indexes = λ ssid. refl;
}
applied number m was joined (IndexPart set part index) whole is fits ascend none = absurd whole
applied number m was joined (FinishedParts set files bytes digest sections) whole is fits ascend none = absurd whole

-- parts that are closed make a set complete with their entries
as_finished : (old new : Catalogue) (m : Moment) (joined : List IndexEntry) (ssid : Ssid) (files bytes : ℕ) (digest : List ℕ) (sections : List Section)
    → Applies old joined m (Finished ssid files bytes digest sections joined) new → Applies old joined m (FinishedParts ssid files bytes digest sections) new
as_finished old new m joined ssid files bytes digest sections is = record {
  number = is.number;
  last_moment = is.last_moment;
  next_ssid = is.next_ssid;
  next_volid = is.next_volid;
  policies = is.policies;
  pools = is.pools;
  clients = is.clients;
  schedules = is.schedules;
  groups = is.groups;
  slots = is.slots;
  volumes = is.volumes;
  records = is.records;
  indexes = is.indexes;
}

module _ (number : ℕ) (m : Moment) (old : CatalogueLists) (parts : Parts) (catalogue : IsCatalogue (catalogue_of old)) (next : number ≡ old.number + 1) where
  -- a change that is no part, whatever becomes of the parts that wait
  pub applied_to : (now : CatalogueLists) (change : Change) → IsNoPart change → FitsByKind (catalogue_of old) change → now ≡ changed number m change (record old { parts = parts })
      → Applies (catalogue_of old) old.parts.entries m change (catalogue_of now)
  applied_to now change whole fits made =
      subst (λ (after : CatalogueLists). Applies (catalogue_of old) old.parts.entries m change (catalogue_of after)) (sym made)
      (applied number m (record old { parts = parts }) old.parts.entries change whole next fits catalogue.records.order (λ ssid. (catalogue.indexes ssid).1))

  -- parts that are closed
  pub closed_to : (now : CatalogueLists) (change : Change) (ssid : Ssid) (files bytes : ℕ) (digest : List ℕ) (sections : List Section) (index : List IndexEntry) → change ≡ FinishedParts ssid files bytes digest sections → index ≡ old.parts.entries
      → FitsByKind (catalogue_of old) change → now ≡ changed number m (Finished ssid files bytes digest sections index) (record old { parts = parts })
      → Applies (catalogue_of old) old.parts.entries m change (catalogue_of now)
  closed_to now change ssid files bytes digest sections index is joined fits made =
      let closes = subst (FitsByKind (catalogue_of old)) is fits in
      let made_so = made ∙ ap (λ (entries : List IndexEntry). changed number m (Finished ssid files bytes digest sections entries) (record old { parts = parts })) joined in
      subst (λ (one : Change). Applies (catalogue_of old) old.parts.entries m one (catalogue_of now)) (sym is)
      (as_finished (catalogue_of old) (catalogue_of now) m old.parts.entries ssid files bytes digest sections
      (applied_to now (Finished ssid files bytes digest sections old.parts.entries) tt closes made_so))

-- a change that is no part leaves no parts
pub no_parts_after : (change : Change) (parts : Parts) → IsNoPart change → no_parts ≡ parts_after change parts
no_parts_after (IndexPart ssid part index) parts whole = absurd whole
no_parts_after _ parts whole = refl

-- a change of the lists leaves the parts
pub parts_stay : (number : ℕ) (m : Moment) (change : Change) (lists : CatalogueLists) → (changed number m change lists).parts ≡ lists.parts
parts_stay number m (Dropped kinds.Policy name) lists = refl
parts_stay number m (Dropped kinds.Pool name) lists = refl
parts_stay number m (Dropped kinds.Client name) lists = refl
parts_stay number m (Dropped kinds.Schedule name) lists = refl
parts_stay number m (Dropped kinds.Group name) lists = refl
parts_stay number m _ lists = refl

-- a change of another kind than parts
pub is_no_part : (change : Change) → ((ssid : Ssid) (part : ℕ) (index : List IndexEntry) → ¬ (change ≡ IndexPart ssid part index))
    → ((ssid : Ssid) (files bytes : ℕ) (digest : List ℕ) (sections : List Section) → ¬ (change ≡ FinishedParts ssid files bytes digest sections)) → IsNoPart change
is_no_part (IndexPart ssid n index) part closes = part ssid n index refl
is_no_part (FinishedParts ssid files bytes digest sections) part closes = closes ssid files bytes digest sections refl
is_no_part _ part closes = tt

-- more room for entries leaves no less
entries_left_grows : (change : Change) (less more : ℕ) → less ≤ more → entries_left change less ≤ entries_left change more
entries_left_grows (FinishedParts ssid files bytes digest sections) less more grows = omega arith
entries_left_grows _ less more grows = grows

-- the room for entries had grown before
pub takes_from_more : (change : Change) (before after : CatalogueRoom) (more : ℕ) → before.entries ≤ more → TakesRoom change (record before { entries = more }) after → TakesRoom change before after
takes_from_more change before after more grows takes = record {
  resources = takes.resources;
  slots = takes.slots;
  volumes = takes.volumes;
  records = takes.records;
  indexes = takes.indexes;
  entries = let less = entries_left_grows change before.entries more grows in omega (arith, takes.entries);
  copies = takes.copies;
}
