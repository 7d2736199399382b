-- What the catalogue of a running room holds.
use Rattle.std.specs.Prelude.{ℕ, List, []}
use Rattle.save_stream.specs.declared.entry.IndexEntry.{IndexEntry}
use Rattle.media_db.specs.declared.records.Record.{Record}
use Rattle.media_db.specs.declared.volumes.VolumeRec.{VolumeRec}
use Rattle.client_index.specs.declared.index.SetIndex.{SetIndex}
use Rattle.client_index.specs.Sets.{entries_or_none}
use Rattle.catalog_change.specs.declared.slot.FilledSlot.{FilledSlot}
use Rattle.catalog_change.specs.Catalogues.{Catalogue}
use Rattle.resource_lists.specs.Lists.{ResourceLists, ResourceRoom, opening_resources}

-- the parts of an index that wait for the change that closes them: their set, how many there are,
-- and their entries joined
pub record Parts : Type 0 where
  pub ssid : ℕ
  pub count : ℕ
  pub entries : List IndexEntry

-- the parts in memory, and how many entries fit without taking more
pub record HeldParts : Type 0 where
  pub parts : Parts
  pub capacity : ℕ

abbrev pub no_parts : Parts
no_parts = record { ssid = 0; count = 0; entries = [] }

-- everything that a catalogue holds, as lists
pub record CatalogueLists : Type 0 where
  pub number : ℕ
  pub last_moment : ℕ
  pub next_ssid : ℕ
  pub next_volid : ℕ
  pub resources : ResourceLists
  pub slots : List FilledSlot
  pub volumes : List VolumeRec
  pub records : List Record
  pub sets : List SetIndex
  pub parts : Parts

-- What fits without taking memory: so many more of each, so many entries of parts in all, and so
-- many copies in the list that a record gets next.
pub record CatalogueRoom : Type 0 where
  pub resources : ResourceRoom
  pub slots : ℕ
  pub volumes : ℕ
  pub records : ℕ
  pub indexes : ℕ
  pub entries : ℕ
  pub copies : ℕ

-- the filled slots in memory
pub record HeldSlots : Type 0 where
  pub slots : List FilledSlot
  pub room : ℕ

-- a catalogue in memory
pub record HeldCatalogue : Type 0 where
  pub lists : CatalogueLists
  pub room : CatalogueRoom

-- the index of a set, none being as one without entries
abbrev pub index_in : List SetIndex → ℕ → List IndexEntry
index_in sets ssid = entries_or_none sets (record { 0 = ssid })

-- the catalogue that these lists are
abbrev pub catalogue_of : CatalogueLists → Catalogue
catalogue_of lists = record {
  number = lists.number;
  last_moment = lists.last_moment;
  next_ssid = lists.next_ssid;
  next_volid = lists.next_volid;
  policies = lists.resources.policies;
  pools = lists.resources.pools;
  clients = lists.resources.clients;
  schedules = lists.resources.schedules;
  groups = lists.resources.groups;
  slots = lists.slots;
  volumes = lists.volumes;
  records = lists.records;
  index = index_in lists.sets;
}

abbrev pub resources_of : Catalogue → ResourceLists
resources_of catalogue = record {
  policies = catalogue.policies;
  pools = catalogue.pools;
  clients = catalogue.clients;
  schedules = catalogue.schedules;
  groups = catalogue.groups;
}

-- ---- the catalogue of a room that has just been made

abbrev pub opening_catalogue : Catalogue
opening_catalogue = record {
  number = 0;
  last_moment = 0;
  next_ssid = 1;
  next_volid = 1;
  policies = opening_resources.policies;
  pools = opening_resources.pools;
  clients = opening_resources.clients;
  schedules = opening_resources.schedules;
  groups = opening_resources.groups;
  slots = [];
  volumes = [];
  records = [];
  index = λ ssid. [];
}
