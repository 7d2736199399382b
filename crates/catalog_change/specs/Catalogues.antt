-- What a catalogue holds, and which catalogues there are.
use Rattle.std.specs.Prelude.{◌≡◌, ◌≢◌, ◌⊎◌, ℕ, ◌+◌, ◌≤◌, ◌<◌, List, [], ◌∷◌, length, codes}
use Rattle.std.specs.Prelude.{None, IsSome, true}
use Rattle.std.specs.List.{AllByRecursion}
use Rattle.std.specs.Ordering.{nat_cmp}
use Rattle.std.specs.Cmp.Lexicographic.{slice_cmp}
use Rattle.room_base.specs.Numbers.{max_moment}
use Rattle.room_base.specs.Ordered.{Ascends, find_by}
use Rattle.room_rules.specs.declared.group.Group.{Group}
use Rattle.room_rules.specs.declared.group.Member.{Member}
use Rattle.room_rules.specs.declared.policy.Policy.{Policy}
use Rattle.room_rules.specs.declared.pool.Pool.{Pool}
use Rattle.room_rules.specs.declared.schedule.Schedule.{Schedule}
use Rattle.save_stream.specs.declared.entry.IndexEntry.{IndexEntry}
use Rattle.save_stream.specs.Spelling.{IsHead, head_text}
use Rattle.media_db.specs.Edits.{begun_copy, copy_no, has_done}
use Rattle.media_db.specs.Rows.{AreVolumes, find_record, ssid_of}
use Rattle.media_db.specs.Streams.{head_of}
use Rattle.media_db.specs.declared.copies.CopyState.{CopyState}
use Rattle.media_db.specs.declared.copies.CopyState.TheVariants as copies
use Rattle.media_db.specs.declared.copies.SetCopy.{SetCopy}
use Rattle.media_db.specs.declared.records.Record.{Record}
use Rattle.media_db.specs.declared.records.RecordState.{RecordState}
use Rattle.media_db.specs.declared.records.RecordState.TheVariants as states
use Rattle.media_db.specs.declared.volumes.VolumeRec.{VolumeRec}
use Rattle.catalog_change.specs.declared.resource.Client.{Client}
use Rattle.catalog_change.specs.declared.slot.FilledSlot.{FilledSlot}
use Rattle.catalog_change.specs.Changes.{AreEntries, AreSections, IsCapacity, IsCart, IsCount}
use Rattle.catalog_change.specs.Resources.{
  IsClient,
  IsGroup,
  IsPolicy,
  IsPool,
  IsSchedule,
  IsShortName,
  client_name,
  group_name,
  policy_name,
  pool_name,
  schedule_name,
}

-- what a catalogue holds: a set without an index is as one with an index that has no entries
pub record Catalogue : Type 0 where
  -- the number of the last change, and its moment
  pub number : ℕ
  pub last_moment : ℕ
  -- the numbers that the next save set and the next volume get
  pub next_ssid : ℕ
  pub next_volid : ℕ
  pub policies : List Policy
  pub pools : List Pool
  pub clients : List Client
  pub schedules : List Schedule
  pub groups : List Group
  pub slots : List FilledSlot
  pub volumes : List VolumeRec
  pub records : List Record
  pub index : ℕ → List IndexEntry

-- the greatest number of a catalogue, of its next save set and of its next volume
abbrev pub max_number : ℕ
max_number = 9223372036854775807

-- ---- resources

-- resources of one kind in the order of their names, each allowed
pub record AreNamed {X : Type 0} (name : X → List ℕ) (Is : X → Type 0) (items : List X)
    : Type 0 where
  pub each : AllByRecursion Is items
  pub order : Ascends (slice_cmp nat_cmp) name items

-- one of these has the name
abbrev pub Names : {X : Type 0} → (X → List ℕ) → List X → List ℕ → Type 0
Names name items wanted = IsSome (find_by (slice_cmp nat_cmp) name wanted items)

-- a client's policies are there
abbrev pub HasPolicies : List Policy → Client → Type 0
HasPolicies policies client =
    Names policy_name policies client.browse × Names policy_name policies client.retention

-- a member's client is there
abbrev pub HasClient : List Client → Member → Type 0
HasClient clients member = Names client_name clients member.client

-- a group's schedule is there, and the clients of its members are
abbrev pub HasSchedule : List Schedule → List Client → Group → Type 0
HasSchedule schedules clients group =
    Names schedule_name schedules group.schedule × AllByRecursion (HasClient clients) group.members

abbrev pub resource_count : Catalogue → ℕ
resource_count catalogue =
    length catalogue.policies + length catalogue.pools + length catalogue.clients
    + length catalogue.schedules + length catalogue.groups

pub record HasResources (catalogue : Catalogue) : Type 0 where
  pub policies : AreNamed policy_name IsPolicy catalogue.policies
  pub pools : AreNamed pool_name IsPool catalogue.pools
  pub clients : AreNamed client_name IsClient catalogue.clients
  pub schedules : AreNamed schedule_name IsSchedule catalogue.schedules
  pub groups : AreNamed group_name IsGroup catalogue.groups
  pub count : IsCount (resource_count catalogue)
  pub kept : AllByRecursion (HasPolicies catalogue.policies) catalogue.clients
  pub scheduled : AllByRecursion (HasSchedule catalogue.schedules catalogue.clients)
      catalogue.groups
  -- pool `Default` and client `room` are always there
  pub default : Names pool_name catalogue.pools (codes "Default")
  pub room : Names client_name catalogue.clients (codes "room")

-- ---- slots and volumes

abbrev pub slot_number : FilledSlot → ℕ
slot_number filled = filled.slot

abbrev pub slot_cart : FilledSlot → ℕ
slot_cart filled = filled.cart.0

abbrev pub volume_cart : VolumeRec → ℕ
volume_cart volume = volume.cart.0

-- the items have different keys
abbrev pub AreApart : {X : Type 0} → (X → ℕ) → List X → Type 0
AreApart key [] = Unit {0}
AreApart key (x ∷ xs) = AllByRecursion (λ other. key other ≢ key x) xs × AreApart key xs

pub record IsFilled (filled : FilledSlot) : Type 0 where
  pub slot : (1 ≤ filled.slot) × (filled.slot ≤ 32)
  pub cart : IsCart filled.cart

-- the slots ascend, and no two hold one cartridge
pub record AreSlots (slots : List FilledSlot) : Type 0 where
  pub each : AllByRecursion IsFilled slots
  pub order : Ascends nat_cmp slot_number slots
  pub carts : AreApart slot_cart slots

-- below a next number, unless that is the greatest one
abbrev pub IsDrawn : ℕ → ℕ → ℕ → Type 0
IsDrawn greatest next number = (number < next) ⊎ (next ≡ greatest)

pub record IsVolume (next_volid : ℕ) (volume : VolumeRec) : Type 0 where
  pub volid : 1 ≤ volume.volid.0
  pub drawn : IsDrawn max_number next_volid volume.volid.0
  pub cart : IsCart volume.cart
  pub pool : IsShortName volume.pool
  pub capacity : IsCapacity volume.capacity

-- the volumes ascend, and no two are on one cartridge
pub record HasVolumes (next_volid : ℕ) (volumes : List VolumeRec) : Type 0 where
  pub each : AllByRecursion (IsVolume next_volid) volumes
  pub order : AreVolumes volumes
  pub carts : AreApart volume_cart volumes
  pub count : IsCount (length volumes)

-- ---- records

-- the greatest next copy of a record
abbrev pub max_copy : ℕ
max_copy = 4294967295

-- a copy that is begun has no sections, one that is done has those of a whole stream
abbrev pub HasSections : CopyState → SetCopy → Type 0
HasSections copies.Begun copy = copy.sections ≡ []
HasSections copies.Done copy = AreSections copy.sections

pub record IsCopy (next_copy : ℕ) (copy : SetCopy) : Type 0 where
  pub number : 1 ≤ copy.no.0
  pub drawn : IsDrawn max_copy next_copy copy.no.0
  pub sections : HasSections copy.state copy

-- the copies of a record that is begun, complete or aborted
abbrev pub FitState : RecordState → List SetCopy → Type 0
FitState states.Begun list = list ≡ begun_copy (record { 0 = 1 }) ∷ []
FitState states.Complete list = has_done list ≡ true
FitState states.Aborted list = Unit {0}

-- a complete set is longer than the head of its stream
abbrev pub IsLonger : RecordState → Record → Type 0
IsLonger states.Begun row = Unit {0}
IsLonger states.Complete row = length (head_text (head_of row)) < row.bytes
IsLonger states.Aborted row = Unit {0}

pub record IsRecord (next_ssid : ℕ) (row : Record) : Type 0 where
  pub head : IsHead (head_of row)
  pub drawn : IsDrawn max_number next_ssid row.ssid.0
  pub bytes : IsLonger row.state row
  pub digest : length row.digest ≡ 32
  pub each : AllByRecursion (IsCopy row.next_copy) row.copies
  pub order : Ascends nat_cmp copy_no row.copies
  pub count : length row.copies ≤ 255
  pub state : FitState row.state row.copies

pub record HasRecords (next_ssid : ℕ) (records : List Record) : Type 0 where
  pub each : AllByRecursion (IsRecord next_ssid) records
  pub order : Ascends nat_cmp ssid_of records
  pub count : IsCount (length records)

-- each index is allowed, and only sets on record have one
abbrev pub HasIndexes : List Record → (ℕ → List IndexEntry) → Type 0
HasIndexes records index = (ssid : ℕ) → AreEntries (index ssid)
    × (find_record ssid records ≡ None → index ssid ≡ [])

-- ---- catalogues

-- a next number is at least 1
abbrev pub IsNext : ℕ → Type 0
IsNext next = (1 ≤ next) × (next ≤ max_number)

-- The catalogues that there are, and that a snapshot can hold.
pub record IsCatalogue (catalogue : Catalogue) : Type 0 where
  pub number : catalogue.number ≤ max_number
  pub last_moment : catalogue.last_moment ≤ max_moment
  pub next_ssid : IsNext catalogue.next_ssid
  pub next_volid : IsNext catalogue.next_volid
  pub resources : HasResources catalogue
  pub slots : AreSlots catalogue.slots
  pub volumes : HasVolumes catalogue.next_volid catalogue.volumes
  pub records : HasRecords catalogue.next_ssid catalogue.records
  pub indexes : HasIndexes catalogue.records catalogue.index
