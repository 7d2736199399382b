-- What is read of bytes: a snapshot and nothing else, or the place of the first field that isn't
-- allowed.
use Rattle.std.specs.Prelude.{◌≡◌, ◌⊎◌, ℕ, ◌-◌, ◌<◌, Bool, List, [], map, length, Result, Ok, Err}
use Rattle.catalog_spelling.specs.declared.fault.DecodeFault.{DecodeFault}
use Rattle.catalog_spelling.specs.declared.fault.DecodeFault.TheVariants as faults
use Rattle.catalog_spelling.specs.declared.snapshot_fields.SnapshotFields.{SnapshotFields}
use Rattle.catalog_spelling.specs.declared.parts.Snapshot.{Snapshot}
use Rattle.catalog_spelling.specs.Storing.{set_of}
use Rattle.catalog_spelling.specs.Snapshots.{snapshot_at}

-- a snapshot has what these fields say
pub record AreMade (fields : SnapshotFields) (snapshot : Snapshot) : Type 0 where
  pub number : snapshot.number ≡ fields.number
  pub last_moment : snapshot.last_moment ≡ fields.last_moment
  pub next_ssid : snapshot.next_ssid ≡ fields.next_ssid
  pub next_volid : snapshot.next_volid ≡ fields.next_volid
  pub policies : snapshot.policies.items ≡ fields.lists.policies
  pub pools : snapshot.pools.items ≡ fields.lists.pools
  pub clients : snapshot.clients.items ≡ fields.lists.clients
  pub schedules : snapshot.schedules.items ≡ fields.lists.schedules
  pub groups : snapshot.groups.items ≡ fields.lists.groups
  pub slots : snapshot.slots.items ≡ fields.slots
  pub volumes : snapshot.db.volumes ≡ fields.volumes
  pub records : snapshot.db.records ≡ map (λ listed. listed.row) fields.records
  pub index : snapshot.index.sets ≡ map set_of fields.records

-- the bytes are read to their end as fields that a snapshot has
pub record IsReadTo (indexed : Bool) (bytes : List ℕ) (snapshot : Snapshot) : Type 0 where
  pub fields : SnapshotFields
  pub read : snapshot_at indexed bytes ≡ Ok (fields, [])
  pub made : AreMade fields snapshot

-- Reading stops so many bytes before the end: at the first field that isn't allowed, or that the
-- bytes end in, or at the first byte behind the last field.
abbrev pub StopsBefore : Bool → List ℕ → ℕ → Type 0
StopsBefore indexed bytes behind =
    (snapshot_at indexed bytes ≡ Err behind)
    ⊎ ((fields : SnapshotFields) × ((rest : List ℕ) × ((snapshot_at indexed bytes ≡ Ok (fields, rest))
    × (behind ≡ length rest) × (0 < length rest))))

-- reading stops at this place
pub record StopsAtPlace (indexed : Bool) (bytes : List ℕ) (place : ℕ) : Type 0 where
  pub behind : ℕ
  pub stops : StopsBefore indexed bytes behind
  pub place_is : place ≡ length bytes - behind

-- what reading answers
abbrev pub Decodes : Bool → List ℕ → Result Snapshot DecodeFault → Type 0
Decodes indexed bytes (Ok snapshot) = IsReadTo indexed bytes snapshot
Decodes indexed bytes (Err (faults.Bad place)) = StopsAtPlace indexed bytes place
Decodes indexed bytes (Err faults.Memory) = Unit {0}
