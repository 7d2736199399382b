-- Catalogues in which the same is found.
use Rattle.std.specs.Prelude.{◌≡◌, ℕ, List}
use Rattle.media_db.specs.Rows.{find_record, find_volume}
use Rattle.catalog_change.specs.Catalogues.{Catalogue}
use Rattle.catalog_change.specs.Resources.{
  client_name,
  group_name,
  policy_name,
  pool_name,
  schedule_name,
}
use Rattle.room_catalog.specs.Fits.{find_slot}
use Rattle.resource_lists.specs.Kinds.{find_named}

-- the same is found at each name and number
pub record FindAlike (one other : Catalogue) : Type 0 where
  pub policies : (name : List ℕ) → find_named policy_name name one.policies
      ≡ find_named policy_name name other.policies
  pub pools : (name : List ℕ) → find_named pool_name name one.pools
      ≡ find_named pool_name name other.pools
  pub clients : (name : List ℕ) → find_named client_name name one.clients
      ≡ find_named client_name name other.clients
  pub schedules : (name : List ℕ) → find_named schedule_name name one.schedules
      ≡ find_named schedule_name name other.schedules
  pub groups : (name : List ℕ) → find_named group_name name one.groups
      ≡ find_named group_name name other.groups
  pub slots : (slot : ℕ) → find_slot slot one.slots ≡ find_slot slot other.slots
  pub volumes : (volid : ℕ) → find_volume volid one.volumes ≡ find_volume volid other.volumes
  pub records : (ssid : ℕ) → find_record ssid one.records ≡ find_record ssid other.records

pub record HaveSameLists (one other : Catalogue) : Type 0 where
  pub policies : one.policies ≡ other.policies
  pub pools : one.pools ≡ other.pools
  pub clients : one.clients ≡ other.clients
  pub schedules : one.schedules ≡ other.schedules
  pub groups : one.groups ≡ other.groups
  pub slots : one.slots ≡ other.slots
  pub volumes : one.volumes ≡ other.volumes
  pub records : one.records ≡ other.records
