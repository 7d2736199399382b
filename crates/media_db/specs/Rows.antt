-- The lists of the database: records by their ssid, and volumes by their volid.
use Rattle.std.specs.Prelude.{◌≡◌, ℕ, ◌<◌, ◌≤◌, ◌==◌, List, Option, Some, None}
use Rattle.std.specs.List.{AllByRecursion, find}
use Rattle.std.specs.Ordering.{nat_cmp}
use Rattle.room_base.specs.Ordered.{Ascends, find_by, put_by, remove_by, update_by}
use Rattle.media_db.specs.declared.records.Record.{Record}
use Rattle.media_db.specs.declared.volumes.VolumeRec.{VolumeRec}

-- What a database has, and how many more records and volumes it can hold without taking memory.
pub record Database : Type 0 where
  pub records : List Record
  pub volumes : List VolumeRec
  pub record_room : ℕ
  pub volume_room : ℕ

-- ---- records

abbrev pub ssid_of : Record → ℕ
ssid_of row = row.ssid.0

abbrev pub find_record : ℕ → List Record → Option Record
find_record = find_by nat_cmp ssid_of

abbrev pub put_row : Record → List Record → List Record
put_row = put_by nat_cmp ssid_of

abbrev pub remove_row : ℕ → List Record → List Record
remove_row = remove_by nat_cmp ssid_of

-- the records with a change of the one that has the ssid
abbrev pub update_row : ℕ → (Record → Record) → List Record → List Record
update_row = update_by nat_cmp ssid_of

-- a database with a change of the record that has the ssid
abbrev pub with_edit : ℕ → (Record → Record) → Database → Database
with_edit ssid change db = record db { records = update_row ssid change db.records }

-- a base has the lesser ssid, so that bases lead downwards
abbrev pub HasLowerBase : Record → Type 0
HasLowerBase row = row.base.0 < row.ssid.0

-- the ssids ascend strictly, and bases lead downwards
pub record AreRecords (rows : List Record) : Type 0 where
  pub ascending : Ascends nat_cmp ssid_of rows
  pub bases : AllByRecursion HasLowerBase rows

-- ---- volumes

abbrev pub volid_of : VolumeRec → ℕ
volid_of volume = volume.volid.0

abbrev pub find_volume : ℕ → List VolumeRec → Option VolumeRec
find_volume = find_by nat_cmp volid_of

-- the first volume that lies on the cartridge
abbrev pub volume_on : ℕ → List VolumeRec → Option VolumeRec
volume_on cart volumes = find (λ volume. volume.cart.0 == cart) volumes

abbrev pub put_volume : VolumeRec → List VolumeRec → List VolumeRec
put_volume = put_by nat_cmp volid_of

abbrev pub remove_volume : ℕ → List VolumeRec → List VolumeRec
remove_volume = remove_by nat_cmp volid_of

-- the volids ascend strictly
abbrev pub AreVolumes : List VolumeRec → Type 0
AreVolumes volumes = Ascends nat_cmp volid_of volumes

-- The volume that lies on a cartridge, of several the one of least volid; None where there is none.
abbrev pub IsLeastOn : ℕ → List VolumeRec → Option VolumeRec → Type 0
IsLeastOn cart volumes None =
    (volid : ℕ) (other : VolumeRec) → find_volume volid volumes ≡ Some other
    → ¬ (other.cart.0 ≡ cart)
IsLeastOn cart volumes (Some volume) =
    (find_volume volume.volid.0 volumes ≡ Some volume) × (volume.cart.0 ≡ cart)
    × ((volid : ℕ) (other : VolumeRec) → find_volume volid volumes ≡ Some other
    → other.cart.0 ≡ cart → volume.volid.0 ≤ volid)
