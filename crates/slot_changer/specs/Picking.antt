-- Which drive is picked for a piece.
use Rattle.std.specs.Prelude.{◌≡◌, ◌⊎◌, ℕ, ◌-◌, ◌≤◌, ◌<◌, List, Option, Some, None, length, take}
use Rattle.std.specs.Prelude.{IsTrue, Contains, slice_index, nat_le, if◌then◌else◌}
use Rattle.room_base.specs.declared.numbers.Volid.{Volid}
use Rattle.volume_store.specs.declared.commit.Volume.{Volume}
use Rattle.slot_changer.specs.Drives.{DriveView, IsDrive, in_drive}
use Rattle.slot_changer.specs.Taking.{takes}

-- the name of a volume's pool
abbrev pub pool_name : Volume → List ℕ
pool_name volume = take volume.label.pool_length volume.label.pool

-- there is a number for each drive
abbrev pub HasEachDrive : List ℕ → Type 0
HasEachDrive busy = length busy ≡ 4

-- how many open sessions a drive has
abbrev pub sessions_on : List ℕ → ℕ → ℕ
sessions_on busy drive = slice_index busy (drive - 1)

-- the drive has a volume of the pool that isn't barred, and takes a piece of so many bytes
abbrev pub MayPick : List ℕ → ℕ → List Volid → Option DriveView → Type 0
MayPick pool count barred None = ⊥
MayPick pool count barred (Some one) =
    (pool_name one.volume ≡ pool) × IsTrue (takes (Some one) count)
    × ¬ Contains barred one.volume.label.volid

-- one drive goes before another: it has fewer open sessions, or as many and the lesser number
abbrev pub GoesBefore : List ℕ → ℕ → ℕ → Type 0
GoesBefore busy drive other =
    (sessions_on busy drive < sessions_on busy other)
    ⊎ ((sessions_on busy drive ≡ sessions_on busy other) × (drive ≤ other))

-- the drive that is picked: of those that may be, the one that goes before all others
abbrev pub IsPick : List (Option DriveView) → List ℕ → ℕ → List ℕ → List Volid → Option ℕ
    → Type 0
IsPick drives pool count busy barred None =
    (other : ℕ) → IsDrive other → ¬ MayPick pool count barred (in_drive drives other)
IsPick drives pool count busy barred (Some drive) =
    IsDrive drive × MayPick pool count barred (in_drive drives drive)
    × ((other : ℕ) → IsDrive other → MayPick pool count barred (in_drive drives other)
    → GoesBefore busy drive other)

-- of the drive at the place that is picked so far, if any, and the one at a place behind it: the
-- one with fewer open sessions, or the first
abbrev pub less_busy : List ℕ → Option ℕ → ℕ → ℕ
less_busy busy None place = place
less_busy busy (Some best) place =
    if nat_le (slice_index busy best) (slice_index busy place) then best else place
