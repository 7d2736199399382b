-- A store in memory: what it tells, and when its calls fail.
use Rattle.std.specs.Prelude.{◌≡◌, ◌⊎◌, ◌↔◌, ◌-◌, ℕ, List, length, true, Result, IsOk, IsErr}
use Rattle.std.specs.Prelude.{Option, Some, None}
use Rattle.room_base.specs.Calls.{Calls, FailsNext, called}
use Rattle.room_base.specs.Faults.{risen}
use Rattle.room_disk.specs.Disk.{DiskView}
use Rattle.room_disk.specs.Faults.{faults_on, counts_after}
use Rattle.room_disk.specs.Past.{Past, listed, read_after, MayLeave, MightHaveLeft}

-- `left` is how many calls it still makes before it stops, if it is to stop; `short` counts the
-- faults that were want of memory
pub record StoreInMemory : Type 0 where
  pub past : Past
  pub calls : Calls
  pub left : Option ℕ
  pub faults : List ℕ
  pub short : ℕ

abbrev pub told_store : StoreInMemory → DiskView
told_store store =
    let first = listed store.past.first in
    record {
      tells = true;
      reads = read_after first store.past.events;
      leaves = MayLeave first store.past.events;
      moment = length store.past.events;
      since = MightHaveLeft first store.past.events;
      faults = faults_on store.faults;
    }

-- the next call is listed, or the store has stopped
abbrev pub IsToFail : StoreInMemory → Type 0
IsToFail store = FailsNext store.calls ⊎ (store.left ≡ Some 0)

-- one call less is left
abbrev pub one_less : Option ℕ → Option ℕ
one_less None = None
one_less (Some left) = Some (left - 1)

-- one more call was made
abbrev pub counted : StoreInMemory → StoreInMemory
counted store = record store { calls = called store.calls; left = one_less store.left }

-- a call on the file that changes nothing: it fails just where it is to fail
pub record ChangesNothing {T E : Type 0} (file : ℕ) (old new : StoreInMemory)
    (answer : Result T E) : Type 0 where
  pub fails : IsErr answer ↔ IsToFail old
  pub same : new ≡ record (counted old) { faults = counts_after file answer old.faults }

-- A call on the file that changes something. One that is to fail changes nothing; any other fails
-- only for want of memory, which is counted apart, and then changes nothing either.
pub record Changes {T E : Type 0} (is_to_fail : Type 0) (file : ℕ) (past : Past)
    (old new : StoreInMemory) (answer : Result T E) : Type 0 where
  pub refused : is_to_fail → IsErr answer
      × (new ≡ record (counted old) { faults = counts_after file answer old.faults })
  pub made : (is_to_fail → ⊥)
      → (IsOk answer × (new ≡ record (counted old) { past = past }))
      ⊎ (IsErr answer
      × (new ≡ record
      (counted old) {
        faults = counts_after file answer old.faults;
        short = risen old.short;
      }))
