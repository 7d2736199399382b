-- Reading resources one after the other, as a loop does.
use Rattle.std.proofs.Common.{◌≡◌, ℕ, suc, ◌-◌, ◌+◌, ◌≤◌, ◌<◌, List, Ok, Err, refl, sym, ◌∙◌, arith}
use Rattle.catalog_spelling.specs.declared.fault.FieldFault.{FieldFault}
use Rattle.catalog_spelling.specs.declared.fault.FieldFault.TheVariants as faults
use Rattle.catalog_spelling.specs.Reading.{Part, ◌>>=◌, Fails}
use Rattle.catalog_spelling.specs.declared.snapshot_fields.ResourceLists.{ResourceLists}
use Rattle.catalog_spelling.specs.SnapshotResources.{more_at, next_at}

one-more : (count i : ℕ) (lists : ResourceLists) (bytes : List ℕ) → i < count
    → more_at (count - i) lists bytes ≡ (next_at lists bytes >>= λ more. more_at (count - (i + 1)) more.0 more.1)
unfolding more_at
one-more count i lists bytes lt =
    let k : count - i ≡ suc (count - (i + 1)) = omega arith in
    rw k refl

pub goes_on : (count i : ℕ) (lists : ResourceLists) (bytes : List ℕ) (x : ResourceLists) (after : List ℕ) (total : Part ResourceLists) → i < count
    → next_at lists bytes ≡ Ok (x, after) → more_at (count - i) lists bytes ≡ total → more_at (count - (i + 1)) x after ≡ total
goes_on count i lists bytes x after total lt read so_far =
    let step : more_at (count - i) lists bytes ≡ more_at (count - (i + 1)) x after = one-more count i lists bytes lt ∙ rw read refl in
    sym step ∙ so_far

pub ends : (fault : FieldFault) (count i : ℕ) (lists : ResourceLists) (bytes : List ℕ) (total : Part ResourceLists) → i < count
    → Fails fault (next_at lists bytes) → more_at (count - i) lists bytes ≡ total → Fails fault total
ends faults.Memory count i lists bytes total lt fails so_far = tt
ends (faults.Bad behind) count i lists bytes total lt fails so_far =
    let step : more_at (count - i) lists bytes ≡ Err behind = one-more count i lists bytes lt ∙ rw fails refl in
    sym so_far ∙ step

pub is_done : (count i : ℕ) (lists : ResourceLists) (bytes : List ℕ) (total : Part ResourceLists) → count ≤ i
    → more_at (count - i) lists bytes ≡ total → total ≡ Ok (lists, bytes)
unfolding more_at
is_done count i lists bytes total le so_far =
    let k : count - i ≡ 0 = omega arith in
    sym so_far ∙ rw k refl
