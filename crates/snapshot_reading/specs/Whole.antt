-- What is read of all of the bytes: fields and nothing else, or the place of the first that isn't
-- allowed.
use Rattle.std.specs.Prelude.{◌≡◌, ℕ, Bool, List, [], Result, Ok, Err}
use Rattle.catalog_spelling.specs.declared.fault.DecodeFault.{DecodeFault}
use Rattle.catalog_spelling.specs.declared.fault.DecodeFault.TheVariants as faults
use Rattle.catalog_spelling.specs.declared.snapshot_fields.SnapshotFields.{SnapshotFields}
use Rattle.catalog_spelling.specs.SnapshotDecoding.{StopsAtPlace}
use Rattle.catalog_spelling.specs.Snapshots.{snapshot_at}

abbrev pub ReadsWhole : Bool → List ℕ → Result SnapshotFields DecodeFault → Type 0
ReadsWhole indexed bytes (Ok fields) = snapshot_at indexed bytes ≡ Ok (fields, [])
ReadsWhole indexed bytes (Err (faults.Bad place)) = StopsAtPlace indexed bytes place
ReadsWhole indexed bytes (Err faults.Memory) = Unit {0}
