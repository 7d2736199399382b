-- What is read of the bytes of a snapshot.
use Rattle.std.specs.Prelude.{◌≡◌, ℕ, Bool, List, Result, Ok, Err}
use Rattle.catalog_spelling.specs.declared.fault.DecodeFault.{DecodeFault}
use Rattle.catalog_spelling.specs.declared.fault.DecodeFault.TheVariants as faults
use Rattle.catalog_spelling.specs.SnapshotDecoding.{StopsAtPlace}
use Rattle.catalog_spelling.specs.Snapshots.{kept_in}
use Rattle.catalog_spelling.specs.SpelledSnapshots.{IsText}
use Rattle.room_catalog.specs.Held.{HeldCatalogue, catalogue_of, no_parts}

-- The bytes are the one spelling of this catalogue, in which no part waits; what is read without
-- indexes has none.
pub record IsReadTo (indexed : Bool) (bytes : List ℕ) (held : HeldCatalogue) : Type 0 where
  pub text : IsText indexed bytes (catalogue_of held.lists)
  pub kept : catalogue_of held.lists ≡ kept_in indexed (catalogue_of held.lists)
  pub parts : held.lists.parts ≡ no_parts

abbrev pub ReadsSnapshot : Bool → List ℕ → Result HeldCatalogue DecodeFault → Type 0
ReadsSnapshot indexed bytes (Ok held) = IsReadTo indexed bytes held
ReadsSnapshot indexed bytes (Err (faults.Bad place)) = StopsAtPlace indexed bytes place
ReadsSnapshot indexed bytes (Err faults.Memory) = Unit {0}
