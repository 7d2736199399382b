-- Snapshots and the catalogues that they spell.
use Rattle.std.specs.Prelude.{◌≡◌, ℕ, Bool, List, Result, Ok, Err}
use Rattle.catalog_change.specs.Catalogues.{Catalogue, IsCatalogue}
use Rattle.catalog_spelling.specs.declared.fault.DecodeFault.{DecodeFault}
use Rattle.catalog_spelling.specs.declared.fault.DecodeFault.TheVariants as faults
use Rattle.catalog_spelling.specs.Snapshots.{catalogue_read, kept_in, snapshot_text}
use Rattle.catalog_spelling.specs.declared.parts.Snapshot.{Snapshot}
use Rattle.catalog_spelling.specs.Fits.{FitsCatalogue}

-- the bytes are the one spelling of a catalogue that is allowed
pub record IsText (indexed : Bool) (bytes : List ℕ) (catalogue : Catalogue) : Type 0 where
  pub allowed : IsCatalogue catalogue
  pub fits : FitsCatalogue (kept_in indexed catalogue)
  pub text : bytes ≡ snapshot_text indexed catalogue

-- the bytes are those of the catalogue that was read, which has no indexes where they have none
pub record IsSpelled (indexed : Bool) (bytes : List ℕ) (snapshot : Snapshot) : Type 0 where
  pub is : IsText indexed bytes (catalogue_read snapshot)
  pub kept : catalogue_read snapshot ≡ kept_in indexed (catalogue_read snapshot)

-- a catalogue is read back as its text has it, unless memory runs out
abbrev pub IsReadBack : Bool → Catalogue → Result Snapshot DecodeFault → Type 0
IsReadBack indexed catalogue (Ok snapshot) = catalogue_read snapshot ≡ kept_in indexed catalogue
IsReadBack indexed catalogue (Err (faults.Bad place)) = ⊥
IsReadBack indexed catalogue (Err faults.Memory) = Unit {0}
