-- The catalogue that a snapshot gives.
use Rattle.std.proofs.Common.{◌≡◌, ℕ, true, List, Err, ap, ◌∙◌, subst}
use Rattle.catalog_change.specs.Catalogues.{Catalogue}
use Rattle.catalog_spelling.specs.declared.fault.DecodeFault.TheVariants as faults
use Rattle.catalog_spelling.specs.SnapshotDecoding.{StopsAtPlace}
use Rattle.snapshot_laws.proofs.SnapshotLaws.{read-back}
use Rattle.room_catalog.specs.Held.{HeldCatalogue, catalogue_of}
use Rattle.journal_replay.specs.Reading.{IsReadTo}
use Rattle.journal_files.specs.Files.{GivesNone}
use Rattle.journal_files.proofs.Single.{one_text}

pub none_of_bad : (number : ℕ) (snapshot : List ℕ) (place : ℕ) → StopsAtPlace true snapshot place → GivesNone number snapshot
none_of_bad number snapshot place stops = λ first is.
    let S : List ℕ → Type 0 = λ bytes. StopsAtPlace true bytes place in
    read-back true (catalogue_of first) (Err (faults.Bad place)) is.is.text.allowed is.is.text.fits (subst S is.is.text.text stops)

pub none_of_number : (number : ℕ) (snapshot : List ℕ) (held : HeldCatalogue) → IsReadTo true snapshot held → ¬ (held.lists.number ≡ number) → GivesNone number snapshot
none_of_number number snapshot held read other = λ first is.
    other (ap (λ (all : Catalogue). all.number) (one_text snapshot (catalogue_of held.lists) (catalogue_of first) read.text is.is.text) ∙ is.number_is)
