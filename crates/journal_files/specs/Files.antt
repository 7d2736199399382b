-- What the files of a journal replay to, and where they are damaged.
use Rattle.std.specs.Prelude.{◌≡◌, ◌⊎◌, ℕ, true, List, ◌∷◌, ◌++◌}
use Rattle.room_disk.specs.Disk.{Image}
use Rattle.cat_journal.specs.Contents.{Contents, contents_of, gate_of}
use Rattle.cat_journal.specs.Meaning.{Meaning, Means, Unopened, Damaged, Stands}
use Rattle.catalog_spelling.specs.Changes.{Stamped}
use Rattle.catalog_spelling.specs.SpelledSnapshots.{IsText}
use Rattle.room_catalog.specs.Held.{CatalogueLists, catalogue_of, no_parts}
use Rattle.room_effects.specs.Replaying.{Follows, Replays}
use Rattle.room_effects.specs.Reopening.{Reopens}

-- ---- what files replay to

-- the bytes are the snapshot of this catalogue, with its indexes, and no part waits in it
pub record IsSnapshot (lists : CatalogueLists) (bytes : List ℕ) : Type 0 where
  pub text : IsText true bytes (catalogue_of lists)
  pub parts : lists.parts ≡ no_parts

-- the files replay to these lists
abbrev pub ReplaysTo : Image → CatalogueLists → Type 0
ReplaysTo files lists = Reopens IsSnapshot files lists

-- ---- the catalogue of a snapshot

-- a snapshot under a head with this number gives this catalogue
pub record IsFirst (number : ℕ) (snapshot : List ℕ) (first : CatalogueLists) : Type 0 where
  pub is : IsSnapshot first snapshot
  pub number_is : first.number ≡ number

-- it gives none
abbrev pub GivesNone : ℕ → List ℕ → Type 0
GivesNone number snapshot = (first : CatalogueLists) → ¬ IsFirst number snapshot first

-- ---- where files are damaged

-- behind entries that left these lists, in a file of this form, an entry tells no change
abbrev pub IsStray : ℕ → List ℕ → CatalogueLists → Type 0
IsStray form payload lists = (one : Stamped) → ¬ Follows form payload lists one

-- the entries before one replay, it tells no change behind them, and its gate stands at this place
pub record StraysAt (contents : Contents) (place : ℕ) : Type 0 where
  pub first : CatalogueLists
  pub begins : IsFirst contents.head.number contents.snapshot first
  pub before : List (List ℕ)
  pub stray : List ℕ
  pub more : List (List ℕ)
  pub payloads : contents.payloads ≡ before ++ stray ∷ more
  pub lists : CatalogueLists
  pub replays : Replays contents.head.form before first lists
  pub is : IsStray contents.head.form stray lists
  pub placed : place ≡ gate_of (contents_of contents.head contents.snapshot before)

-- the snapshot gives no catalogue, which is told at place 0, or an entry tells no change
abbrev pub AreDamagedAt : Contents → ℕ → Type 0
AreDamagedAt contents place =
    (GivesNone contents.head.number contents.snapshot × (place ≡ 0)) ⊎ StraysAt contents place

-- a front or the gate of an entry is damaged, or what stands in the current file
abbrev pub MeaningIsDamaged : Meaning → ℕ → ℕ → Type 0
MeaningIsDamaged Unopened file place = ⊥
MeaningIsDamaged (Damaged which at) file place = (file ≡ which) × (place ≡ at)
MeaningIsDamaged (Stands which contents) file place =
    (file ≡ which) × AreDamagedAt contents place

-- the files are damaged, which is told at this place of this file
pub record IsDamaged (files : Image) (file place : ℕ) : Type 0 where
  pub meaning : Meaning
  pub means : Means files meaning
  pub is : MeaningIsDamaged meaning file place
