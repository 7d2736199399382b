-- What the files of a journal reopen as: the catalogue that a snapshot and the entries behind it
-- give. How a snapshot is spelled is an argument.
use Rattle.std.specs.Prelude.{◌≡◌, ℕ, ◌≤◌, List, [], ◌∷◌, length, take}
use Rattle.room_disk.specs.Disk.{Image}
use Rattle.cat_journal.specs.Contents.{Contents}
use Rattle.cat_journal.specs.Meaning.{Meaning, Means, Unopened, Damaged, Stands}
use Rattle.catalog_spelling.specs.Changes.{Stamped}
use Rattle.room_catalog.specs.Held.{CatalogueLists, catalogue_of, no_parts, opening_catalogue}
use Rattle.room_effects.specs.View.{RoomView}
use Rattle.room_effects.specs.Effects.{Effect, TurnOver, Deed, after, effect_of}
use Rattle.room_catalog.specs.Changing.{without_parts}
use Rattle.room_effects.specs.Replaying.{Replays}
use Rattle.room_effects.specs.Running.{catalogue_behind}

-- ---- files

-- the contents of a journal file give a catalogue: that of the snapshot, behind the entries
pub record GiveCatalogue (IsSnapshot : CatalogueLists → List ℕ → Type 0) (contents : Contents)
    (lists : CatalogueLists) : Type 0 where
  pub first : CatalogueLists
  pub snapshot : IsSnapshot first contents.snapshot
  pub number : first.number ≡ contents.head.number
  pub replays : Replays contents.head.form contents.payloads first lists

-- where no journal file is open, the opening catalogue
abbrev pub MeansCatalogue : (CatalogueLists → List ℕ → Type 0) → Meaning → CatalogueLists → Type 0
MeansCatalogue IsSnapshot Unopened lists =
    (catalogue_of lists ≡ opening_catalogue) × (lists.parts ≡ no_parts)
MeansCatalogue IsSnapshot (Damaged file place) lists = ⊥
MeansCatalogue IsSnapshot (Stands file contents) lists = GiveCatalogue IsSnapshot contents lists

-- the files reopen as this catalogue
pub record Reopens (IsSnapshot : CatalogueLists → List ℕ → Type 0) (files : Image)
    (lists : CatalogueLists) : Type 0 where
  pub meaning : Meaning
  pub means : Means files meaning
  pub gives : MeansCatalogue IsSnapshot meaning lists

-- ---- runs

-- the files reopen as the catalogue after the first so many of these changes; whatever parts of an
-- index wait then
pub record ReopensAfterSome (IsSnapshot : CatalogueLists → List ℕ → Type 0)
    (changes : List Stamped) (lists : CatalogueLists) (files : Image) : Type 0 where
  pub count : ℕ
  pub within : count ≤ length changes
  pub reopened : CatalogueLists
  pub reopens : Reopens IsSnapshot files reopened
  pub is : without_parts reopened
      ≡ without_parts (catalogue_behind (take count changes) lists)

-- the snapshot behind which the journal goes on is that of the catalogue, without parts
abbrev pub HasItsSnapshot : (CatalogueLists → List ℕ → Type 0) → Effect → RoomView → Type 0
HasItsSnapshot IsSnapshot (TurnOver snapshot) room =
    IsSnapshot (without_parts room.catalogue) snapshot
HasItsSnapshot IsSnapshot _ room = Unit {0}

abbrev pub HaveSnapshots : (CatalogueLists → List ℕ → Type 0) → List Deed → RoomView → Type 0
HaveSnapshots IsSnapshot [] room = Unit {0}
HaveSnapshots IsSnapshot (deed ∷ deeds) room =
    HasItsSnapshot IsSnapshot (effect_of deed) room
    × HaveSnapshots IsSnapshot deeds (after deed room)

-- the same catalogue, and the same parts wait: a set with an index without entries is as one
-- without
abbrev pub AreAlike : CatalogueLists → CatalogueLists → Type 0
AreAlike one other = (catalogue_of one ≡ catalogue_of other) × (one.parts ≡ other.parts)

-- the snapshots of a spelling
abbrev pub IsSpelled : (CatalogueLists → List ℕ) → CatalogueLists → List ℕ → Type 0
IsSpelled spelling lists bytes = bytes ≡ spelling lists
