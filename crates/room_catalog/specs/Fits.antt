-- Which changes fit a catalogue, and which fit the parts that wait.
use Rattle.std.specs.Prelude.{◌≡◌, ◌≢◌, ◌⊎◌, ℕ, ◌*◌, ◌≤◌, ◌<◌, List, ◌++◌, length, Option, None, IsSome, IsSomeAnd}
use Rattle.std.specs.List.{Any, AllByRecursion}
use Rattle.std.specs.Ordering.{nat_cmp}
use Rattle.room_base.specs.Numbers.{max_moment}
use Rattle.room_base.specs.Ordered.{find_by}
use Rattle.room_base.specs.declared.numbers.Cart.{Cart}
use Rattle.save_stream.specs.declared.entry.IndexEntry.{IndexEntry}
use Rattle.save_stream.specs.Spelling.{PathsAscend, head_text}
use Rattle.media_db.specs.Rows.{find_record}
use Rattle.media_db.specs.Streams.{head_of}
use Rattle.media_db.specs.declared.copies.CopyState.{CopyState}
use Rattle.media_db.specs.declared.copies.CopyState.TheVariants as copies
use Rattle.media_db.specs.declared.records.Record.{Record}
use Rattle.media_db.specs.declared.records.RecordState.TheVariants as states
use Rattle.catalog_change.specs.declared.change.Change.{Change}
use Rattle.catalog_change.specs.declared.change.Change.TheVariants.{
  Defined,
  Dropped,
  Loaded,
  Ejected,
  Labelled,
  Begun,
  Finished,
  Aborted,
  Amended,
  Deleted,
  Purged,
  CopyBegun,
  CopyDone,
  IndexPart,
  FinishedParts,
}
use Rattle.catalog_change.specs.declared.resource.ResourceKind.TheVariants as kinds
use Rattle.catalog_change.specs.declared.slot.FilledSlot.{FilledSlot}
use Rattle.catalog_change.specs.Catalogues.{Catalogue, max_copy, max_number, slot_number}
use Rattle.catalog_change.specs.Changes.{IsCart, max_part}
use Rattle.room_catalog.specs.Held.{Parts, resources_of}
use Rattle.resource_lists.specs.Adding.{HasResource, AreAddable, IsUnused}

-- ---- slots

abbrev pub find_slot : ℕ → List FilledSlot → Option FilledSlot
find_slot = find_by nat_cmp slot_number

pub record IsLoadable (slots : List FilledSlot) (slot : ℕ) (cart : Cart) : Type 0 where
  pub is_slot : (1 ≤ slot) × (slot ≤ 32)
  pub empty : find_slot slot slots ≡ None
  pub is_cart : IsCart cart
  pub elsewhere : AllByRecursion (λ filled. filled.cart.0 ≢ cart.0) slots

-- ---- records

-- the set has a record of which this holds
abbrev pub HasRow : Catalogue → ℕ → (Record → Type 0) → Type 0
HasRow catalogue ssid Is = IsSomeAnd (find_record ssid catalogue.records) Is

abbrev pub IsBegun : Record → Type 0
IsBegun row = row.state ≡ states.Begun

abbrev pub IsComplete : Record → Type 0
IsComplete row = row.state ≡ states.Complete

-- it is begun, and a stream of so many bytes goes on behind its head
abbrev pub IsFinishable : ℕ → Record → Type 0
IsFinishable bytes row = IsBegun row × (length (head_text (head_of row)) < bytes)

-- a copy of the number is in this state
abbrev pub HasCopy : ℕ → CopyState → Record → Type 0
HasCopy number state row =
    Any (λ copy. (copy.no.0 ≡ number) × (copy.state ≡ state)) row.copies

-- the most copies of a set
abbrev pub max_copies : ℕ
max_copies = 16

pub record IsCopyable (number : ℕ) (row : Record) : Type 0 where
  pub complete : IsComplete row
  pub count : length row.copies < max_copies
  pub drawn : (row.next_copy ≤ number) × (number < max_copy)

-- a begun copy can be done, and this done one removed with that, if it isn't 0
pub record IsCopyFinishable (number removed : ℕ) (row : Record) : Type 0 where
  pub complete : IsComplete row
  pub begun : HasCopy number copies.Begun row
  pub other : (removed ≡ 0) ⊎ ((removed ≢ number) × HasCopy removed copies.Done row)

-- ---- changes

-- what each kind needs of the catalogue
abbrev pub FitsByKind : Catalogue → Change → Type 0
FitsByKind catalogue (Defined new) = AreAddable (resources_of catalogue) new
FitsByKind catalogue (Dropped kind name) =
    HasResource (resources_of catalogue) kind name × IsUnused (resources_of catalogue) kind name
FitsByKind catalogue (Loaded slot cart) = IsLoadable catalogue.slots slot cart
FitsByKind catalogue (Ejected slot) = IsSome (find_slot slot catalogue.slots)
FitsByKind catalogue (Labelled volid cart pool capacity was) =
    (catalogue.next_volid ≤ volid.0) × (volid.0 < max_number) × IsCart cart
    × HasResource (resources_of catalogue) kinds.Pool pool
FitsByKind catalogue (Begun head) =
    (catalogue.next_ssid ≤ head.ssid.0) × (head.ssid.0 < max_number)
    × ((head.base.0 ≡ 0) ⊎ IsSome (find_record head.base.0 catalogue.records))
FitsByKind catalogue (Finished ssid files bytes digest sections index) =
    HasRow catalogue ssid.0 (IsFinishable bytes)
FitsByKind catalogue (Aborted ssid) = HasRow catalogue ssid.0 IsBegun
FitsByKind catalogue (Amended ssid browse retain hold) =
    IsSome (find_record ssid.0 catalogue.records) × (browse.0 ≤ retain.0)
    × (retain.0 ≤ max_moment)
FitsByKind catalogue (Deleted ssid) = IsSome (find_record ssid.0 catalogue.records)
FitsByKind catalogue (Purged ssids) =
    AllByRecursion (λ ssid. HasRow catalogue ssid.0 IsComplete) ssids
FitsByKind catalogue (CopyBegun ssid copy) = HasRow catalogue ssid.0 (IsCopyable copy.0)
FitsByKind catalogue (CopyDone ssid copy sections removed) =
    HasRow catalogue ssid.0 (IsCopyFinishable copy.0 removed.0)
FitsByKind catalogue (IndexPart ssid part index) = HasRow catalogue ssid.0 IsBegun
FitsByKind catalogue (FinishedParts ssid files bytes digest sections) =
    HasRow catalogue ssid.0 (IsFinishable bytes)

-- a change fits the catalogue, whose number can rise
abbrev pub Fits : Catalogue → Change → Type 0
Fits catalogue change = (catalogue.number < max_number) × FitsByKind catalogue change

-- ---- parts

-- A part above 0 follows the part before it, of the same set, which is full, and its paths ascend
-- from those before.
pub record FollowsParts (parts : Parts) (ssid part : ℕ) (index : List IndexEntry) : Type 0 where
  pub set : parts.ssid ≡ ssid
  pub next : parts.count ≡ part
  pub full : length parts.entries ≡ max_part * part
  pub ascend : PathsAscend (parts.entries ++ index)

-- the parts that wait are those of a set, and have so many entries
pub record AreParts (parts : Parts) (ssid files : ℕ) : Type 0 where
  pub some : 1 ≤ parts.count
  pub set : parts.ssid ≡ ssid
  pub joined : length parts.entries ≡ files

-- a change fits the parts that wait
abbrev pub FitsParts : Parts → Change → Type 0
FitsParts parts (IndexPart ssid part index) =
    (part ≡ 0) ⊎ FollowsParts parts ssid.0 part index
FitsParts parts (FinishedParts ssid files bytes digest sections) = AreParts parts ssid.0 files
FitsParts parts _ = Unit {0}
