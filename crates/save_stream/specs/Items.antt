-- What comes next in a stream: a head, an entry up to the bytes of its file, or an end.
use Rattle.std.specs.Prelude.{◌≡◌, ℕ, ◌+◌, ◌-◌, ◌<◌, ◌≤◌, Bool, true, false, ◌==◌, List, [], ◌∷◌}
use Rattle.std.specs.Prelude.{◌++◌, length, Option, Some, None, Result, Ok, Err, if◌then◌else◌}
use Rattle.byteorder.specs.Endian.{big_number}
use Rattle.save_stream.specs.declared.entry.IndexEntry.{IndexEntry}
use Rattle.save_stream.specs.declared.fault.StreamFault.{StreamFault}
use Rattle.save_stream.specs.declared.fault.StreamFault.TheVariants as faults
use Rattle.save_stream.specs.declared.head.SetHead.{SetHead}
use Rattle.save_stream.specs.declared.stop.Stop.{Stop}
use Rattle.save_stream.specs.declared.stop.Stop.TheVariants as stops
use Rattle.save_stream.specs.Spelling.{max_entries}
use Rattle.save_stream.specs.Standing.{AreBytes}
use Rattle.save_stream.specs.Reading.{Part, Reading, Front, head_at, front_at, end_at, begins_end}
use Rattle.save_stream.specs.Reading.{entry_from, last_path}

pub data Item : Type 0 where
  Head : SetHead → Item
  Entry : Front → Item
  End : ℕ → Item

-- what is read is an item
abbrev pub as_item : {X : Type 0} → (X → Item) → Part X → Part Item
as_item item (Ok x) = Ok (item x.0, x.1)
as_item item (Err stop) = Err stop

-- the end, where the bytes begin one, and else an entry
abbrev pub rest_at : Bool → List IndexEntry → List ℕ → Part Item
rest_at true entries bytes = as_item End (end_at (length entries) bytes)
rest_at false entries bytes = as_item Entry (front_at (length entries) (last_path entries) bytes)

-- the item that begins these bytes
abbrev pub item_at : Option SetHead → List IndexEntry → List ℕ → Part Item
item_at None entries bytes = as_item Head (head_at bytes)
item_at (Some head) entries bytes = rest_at (begins_end bytes) entries bytes

-- an item is read, behind which so many bytes were read
abbrev pub with_item : Reading → ℕ → Item → Reading
with_item reading read (Head head) = record reading { read = read; head = Some head; pending = [] }
with_item reading read (Entry front) =
    record reading {
      read = read;
      left = front.size;
      entries = reading.entries ++ entry_from read front ∷ [];
      pending = [];
    }
with_item reading read (End count) = record reading { read = read; ended = true; pending = [] }

-- A reader that is to go on: the pending bytes aren't complete, and there are no entries too many.
pub record IsWaiting (reading : Reading) : Type 0 where
  pub waits : reading.ended ≡ false
      → item_at reading.head reading.entries reading.pending ≡ Err stops.More
  pub bytes : AreBytes reading.pending
  pub count : length reading.entries ≤ max_entries

-- The item that begins bytes, which end at this byte of the stream, was taken. So many of the bytes
-- are behind it.
pub record TakesItem (old new : Reading) (end : ℕ) (bytes : List ℕ) (behind : ℕ) : Type 0 where
  pub item : Item
  pub rest : List ℕ
  pub found : item_at old.head old.entries bytes ≡ Ok (item, rest)
  pub behind_is : behind ≡ length rest
  pub taken : new ≡ with_item old (end - length rest) item

-- a fault is the one that bytes have which end at this byte of the stream, unless memory ran out
abbrev pub FaultsAt : StreamFault → ℕ → Part Item → Type 0
FaultsAt faults.Memory end part = Unit {0}
FaultsAt (faults.Bad offset) end part =
    (behind : ℕ) × (part ≡ Err (stops.Wrong behind)) × (offset ≡ end - behind)
FaultsAt (faults.TooMany limit) end part = (part ≡ Err stops.Full) × (limit ≡ max_entries)

-- what taking the item at the front of bytes does; without an answer it isn't complete
abbrev pub TakesNext : Reading → Reading → ℕ → List ℕ → Result (Option ℕ) StreamFault → Type 0
TakesNext old new end bytes (Ok (Some behind)) = TakesItem old new end bytes behind
TakesNext old new end bytes (Ok None) =
    (item_at old.head old.entries bytes ≡ Err stops.More) × (new ≡ old)
TakesNext old new end bytes (Err fault) = FaultsAt fault end (item_at old.head old.entries bytes)

-- how many bytes the numbers take of an entry that this byte begins
abbrev pub numbers_size : ℕ → ℕ
numbers_size byte = if byte == 0x46 then 16 else (if byte == 0x44 then 8 else 0)

-- The path of the entry that these bytes begin stands whole in the first `judged` of them, and the
-- numbers behind it aren't complete.
abbrev pub WantsNumbers : ℕ → List ℕ → Type 0
WantsNumbers judged [] = ⊥
WantsNumbers judged (byte ∷ bytes) =
    (2 ≤ length bytes) × (3 + big_number 2 bytes ≤ judged)
    × (length bytes < 2 + big_number 2 bytes + numbers_size byte)

-- what it means that bytes which end at byte `end` weren't read to the end of an item
abbrev pub Stopped : Stop → ℕ → Result (Option ℕ) StreamFault → Type 0
Stopped stops.More end (Ok answer) = answer ≡ None
Stopped stops.More end (Err fault) = ⊥
Stopped (stops.Wrong behind) end (Ok answer) = ⊥
Stopped (stops.Wrong behind) end (Err fault) = fault ≡ faults.Bad (end - behind)
Stopped stops.Full end (Ok answer) = ⊥
Stopped stops.Full end (Err fault) = fault ≡ faults.TooMany max_entries
Stopped stops.Memory end (Ok answer) = ⊥
Stopped stops.Memory end (Err fault) = fault ≡ faults.Memory
