-- What is read of a journal's files.
use Rattle.std.specs.Prelude.{◌≡◌, ◌≢◌, ℕ, ◌+◌, ◌-◌, ◌<◌, ◌≤◌, ◌^◌, Bool, true, false, List, []}
use Rattle.std.specs.Prelude.{◌∷◌, ◌++◌, length, take, drop, min, Result, IfErr, Option, Some, None}
use Rattle.byteorder.specs.Endian.{big_bytes}
use Rattle.room_base.specs.Faults.{Rose}
use Rattle.room_disk.specs.Disk.{DiskView}
use Rattle.cat_journal.specs.Layout.{IsEntry, entry_text}
use Rattle.cat_journal.specs.Fields.{entry_number_in, entry_size_in}
use Rattle.cat_journal.specs.Contents.{IsClosed, IsBroken}
use Rattle.cat_journal.specs.declared.entries.EntryRead.{EntryRead}
use Rattle.cat_journal.specs.declared.entries.EntryRead.TheVariants as read
use Rattle.cat_journal.specs.declared.reading.ReadFault.{ReadFault}
use Rattle.cat_journal.specs.declared.reading.ReadFault.TheVariants as faults

-- ---- reading

-- the fault is want of memory, or it is the file's and its count rose
abbrev pub IsFaultOf : ℕ → DiskView → DiskView → ReadFault → Type 0
IsFaultOf file old new (faults.Failed which) =
    (which ≡ file) × Rose (old.faults file) (new.faults file)
IsFaultOf file old new faults.Memory = Unit {0}

-- no count falls, and a fault has its cause
pub record ReadCause {T : Type 0} (file : ℕ) (old new : DiskView)
    (answer : Result T ReadFault) : Type 0 where
  pub later : (other : ℕ) → old.faults other ≤ new.faults other
  pub cause : IfErr answer (IsFaultOf file old new)

-- whether so many bytes stand from a place on, and then they were read
abbrev pub ReadsWhole : List ℕ → ℕ → List ℕ → Bool → Type 0
ReadsWhole bytes at into true =
    (length into ≤ length bytes - at) × (into ≡ take (length into) (drop at bytes))
ReadsWhole bytes at into false = length bytes - at < length into

-- the bytes from a place on that there is room for were read into the front of a piece
pub record ReadsPart (bytes : List ℕ) (at room : ℕ) (piece : List ℕ) (count : ℕ) : Type 0 where
  pub all : count ≡ min room (length bytes - at)
  pub given : take count piece ≡ take count (drop at bytes)

-- ---- pieces

-- A file that is read in pieces: what was read of it and not yet handed out, and the place behind
-- that. It ends where it ended as the reading began.
pub record PiecesView : Type 0 where
  pub file : ℕ
  pub next : ℕ
  pub end : ℕ
  pub unread : List ℕ

-- what is still to be handed out
abbrev pub ahead : PiecesView → List ℕ → List ℕ
ahead pieces bytes = pieces.unread ++ drop pieces.next bytes

-- the pieces are of a file with these bytes
abbrev pub IsOf : PiecesView → List ℕ → Type 0
IsOf pieces bytes = pieces.end ≡ length bytes

-- a piece is there, if any bytes are ahead, and the same are ahead
pub record ReadsOn (bytes : List ℕ) (old new : PiecesView) : Type 0 where
  pub same : ahead new bytes ≡ ahead old bytes
  pub ended : new.unread ≡ [] → ahead old bytes ≡ []

-- some bytes were handed out, none only where none are ahead
pub record HandsOut (before after into : List ℕ) (count : ℕ) : Type 0 where
  pub given : take count into ++ after ≡ before
  pub ended : 0 < length into → count ≡ 0 → before ≡ []

-- the room was filled, or fewer bytes were ahead
abbrev pub Fills : List ℕ → List ℕ → List ℕ → Bool → Type 0
Fills before after into true = before ≡ into ++ after
Fills before after into false = length before < length into

-- so many bytes were handed out, or fewer were ahead
abbrev pub TakesBytes : ℕ → List ℕ → List ℕ → Option (List ℕ) → Type 0
TakesBytes size before after None = length before < size
TakesBytes size before after (Some bytes) = before ≡ bytes ++ after

-- ---- entries

-- the fields before an entry's bytes are those of this number, and the entry ends in the file,
-- where so many bytes are left from its gate on
abbrev pub HasFields : List ℕ → ℕ → ℕ → Type 0
HasFields fields number room =
    (entry_number_in fields ≡ number) × (45 + entry_size_in fields ≤ room)

-- they are spelled so
pub record SpellsFields (fields : List ℕ) (number size : ℕ) : Type 0 where
  pub text : fields ≡ big_bytes 8 number ++ big_bytes 4 size
  pub counted : number < 2 ^ 64
  pub short : size < 2 ^ 32

-- an entry with this number stands in front
abbrev pub IsFirst : ℕ → List ℕ → List ℕ → List ℕ → Type 0
IsFirst number before after payload =
    IsEntry number payload × (before ≡ entry_text number payload ++ after)

-- none does
abbrev pub NoEntry : ℕ → List ℕ → Type 0
NoEntry number before = (payload more : List ℕ) → IsEntry number payload
    → before ≢ entry_text number payload ++ more

abbrev pub FindsBehind : ℕ → List ℕ → List ℕ → Option (List ℕ) → Type 0
FindsBehind number before after None = NoEntry number before
FindsBehind number before after (Some payload) = IsFirst number before after payload

-- what stands from a gate on
abbrev pub FindsEntry : ℕ → List ℕ → List ℕ → EntryRead → Type 0
FindsEntry number before after read.Closed = IsClosed before
FindsEntry number before after read.Broken = IsBroken number before
FindsEntry number before after (read.Entry payload) = IsEntry number payload
    × (before ≡ (0x45 ∷ entry_text number payload) ++ after)

-- an entry that was read ends where the file does, or before
abbrev pub FitsRoom : ℕ → ℕ → EntryRead → Type 0
FitsRoom number room (read.Entry payload) = (number < 2 ^ 64) × (45 + length payload ≤ room)
FitsRoom number room other = Unit {0}
