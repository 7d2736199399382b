-- The grammar of a stream on whole texts: what heads and entries may be, and how they are spelled.
use Rattle.std.specs.Prelude.{◌≡◌, ◌↔◌, ℕ, ◌+◌, ◌≤◌, ◌<◌, ◌^◌, List, [], ◌∷◌, ◌++◌, length, take}
use Rattle.std.specs.Prelude.{drop}
use Rattle.std.specs.List.{flat_map, AllByRecursion}
use Rattle.std.specs.Ordering.{nat_cmp}
use Rattle.std.specs.Cmp.Lexicographic.{slice_cmp}
use Rattle.std.specs.declared.cmp.Ordering.TheVariants.{Less}
use Rattle.byteorder.specs.Endian.{big_bytes}
use Rattle.room_base.specs.Numbers.{max_moment}
use Rattle.room_base.specs.Ordered.{Ascends, AscendsFrom}
use Rattle.room_base.specs.Text.{HasLength, IsName, IsPathText}
use Rattle.save_stream.specs.declared.entry.EntryKind.{EntryKind}
use Rattle.save_stream.specs.declared.entry.EntryKind.TheVariants as kinds
use Rattle.save_stream.specs.declared.entry.IndexEntry.{IndexEntry}
use Rattle.save_stream.specs.declared.head.SetHead.{SetHead}

-- the most entries of a stream, and the most bytes of it
abbrev pub max_entries : ℕ
max_entries = 1000000

abbrev pub max_size : ℕ
max_size = 68719476736

-- ---- the head

-- a name of at most so many bytes
abbrev pub IsNameTo : ℕ → List ℕ → Type 0
IsNameTo most text = HasLength most text × IsName text

-- a head that is allowed
pub record IsHead (head : SetHead) : Type 0 where
  pub ssid : (1 ≤ head.ssid.0) × (head.ssid.0 < 2 ^ 64)
  pub base : head.base.0 < head.ssid.0
  pub level : head.level ≤ 10
  pub full : (head.base.0 ≡ 0) ↔ (head.level ≡ 0)
  pub saved : head.saved.0 ≤ max_moment
  pub browse : head.browse.0 ≤ max_moment
  pub retain : (head.browse.0 ≤ head.retain.0) × (head.retain.0 ≤ max_moment)
  pub client : IsNameTo 64 head.client
  pub set : IsNameTo 255 head.set
  pub group : (length head.group ≤ 64) × IsName head.group
  pub pool : IsNameTo 64 head.pool

-- a number of eight bytes
unfoldable pub number_text : ℕ → List ℕ
number_text number = big_bytes 8 number

-- one byte of length, and that many bytes
abbrev pub short_text : List ℕ → List ℕ
short_text text = length text ∷ text

-- a head up to its texts
abbrev pub head_numbers : SetHead → List ℕ
head_numbers head =
    (0x48 ∷ []) ++ number_text head.ssid.0 ++ number_text head.base.0 ++ (head.level ∷ [])
    ++ number_text head.saved.0 ++ number_text head.browse.0 ++ number_text head.retain.0

-- how a head is spelled
abbrev pub head_text : SetHead → List ℕ
head_text head =
    head_numbers head ++ short_text head.client ++ short_text head.set ++ short_text head.group
    ++ short_text head.pool

-- ---- entries

-- an entry of a save set with the bytes of its file
pub record Saved : Type 0 where
  pub kind : EntryKind
  pub path : List ℕ
  pub mtime : ℕ
  pub bytes : List ℕ

-- what an entry of a kind may have
abbrev pub HasFields : EntryKind → ℕ → List ℕ → Type 0
HasFields kinds.File mtime bytes = (mtime < 2 ^ 64) × (length bytes ≤ max_size)
HasFields kinds.Folder mtime bytes = (mtime < 2 ^ 64) × (bytes ≡ [])
HasFields kinds.Gone mtime bytes = (mtime ≡ 0) × (bytes ≡ [])

-- an entry that is allowed, wherever it stands
pub record IsSaved (entry : Saved) : Type 0 where
  pub length : HasLength 1024 entry.path
  pub path : IsPathText entry.path
  pub fields : HasFields entry.kind entry.mtime entry.bytes

-- the first of two texts is the lesser by bytes
abbrev pub IsBelow : List ℕ → List ℕ → Type 0
IsBelow one other = slice_cmp nat_cmp one other ≡ Less

-- the paths ascend strictly, from above this one
abbrev pub Ascend : List ℕ → List Saved → Type 0
Ascend last entries =
    AscendsFrom (slice_cmp nat_cmp) (λ (entry : Saved). entry.path) last entries

abbrev pub path_of : IndexEntry → List ℕ
path_of entry = entry.path

-- the paths of entries ascend strictly by bytes, from above this one
abbrev pub PathsAscendFrom : List ℕ → List IndexEntry → Type 0
PathsAscendFrom low entries = AscendsFrom (slice_cmp nat_cmp) path_of low entries

-- the paths of entries ascend strictly by bytes
abbrev pub PathsAscend : List IndexEntry → Type 0
PathsAscend entries = Ascends (slice_cmp nat_cmp) path_of entries

-- a number of two bytes
unfoldable pub short_number_text : ℕ → List ℕ
short_number_text number = big_bytes 2 number

-- two bytes of length, and that many bytes
abbrev pub long_text : List ℕ → List ℕ
long_text text = short_number_text (length text) ++ text

-- an entry up to the bytes of its file
abbrev pub entry_front : EntryKind → List ℕ → ℕ → ℕ → List ℕ
entry_front kinds.File path mtime size =
    (0x46 ∷ []) ++ long_text path ++ number_text mtime ++ number_text size
entry_front kinds.Folder path mtime size = (0x44 ∷ []) ++ long_text path ++ number_text mtime
entry_front kinds.Gone path mtime size = (0x47 ∷ []) ++ long_text path

-- how an entry is spelled
abbrev pub entry_text : Saved → List ℕ
entry_text entry = entry_front entry.kind entry.path entry.mtime (length entry.bytes) ++ entry.bytes

-- how the end is spelled
abbrev pub end_text : ℕ → List ℕ
end_text count = (0x45 ∷ []) ++ number_text count

-- ---- the stream

-- how entries and the end are spelled
abbrev pub body_text : List Saved → List ℕ
body_text entries = flat_map entry_text entries ++ end_text (length entries)

-- how a head and entries are spelled
abbrev pub stream_text : SetHead → List Saved → List ℕ
stream_text head entries = head_text head ++ body_text entries

-- a head and entries that are allowed
pub record IsStream (head : SetHead) (entries : List Saved) : Type 0 where
  pub allowed : IsHead head
  pub each : AllByRecursion IsSaved entries
  pub order : Ascend [] entries
  pub count : length entries ≤ max_entries
  pub size : length (stream_text head entries) ≤ max_size

-- where the bytes of a file stand, in a stream of which so many bytes come before its entry
abbrev pub place_of : EntryKind → ℕ → ℕ
place_of kinds.File place = place
place_of kinds.Folder place = 0
place_of kinds.Gone place = 0

-- an entry as the index has it, of which so many bytes stand before
abbrev pub index_entry : ℕ → Saved → IndexEntry
index_entry at entry = record {
  kind = entry.kind;
  path = entry.path;
  mtime = entry.mtime;
  size = length entry.bytes;
  place = place_of entry.kind
      (at + length (entry_front entry.kind entry.path entry.mtime (length entry.bytes)));
}

-- the index of entries, of which the first begins here
abbrev pub index_from : ℕ → List Saved → List IndexEntry
index_from at [] = []
index_from at (entry ∷ entries) =
    index_entry at entry ∷ index_from (at + length (entry_text entry)) entries

-- a text is a whole stream, of this head and these entries
abbrev pub StreamText : List ℕ → SetHead → List Saved → Type 0
StreamText text head entries = IsStream head entries × (text ≡ stream_text head entries)

-- the index of a stream
abbrev pub index_of : SetHead → List Saved → List IndexEntry
index_of head entries = index_from (length (head_text head)) entries

-- the bytes of an entry's file, in the text of a stream
abbrev pub file_bytes : List ℕ → IndexEntry → List ℕ
file_bytes text entry = take entry.size (drop entry.place text)
