-- Reading from left to right: each field is judged when its last byte has come.
use Rattle.std.specs.Prelude.{◌≡◌, ℕ, ◌+◌, ◌-◌, ◌<◌, ◌≤◌, Bool, true, false, ◌&&◌, not, ◌==◌}
use Rattle.std.specs.Prelude.{nat_lt, nat_le, List, [], ◌∷◌, ◌++◌, length, take, drop, slice_index}
use Rattle.std.specs.Prelude.{Option, Some, None, Result, Ok, Err, if◌then◌else◌}
use Rattle.std.specs.List.{list_all}
use Rattle.std.specs.Ordering.{nat_cmp, is_lt}
use Rattle.std.specs.Cmp.Lexicographic.{slice_cmp}
use Rattle.std.specs.Str.{is_utf8}
use Rattle.byteorder.specs.Endian.{big_number}
use Rattle.room_base.specs.Numbers.{max_moment}
use Rattle.save_stream.specs.declared.entry.EntryKind.{EntryKind}
use Rattle.save_stream.specs.declared.entry.EntryKind.TheVariants as kinds
use Rattle.save_stream.specs.declared.entry.IndexEntry.{IndexEntry}
use Rattle.save_stream.specs.declared.fault.StreamFault.{StreamFault}
use Rattle.save_stream.specs.declared.fault.StreamFault.TheVariants as faults
use Rattle.save_stream.specs.declared.stop.Stop.{Stop}
use Rattle.save_stream.specs.declared.stop.Stop.TheVariants as stops
use Rattle.save_stream.specs.declared.head.SetHead.{SetHead}
use Rattle.save_stream.specs.declared.head_reading.HeadNumbers.{HeadNumbers}
use Rattle.save_stream.specs.Spelling.{max_entries, max_size, place_of}

-- what is read, and the bytes behind it
abbrev pub Part : Type 0 → Type 0
Part X = Result (X × List ℕ) Stop

infixl 10 ◌>>=◌
abbrev pub ◌>>=◌ : {A B : Type 0} → Result A Stop → (A → Result B Stop) → Result B Stop
(Ok x) >>= f = f x
(Err stop) >>= f = Err stop

-- what is read alone
abbrev pub read_alone : {X : Type 0} → Part X → Result X Stop
read_alone part = part >>= λ x. Ok x.0

-- a field that begins these bytes is judged
abbrev pub checked : {X : Type 0} → (X → Bool) → List ℕ → Part X → Part X
checked allows bytes part =
    part >>= λ x. if allows x.0 then Ok x else Err (stops.Wrong (length bytes))

-- What a function returned, seen by view, is what reading gives, unless memory ran out.
abbrev pub Stops : {Y : Type 0} → Stop → Result Y Stop → Type 0
Stops stops.Memory read = Unit {0}
Stops stops.More read = read ≡ Err stops.More
Stops stops.Full read = read ≡ Err stops.Full
Stops (stops.Wrong behind) read = read ≡ Err (stops.Wrong behind)

abbrev pub GivesField : {X Y : Type 0} → (X → Y) → Result X Stop → Result Y Stop → Type 0
GivesField view (Ok x) read = read ≡ Ok (view x)
GivesField view (Err stop) read = Stops stop read

-- the judgement of a field that begins these bytes
abbrev pub Allows : {T : Type 0} → Bool → List ℕ → Result T Stop → Type 0
Allows allowed bytes (Ok _) = allowed ≡ true
Allows allowed bytes (Err stop) = (allowed ≡ false) × (stop ≡ stops.Wrong (length bytes))

-- ---- fields

abbrev pub byte_at : List ℕ → Part ℕ
byte_at [] = Err stops.More
byte_at (byte ∷ rest) = Ok (byte, rest)

-- a number of so many bytes
unfoldable pub number_at : ℕ → List ℕ → Part ℕ
number_at size bytes =
    if nat_lt (length bytes) size then Err stops.More
    else Ok (big_number size bytes, drop size bytes)

unfoldable pub bytes_at : ℕ → List ℕ → Part (List ℕ)
bytes_at size bytes =
    if nat_lt (length bytes) size then Err stops.More else Ok (take size bytes, drop size bytes)

-- a byte that is no control character of ASCII
abbrev pub is_printable : ℕ → Bool
is_printable byte = nat_le 0x20 byte && not (byte == 0x7F)

unfoldable pub is_name : List ℕ → Bool
is_name text = is_utf8 text && list_all is_printable text

-- a text behind one byte of length
unfoldable pub text_at : ℕ → ℕ → List ℕ → Part (List ℕ)
text_at least most bytes = do
  size ← checked (λ n. nat_le least n && nat_le n most) bytes (byte_at bytes)
  checked is_name size.1 (bytes_at size.0 size.1)

-- ---- the head

unfoldable pub given_byte_at : ℕ → List ℕ → Part ℕ
given_byte_at given bytes = checked (λ byte. byte == given) bytes (byte_at bytes)

unfoldable pub ssid_at : List ℕ → Part ℕ
ssid_at bytes = checked (λ ssid. nat_lt 0 ssid) bytes (number_at 8 bytes)

-- a base stands below its save set
unfoldable pub base_at : ℕ → List ℕ → Part ℕ
base_at ssid bytes = checked (λ base. nat_lt base ssid) bytes (number_at 8 bytes)

-- a level has a base, but for level 0
abbrev pub is_level : ℕ → ℕ → Bool
is_level base level = if base == 0 then level == 0 else (nat_lt 0 level && nat_le level 10)

unfoldable pub level_at : ℕ → List ℕ → Part ℕ
level_at base bytes = checked (is_level base) bytes (byte_at bytes)

unfoldable pub moment_at : ℕ → List ℕ → Part ℕ
moment_at least bytes =
    checked (λ moment. nat_le least moment && nat_le moment max_moment) bytes (number_at 8 bytes)

unfoldable pub numbers_at : List ℕ → Part HeadNumbers
numbers_at bytes = do
  kind_byte ← given_byte_at 0x48 bytes
  ssid ← ssid_at kind_byte.1
  base ← base_at ssid.0 ssid.1
  level ← level_at base.0 base.1
  saved ← moment_at 0 level.1
  browse ← moment_at 0 saved.1
  retain ← moment_at browse.0 browse.1
  Ok (
    record {
      ssid = record { 0 = ssid.0 };
      base = record { 0 = base.0 };
      rank = level.0;
      saved = record { 0 = saved.0 };
      browse = record { 0 = browse.0 };
      retain = record { 0 = retain.0 };
    },
    retain.1,
  )

-- client, set, group and pool
pub record HeadNames : Type 0 where
  pub client : List ℕ
  pub set : List ℕ
  pub group : List ℕ
  pub pool : List ℕ

unfoldable pub names_at : List ℕ → Part HeadNames
names_at bytes = do
  client ← text_at 1 64 bytes
  set ← text_at 1 255 client.1
  group ← text_at 0 64 set.1
  pool ← text_at 1 64 group.1
  Ok (record { client = client.0; set = set.0; group = group.0; pool = pool.0 }, pool.1)

-- a head of these fields
abbrev pub head_from : HeadNumbers → HeadNames → SetHead
head_from numbers names = record {
  ssid = numbers.ssid;
  base = numbers.base;
  level = numbers.rank;
  saved = numbers.saved;
  browse = numbers.browse;
  retain = numbers.retain;
  client = names.client;
  set = names.set;
  group = names.group;
  pool = names.pool;
}

unfoldable pub head_at : List ℕ → Part SetHead
head_at bytes = do
  numbers ← numbers_at bytes
  names ← names_at numbers.1
  Ok (head_from numbers.0 names.0, names.1)

-- ---- an entry

-- the fields of an entry
pub record Front : Type 0 where
  pub kind : EntryKind
  pub path : List ℕ
  pub mtime : ℕ
  pub size : ℕ

-- the kind that a byte begins
abbrev pub kind_of : ℕ → Option EntryKind
kind_of byte =
    if byte == 0x46 then Some kinds.File
    else (if byte == 0x44 then Some kinds.Folder
    else (if byte == 0x47 then Some kinds.Gone else None))

-- a kind, for an entry behind so many
abbrev pub kind_among : ℕ → ℕ → Option EntryKind → List ℕ → Part EntryKind
kind_among count behind None rest = Err (stops.Wrong behind)
kind_among count behind (Some kind) rest =
    if nat_lt count max_entries then Ok (kind, rest) else Err stops.Full

unfoldable pub kind_at : ℕ → List ℕ → Part EntryKind
kind_at count bytes = do
  byte ← byte_at bytes
  kind_among count (length bytes) (kind_of byte.0) byte.1

unfoldable pub is_path : List ℕ → Bool
is_path text = is_utf8 text && (slice_index text 0 == 0x2F)

-- the first of two texts is the lesser by bytes
unfoldable pub is_below : List ℕ → List ℕ → Bool
is_below one other = is_lt (slice_cmp nat_cmp one other)

-- a path behind two bytes of length, above the last one
unfoldable pub path_at : List ℕ → List ℕ → Part (List ℕ)
path_at last bytes = do
  size ← checked (λ n. nat_lt 0 n && nat_le n 1024) bytes (number_at 2 bytes)
  checked (λ path. is_path path && is_below last path) size.1 (bytes_at size.0 size.1)

-- the times of an entry: gone has none
abbrev pub mtime_at : EntryKind → List ℕ → Part ℕ
mtime_at kinds.File bytes = number_at 8 bytes
mtime_at kinds.Folder bytes = number_at 8 bytes
mtime_at kinds.Gone bytes = Ok (0, bytes)

abbrev pub size_at : EntryKind → List ℕ → Part ℕ
size_at kinds.File bytes = checked (λ size. nat_le size max_size) bytes (number_at 8 bytes)
size_at kinds.Folder bytes = Ok (0, bytes)
size_at kinds.Gone bytes = Ok (0, bytes)

-- an entry behind so many, of which this is the last path
unfoldable pub front_at : ℕ → List ℕ → List ℕ → Part Front
front_at count last bytes = do
  kind ← kind_at count bytes
  path ← path_at last kind.1
  mtime ← mtime_at kind.0 path.1
  size ← size_at kind.0 mtime.1
  Ok (record { kind = kind.0; path = path.0; mtime = mtime.0; size = size.0 }, size.1)

-- ---- the end

unfoldable pub end_at : ℕ → List ℕ → Part ℕ
end_at count bytes = do
  kind_byte ← given_byte_at 0x45 bytes
  checked (λ n. n == count) kind_byte.1 (number_at 8 kind_byte.1)

-- ---- the stream

-- what a reader has read of a stream: how many bytes, how many of them are still to come of a file,
-- whether the stream has ended, its head and entries, and the bytes of a head, an entry or an end
-- that isn't complete
pub record Reading : Type 0 where
  pub read : ℕ
  pub left : ℕ
  pub ended : Bool
  pub head : Option SetHead
  pub entries : List IndexEntry
  pub pending : List ℕ

-- nothing is read
abbrev pub start : Reading
start = record { read = 0; left = 0; ended = false; head = None; entries = []; pending = [] }

-- a head is read, and nothing behind it
abbrev pub behind_head : ℕ → SetHead → Reading
behind_head read head = record start { read = read; head = Some head }

-- the path of the last entry; a path is above the text without bytes
abbrev pub last_path : List IndexEntry → List ℕ
last_path [] = []
last_path (entry ∷ []) = entry.path
last_path (entry ∷ next ∷ entries) = last_path (next ∷ entries)

-- The pending bytes were read as far as they go. What they were read as is taken in by `done`.
abbrev pub settled : {X : Type 0} → (X → Reading) → Reading → Result X Stop
    → Result Reading StreamFault
settled done reading (Ok x) = Ok (done x)
settled done reading (Err stops.More) = Ok reading
settled done reading (Err (stops.Wrong behind)) = Err (faults.Bad (reading.read - behind))
settled done reading (Err stops.Full) = Err (faults.TooMany max_entries)
settled done reading (Err stops.Memory) = Err faults.Memory

abbrev pub with_head : Reading → SetHead → Reading
with_head reading head = record reading { head = Some head; pending = [] }

-- an entry, whose file's bytes begin behind those read
abbrev pub entry_from : ℕ → Front → IndexEntry
entry_from read front = record {
  kind = front.kind;
  path = front.path;
  mtime = front.mtime;
  size = front.size;
  place = place_of front.kind read;
}

abbrev pub with_entry : Reading → Front → Reading
with_entry reading front = record reading {
  left = front.size;
  entries = reading.entries ++ entry_from reading.read front ∷ [];
  pending = [];
}

abbrev pub with_end : Reading → ℕ → Reading
with_end reading count = record reading { ended = true; pending = [] }

-- the bytes begin an end
abbrev pub begins_end : List ℕ → Bool
begins_end bytes = slice_index bytes 0 == 0x45

-- the pending bytes are read as the end, where they begin one, and else as an entry
abbrev pub settle_by : Bool → Reading → Result Reading StreamFault
settle_by true reading =
    settled (with_end reading) reading
    (read_alone (end_at (length reading.entries) reading.pending))
settle_by false reading =
    settled (with_entry reading) reading
    (read_alone (front_at (length reading.entries) (last_path reading.entries) reading.pending))

abbrev pub settle_rest : Reading → Result Reading StreamFault
settle_rest reading = settle_by (begins_end reading.pending) reading

abbrev pub settle_from : Option SetHead → Reading → Result Reading StreamFault
settle_from None reading =
    settled (with_head reading) reading (read_alone (head_at reading.pending))
settle_from (Some head) reading = settle_rest reading

-- the pending bytes are read
unfoldable pub settle : Reading → Result Reading StreamFault
settle reading = settle_from reading.head reading

-- one more pending byte
abbrev pub with_byte : Reading → ℕ → Reading
with_byte reading byte = record reading {
  read = reading.read + 1;
  pending = reading.pending ++ byte ∷ [];
}

-- so many bytes of a file
abbrev pub passed : ℕ → Reading → Reading
passed count reading = record reading { read = reading.read + count; left = reading.left - count }

-- the next byte of the stream
abbrev pub after_byte : Reading → ℕ → Result Reading StreamFault
after_byte reading byte =
    if reading.ended then Err (faults.Bad reading.read)
    else (if nat_lt 0 reading.left then Ok (passed 1 reading)
    else settle (with_byte reading byte))

-- what was read is read on
abbrev pub then_reads : Result Reading StreamFault → (Reading → Result Reading StreamFault)
    → Result Reading StreamFault
then_reads (Ok reading) next = next reading
then_reads (Err fault) next = Err fault

-- the next bytes of the stream
abbrev pub reads : Reading → List ℕ → Result Reading StreamFault
reads reading [] = Ok reading
reads reading (byte ∷ bytes) = then_reads (after_byte reading byte) (λ next. reads next bytes)

-- ---- what a call did

-- a fault is the one that reading gives, unless memory ran out
abbrev pub Faults : {Y : Type 0} → StreamFault → Result Y StreamFault → Type 0
Faults faults.Memory read = Unit {0}
Faults (faults.Bad offset) read = read ≡ Err (faults.Bad offset)
Faults (faults.TooMany limit) read = read ≡ Err (faults.TooMany limit)

-- what was read is what reading gives, unless memory ran out
abbrev pub FollowsReading : {T : Type 0} → Result Reading StreamFault → Result T StreamFault
    → Reading → Type 0
FollowsReading read (Ok _) new = read ≡ Ok new
FollowsReading read (Err fault) new = Faults fault read

-- so many bytes were taken, at least one
pub record Advances (old new : Reading) (bytes : List ℕ) (count : ℕ) : Type 0 where
  pub some : 0 < count
  pub within : count ≤ length bytes
  pub read : new.read ≡ old.read + count
  pub rest : reads old bytes ≡ reads new (drop count bytes)

abbrev pub FollowsFront : Reading → Reading → List ℕ → Result ℕ StreamFault → Type 0
FollowsFront old new bytes (Ok count) = Advances old new bytes count
FollowsFront old new bytes (Err fault) = Faults fault (reads old bytes)

-- a head that was read stays
abbrev pub KeepsHead : Option SetHead → Option SetHead → Type 0
KeepsHead None new = Unit {0}
KeepsHead (Some head) new = new ≡ Some head

-- behind a head and whole entries
abbrev pub between : SetHead → ℕ → List IndexEntry → Reading
between head read entries = record {
  read = read;
  left = 0;
  ended = false;
  head = Some head;
  entries = entries;
  pending = [];
}

-- behind a whole stream
abbrev pub at_end : SetHead → ℕ → List IndexEntry → Reading
at_end head read entries = record (between head read entries) { ended = true }

-- the pieces of a stream, one after the other
abbrev pub reads_all : Reading → List (List ℕ) → Result Reading StreamFault
reads_all reading [] = Ok reading
reads_all reading (piece ∷ pieces) =
    then_reads (reads reading piece) (λ next. reads_all next pieces)
