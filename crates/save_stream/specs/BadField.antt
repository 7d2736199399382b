-- The fields of heads, entries and ends, one behind the other, and the first of them that isn't
-- allowed.
use Rattle.std.specs.Prelude.{◌≡◌, ◌≤◌, ◌<◌, ◌+◌, ◌↔◌, ◌⊎◌, ℕ, Bool, true, false, List, [], ◌∷◌}
use Rattle.std.specs.Prelude.{◌++◌, length, slice_index, Option, Some, None, Ok, IsSome}
use Rattle.byteorder.specs.Endian.{big_number}
use Rattle.room_base.specs.Numbers.{max_moment}
use Rattle.room_base.specs.Text.{IsName, IsPathText}
use Rattle.save_stream.specs.declared.entry.EntryKind.{EntryKind}
use Rattle.save_stream.specs.declared.entry.EntryKind.TheVariants as kinds
use Rattle.save_stream.specs.declared.entry.IndexEntry.{IndexEntry}
use Rattle.save_stream.specs.declared.head.SetHead.{SetHead}
use Rattle.save_stream.specs.Spelling.{max_entries, max_size, IsBelow}
use Rattle.save_stream.specs.Reading.{Reading, start, reads, kind_of, last_path}

-- ---- fields

-- What is allowed of fields that stand one behind the other, by the first of them that isn't: the
-- bytes before it, and its own.
abbrev pub FieldRules : Type 1
FieldRules = List ℕ → List ℕ → Type 0

-- no field
abbrev pub no_field : FieldRules
no_field before bad = ⊥

-- A field of so many bytes, whose value has to be allowed, and the fields behind it. It is the
-- first bad one, or the first bad one is behind it.
abbrev pub field : {V : Type 0} → ℕ → (List ℕ → V) → (V → Type 0) → (V → FieldRules) → FieldRules
field size value Allowed behind before bad =
    ((before ≡ []) × (length bad ≡ size) × ¬ (Allowed (value bad)))
    ⊎ ((bytes : List ℕ)
    × ((rest : List ℕ) × (before ≡ bytes ++ rest) × (length bytes ≡ size)
    × Allowed (value bytes) × behind (value bytes) rest bad))

abbrev pub byte : (ℕ → Type 0) → (ℕ → FieldRules) → FieldRules
byte Allowed behind = field 1 (λ bytes. slice_index bytes 0) Allowed behind

-- a number of so many bytes
abbrev pub number : ℕ → (ℕ → Type 0) → (ℕ → FieldRules) → FieldRules
number size Allowed behind = field size (big_number size) Allowed behind

-- so many bytes
abbrev pub text : ℕ → (List ℕ → Type 0) → FieldRules → FieldRules
text size Allowed behind = field size (λ bytes. bytes) Allowed (λ _. behind)

-- ---- the head

-- a name of least to most bytes, behind its length
abbrev pub name : ℕ → ℕ → FieldRules → FieldRules
name least most behind =
    byte (λ size. (least ≤ size) × (size ≤ most)) (λ size. text size IsName behind)

unfoldable pub names : FieldRules
names = name 1 64 (name 1 255 (name 0 64 (name 1 64 no_field)))

unfoldable pub head_fields : FieldRules
head_fields =
    byte (λ kind_byte. kind_byte ≡ 0x48) (λ _.
    number 8 (λ ssid. 1 ≤ ssid) (λ ssid.
    number 8 (λ base. base < ssid) (λ base.
    byte (λ level. (level ≤ 10) × ((base ≡ 0) ↔ (level ≡ 0))) (λ _.
    number 8 (λ saved. saved ≤ max_moment) (λ _.
    number 8 (λ browse. browse ≤ max_moment) (λ browse.
    number 8 (λ retain. (browse ≤ retain) × (retain ≤ max_moment)) (λ _. names)))))))

-- ---- an entry or the end

-- the fields of an entry behind its path, up to the bytes of its file
abbrev pub times : EntryKind → FieldRules
times kinds.File =
    number 8 (λ mtime. Unit {0}) (λ _. number 8 (λ size. size ≤ max_size) (λ _. no_field))
times kinds.Folder = number 8 (λ mtime. Unit {0}) (λ _. no_field)
times kinds.Gone = no_field

-- the fields behind the kind of an entry, where the last path was this one
unfoldable pub entry_fields : List ℕ → EntryKind → FieldRules
entry_fields last kind =
    number 2 (λ size. (0 < size) × (size ≤ 1024))
    (λ size. text size (λ path. IsPathText path × IsBelow last path) (times kind))

-- The fields behind the first byte of an entry or the end. There is room for the entry, else no
-- field of it is judged. The end has the number of entries.
abbrev pub fields_behind : ℕ → List ℕ → Option EntryKind → FieldRules
fields_behind count last None before bad = number 8 (λ n. n ≡ count) (λ _. no_field) before bad
fields_behind count last (Some kind) before bad =
    (count < max_entries) × entry_fields last kind before bad

-- a byte begins an entry of a kind, or the end
abbrev pub Begins : Option EntryKind → ℕ → Type 0
Begins None kind_byte = kind_byte ≡ 0x45
Begins (Some kind) kind_byte = Unit {0}

unfoldable pub item_fields : ℕ → List ℕ → FieldRules
item_fields count last =
    byte
    (λ kind_byte. Begins (kind_of kind_byte) kind_byte)
    (λ kind_byte. fields_behind count last (kind_of kind_byte))

-- ---- the stream

-- a byte that may not follow
abbrev pub nothing : FieldRules
nothing = byte (λ _. ⊥) (λ _. no_field)

-- the fields that may follow, behind a whole stream, before a head, and behind whole entries
abbrev pub next_fields : Bool → Option SetHead → List IndexEntry → FieldRules
next_fields true head entries = nothing
next_fields false None entries = head_fields
next_fields false (Some head) entries = item_fields (length entries) (last_path entries)

-- The first field of a stream that isn't allowed begins at this offset. Before it stands what is
-- read as whole heads, entries and ends with all bytes of their files, and behind that the fields
-- that are allowed.
pub record HasBadField (stream : List ℕ) (offset : ℕ) : Type 0 where
  pub whole : List ℕ
  pub reading : Reading
  pub before : List ℕ
  pub bad : List ℕ
  pub rest : List ℕ
  pub parts : stream ≡ whole ++ (before ++ (bad ++ rest))
  pub offset_is : offset ≡ length whole + length before
  pub read : reads start whole ≡ Ok reading
  pub idle : (reading.pending ≡ []) × (reading.left ≡ 0)
  pub first_bad : next_fields reading.ended reading.head reading.entries before bad

-- A stream begins one more entry than there may be, whose kind byte stands at this offset.
pub record HasEntryTooMany (stream : List ℕ) (offset : ℕ) : Type 0 where
  pub whole : List ℕ
  pub reading : Reading
  pub kind_byte : ℕ
  pub rest : List ℕ
  pub parts : stream ≡ whole ++ kind_byte ∷ rest
  pub offset_is : offset ≡ length whole
  pub read : reads start whole ≡ Ok reading
  pub idle : (reading.pending ≡ []) × (reading.left ≡ 0)
  pub going : (reading.ended ≡ false) × IsSome reading.head
  pub full : max_entries ≤ length reading.entries
  pub begins : IsSome (kind_of kind_byte)
