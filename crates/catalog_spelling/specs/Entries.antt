-- Indexes of save sets as bytes.
use Rattle.std.specs.Prelude.{ℕ, ◌<◌, ◌^◌, Bool, true, false, List, [], ◌∷◌, ◌++◌, Ok}
use Rattle.save_stream.specs.Spelling.{long_text}
use Rattle.save_stream.specs.declared.entry.EntryKind.{EntryKind}
use Rattle.save_stream.specs.declared.entry.EntryKind.TheVariants as kinds
use Rattle.save_stream.specs.declared.entry.IndexEntry.{IndexEntry}
use Rattle.catalog_spelling.specs.Reading.{Part, ◌>>=◌}
use Rattle.catalog_spelling.specs.Fields.{
  byte_text,
  number_bytes,
  number_if_at,
  number_within_at,
  code_at,
  path_at,
}
use Rattle.catalog_spelling.specs.Lists.{list_at, list_text, last_item, by_item}

-- the bytes that kinds begin with: `F`, `D` and `G`
abbrev pub entry_kinds : List (ℕ × EntryKind)
entry_kinds = (0x46, kinds.File) ∷ (0x44, kinds.Folder) ∷ (0x47, kinds.Gone) ∷ []

abbrev pub entry_byte : EntryKind → ℕ
entry_byte kinds.File = 0x46
entry_byte kinds.Folder = 0x44
entry_byte kinds.Gone = 0x47

-- an entry of the kind has an mtime that isn't 0
abbrev pub has_mtime : EntryKind → Bool
has_mtime kinds.File = true
has_mtime kinds.Folder = true
has_mtime kinds.Gone = false

-- an entry of the kind has a size and a place
abbrev pub has_bytes : EntryKind → Bool
has_bytes kinds.File = true
has_bytes kinds.Folder = false
has_bytes kinds.Gone = false

-- the path of the last of these entries, and the text below each path where there is none
abbrev pub low_path : List IndexEntry → List ℕ
low_path before = by_item [] (λ entry. entry.path) (last_item before)

abbrev pub entry_text : IndexEntry → List ℕ
entry_text entry =
    byte_text (entry_byte entry.kind) ++ long_text entry.path ++ number_bytes 8 entry.mtime
    ++ number_bytes 8 entry.size ++ number_bytes 8 entry.place

-- an entry whose path stands above those of these entries
unfoldable pub entry_at : List IndexEntry → List ℕ → Part IndexEntry
entry_at before bytes = do
  kind ← code_at entry_kinds bytes
  path ← path_at (low_path before) kind.1
  mtime ← number_if_at (has_mtime kind.0) path.1
  size ← number_if_at (has_bytes kind.0) mtime.1
  place ← number_if_at (has_bytes kind.0) size.1
  Ok (
    record {
      kind = kind.0;
      path = path.0;
      mtime = mtime.0;
      size = size.0;
      place = place.0;
    },
    place.1,
  )

abbrev pub index_text : List IndexEntry → List ℕ
index_text index = list_text (number_bytes 4) entry_text index

-- an index of least to most entries
abbrev pub index_at : ℕ → ℕ → List ℕ → Part (List IndexEntry)
index_at least most bytes = list_at (number_within_at 4 least most) entry_at bytes

-- the numbers of an entry are of eight bytes
pub record FitsEntry (entry : IndexEntry) : Type 0 where
  pub mtime : entry.mtime < 2 ^ 64
  pub size : entry.size < 2 ^ 64
  pub place : entry.place < 2 ^ 64
