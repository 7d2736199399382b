-- What a record of a save set has of its stream, and what a reader at the stream's end has read.
use Rattle.std.specs.Prelude.{◌≡◌, List, length, map, drop, ℕ, Some}
use Rattle.sha2.specs.Sha256.{sha256}
use Rattle.save_stream.specs.declared.entry.IndexEntry.{IndexEntry}
use Rattle.save_stream.specs.declared.head.SetHead.{SetHead}
use Rattle.save_stream.specs.Spelling.{Saved, StreamText, head_text, index_of, file_bytes}
use Rattle.save_stream.specs.Reading.{Reading}

-- the values of the head, how many entries there are, how many bytes the stream has, and the digest
-- of those behind its head
pub record Fields : Type 0 where
  pub head : SetHead
  pub files : ℕ
  pub bytes : ℕ
  pub digest : List ℕ

-- the fields of a text with this head and these entries
abbrev pub fields_of : List ℕ → SetHead → List Saved → Fields
fields_of text head entries = record {
  head = head;
  files = length entries;
  bytes = length text;
  digest = sha256 (drop (length (head_text head)) text);
}

-- a text is a whole stream with these fields
abbrev pub StreamFields : List ℕ → Fields → Type 0
StreamFields text fields =
    (head : SetHead)
    × ((entries : List Saved) × StreamText text head entries
    × (fields ≡ fields_of text head entries))

-- a text is a whole stream with this index
abbrev pub StreamIndex : List ℕ → List IndexEntry → Type 0
StreamIndex text index =
    (head : SetHead)
    × ((entries : List Saved) × StreamText text head entries × (index ≡ index_of head entries))

-- entries are the index of some whole stream
abbrev pub IsIndex : List IndexEntry → Type 0
IsIndex entries = (text : List ℕ) × StreamIndex text entries

-- the fields that a reader has read, of a stream with this head and these bytes behind it
abbrev pub fields_read : SetHead → List ℕ → Reading → Fields
fields_read head body reading = record {
  head = head;
  files = length reading.entries;
  bytes = reading.read;
  digest = sha256 body;
}

-- A reader has read a text to its end: it has the fields and the index of this head and these
-- entries, and by the index the bytes of each file.
pub record HasRead (text : List ℕ) (head : SetHead) (entries : List Saved)
    (reading : Reading) : Type 0 where
  pub spelled : StreamText text head entries
  pub head_is : reading.head ≡ Some head
  pub fields_are : fields_read head (drop (length (head_text head)) text) reading
      ≡ fields_of text head entries
  pub index_is : reading.entries ≡ index_of head entries
  pub files_are : map (file_bytes text) reading.entries ≡ map (λ entry. entry.bytes) entries
