-- Chunks: pieces of save sets' streams, as a data block holds them.
use Rattle.std.specs.Prelude.{◌≡◌, ℕ, ◌+◌, ◌≤◌, ◌<◌, ◌^◌, List, [], ◌∷◌, ◌++◌, length, drop}
use Rattle.std.specs.List.{flat_map}
use Rattle.byteorder.specs.Endian.{big_bytes, big_number}

-- bytes of a stream, from an offset on
pub record ChunkText : Type 0 where
  pub ssid : ℕ
  pub copy : ℕ
  pub offset : ℕ
  pub bytes : List ℕ

-- the fields are in their ranges
pub record IsChunk (chunk : ChunkText) : Type 0 where
  pub ssid : (1 ≤ chunk.ssid) × (chunk.ssid < 2 ^ 64)
  pub copy : (1 ≤ chunk.copy) × (chunk.copy < 2 ^ 32)
  pub some : 1 ≤ length chunk.bytes
  pub ends : chunk.offset + length chunk.bytes ≤ 2 ^ 36

-- the bytes of a chunk before those of its stream, of which there are `count`
abbrev pub chunk_head : ℕ → ℕ → ℕ → ℕ → List ℕ
chunk_head ssid copy offset count =
    big_bytes 8 ssid ++ big_bytes 4 copy ++ big_bytes 8 offset ++ big_bytes 4 count

-- how a chunk is spelled
abbrev pub chunk_text : ChunkText → List ℕ
chunk_text chunk = chunk_head chunk.ssid chunk.copy chunk.offset (length chunk.bytes) ++ chunk.bytes

-- the fields of a chunk at the front of these bytes
abbrev pub ssid_in : List ℕ → ℕ
ssid_in text = big_number 8 text

abbrev pub copy_in : List ℕ → ℕ
copy_in text = big_number 4 (drop 8 text)

abbrev pub offset_in : List ℕ → ℕ
offset_in text = big_number 8 (drop 12 text)

abbrev pub count_in : List ℕ → ℕ
count_in text = big_number 4 (drop 20 text)

-- this chunk is at the front of the bytes, and takes so many of them
pub record IsFirstChunk (text : List ℕ) (size : ℕ) (chunk : ChunkText) : Type 0 where
  pub allowed : IsChunk chunk
  pub sized : size ≡ 24 + length chunk.bytes
  pub within : size ≤ length text
  pub spelled : text ≡ chunk_text chunk ++ drop size text

-- how chunks are spelled, one behind the other
abbrev pub chunks_text : List ChunkText → List ℕ
chunks_text chunks = flat_map chunk_text chunks

-- the chunks of several blocks, in order
abbrev pub all_chunks : List (List ChunkText) → List ChunkText
all_chunks [] = []
all_chunks (chunks ∷ blocks) = chunks ++ all_chunks blocks

-- The chunks, in their order, are those of one copy from this offset on, and join to these bytes.
abbrev pub JoinFrom : ℕ → ℕ → ℕ → List ChunkText → List ℕ → Type 0
JoinFrom ssid copy offset [] bytes = bytes ≡ []
JoinFrom ssid copy offset (chunk ∷ chunks) bytes =
    (chunk.ssid ≡ ssid) × (chunk.copy ≡ copy) × (chunk.offset ≡ offset)
    × ((rest : List ℕ) × (bytes ≡ chunk.bytes ++ rest)
    × JoinFrom ssid copy (offset + length chunk.bytes) chunks rest)

-- the bytes of chunks, in their order
abbrev pub joined : List ChunkText → List ℕ
joined chunks = flat_map (λ (chunk : ChunkText). chunk.bytes) chunks
