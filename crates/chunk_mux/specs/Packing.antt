-- How pieces of streams are packed into data blocks. `size` is how many bytes a block's payload
-- has.
use Rattle.std.specs.Prelude.{ℕ, zero, suc, ◌+◌, ◌-◌, ◌*◌, ◌/◌, ◌≤◌, List, [], ◌∷◌, ◌++◌, length}
use Rattle.std.specs.Prelude.{take, drop, ◌==◌, if◌then◌else◌}
use Rattle.volume_block.specs.Chunks.{ChunkText, chunks_text}
use Rattle.volume_block.specs.Layout.{data_size}

-- the payload of a data block of so many units
abbrev pub payload_size : ℕ → ℕ
payload_size units = data_size units - 56

-- the most chunks of 64 data blocks of so many units: each takes 25 bytes at least
abbrev pub most_chunks : ℕ → ℕ
most_chunks units = 64 * (payload_size units / 25)

-- the most bytes of a chunk in a block of its own: 24 bytes stand before them
abbrev pub chunk_size : ℕ → ℕ
chunk_size size = size - 24

-- the most bytes of a chunk behind these, which is 0 where fewer than 25 bytes are free
abbrev pub room_behind : ℕ → List ChunkText → ℕ
room_behind size chunks = chunk_size (size - length (chunks_text chunks))

-- the same in the last of these blocks
abbrev pub room_in : ℕ → List (List ChunkText) → ℕ
room_in size [] = 0
room_in size (last ∷ []) = room_behind size last
room_in size (block ∷ next ∷ more) = room_in size (next ∷ more)

-- the longest piece for which there is room behind these blocks, where `most` may be begun
abbrev pub fits_behind : ℕ → ℕ → List (List ChunkText) → ℕ
fits_behind size most blocks = room_in size blocks + chunk_size size * (most - length blocks)

-- What a buffer holds: data blocks of so many units of 4,096 bytes, of which these are begun, each
-- with its chunks.
pub record BufferView : Type 0 where
  pub units : ℕ
  pub blocks : List (List ChunkText)

-- a buffer without chunks
abbrev pub empty : ℕ → BufferView
empty units = record { units = units; blocks = [] }

-- the longest piece for which there is room in a buffer of 64 data blocks
abbrev pub fits_in : BufferView → ℕ
fits_in buffer = fits_behind (payload_size buffer.units) 64 buffer.blocks

-- there is room for a piece of so many bytes
abbrev pub Fits : BufferView → ℕ → Type 0
Fits buffer count = count ≤ fits_in buffer

-- more chunks in the last of these blocks
abbrev pub add_last : List (List ChunkText) → List ChunkText → List (List ChunkText)
add_last [] more = []
add_last (last ∷ []) more = (last ++ more) ∷ []
add_last (block ∷ next ∷ blocks) more = block ∷ add_last (next ∷ blocks) more

-- bytes as a chunk; no bytes make none
abbrev pub chunk_of : ℕ → ℕ → ℕ → List ℕ → List ChunkText
chunk_of ssid copy offset [] = []
chunk_of ssid copy offset (byte ∷ more) =
    record { ssid = ssid; copy = copy; offset = offset; bytes = byte ∷ more } ∷ []

-- Bytes in new blocks: each has one chunk of `most` bytes, or of those that are left. There are at
-- most as many blocks as the second number says.
abbrev pub new_blocks : ℕ → ℕ → ℕ → ℕ → ℕ → List ℕ → List (List ChunkText)
new_blocks most zero ssid copy offset bytes = []
new_blocks most (suc more) ssid copy offset [] = []
new_blocks most (suc more) ssid copy offset (byte ∷ bytes) =
    chunk_of ssid copy offset (take most (byte ∷ bytes))
    ∷ new_blocks most more ssid copy (offset + most) (drop most (byte ∷ bytes))

-- The blocks once a piece is put behind them: its first bytes are a chunk in the last block, as
-- many as have room there, and the others are in new blocks.
abbrev pub packed : ℕ → List (List ChunkText) → ℕ → ℕ → ℕ → List ℕ → List (List ChunkText)
packed size [] ssid copy offset piece =
    new_blocks (chunk_size size) (length piece) ssid copy offset piece
packed size (last ∷ []) ssid copy offset piece =
    let room = room_behind size last in
    (last ++ chunk_of ssid copy offset (take room piece))
    ∷ new_blocks (chunk_size size) (length piece) ssid copy (offset + room) (drop room piece)
packed size (block ∷ next ∷ more) ssid copy offset piece =
    block ∷ packed size (next ∷ more) ssid copy offset piece

-- a buffer after a push
unfoldable pub pack : BufferView → ℕ → ℕ → ℕ → List ℕ → BufferView
pack buffer ssid copy offset piece = record buffer {
  blocks = packed (payload_size buffer.units) buffer.blocks ssid copy offset piece;
}

-- The first data block that a piece goes into, counted from 0. That of a piece without bytes is the
-- last block.
abbrev pub first_in : ℕ → List (List ChunkText) → List ℕ → ℕ
first_in size blocks [] = length blocks - 1
first_in size blocks (byte ∷ more) =
    if room_in size blocks == 0 then length blocks else length blocks - 1

-- the same in a buffer
abbrev pub first_used : BufferView → List ℕ → ℕ
first_used buffer piece = first_in (payload_size buffer.units) buffer.blocks piece
