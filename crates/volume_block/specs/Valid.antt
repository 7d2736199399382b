-- What a valid block is: it is spelled as its fields say.
use Rattle.std.specs.Prelude.{◌≡◌, ◌≢◌, ℕ, ◌+◌, ◌-◌, ◌*◌, ◌≤◌, ◌<◌, ◌^◌, List, [], ◌∷◌, ◌++◌}
use Rattle.std.specs.Prelude.{length}
use Rattle.std.specs.Prelude.{take, drop, replicate, All}
use Rattle.byteorder.specs.Endian.{big_bytes}
use Rattle.room_base.specs.Text.{IsName}
use Rattle.room_base.specs.Numbers.{max_moment}
use Rattle.volume_block.specs.Layout.{IsUnits, data_size, block_text}
use Rattle.volume_block.specs.Chunks.{ChunkText, IsChunk, chunks_text}
use Rattle.volume_block.specs.declared.label.Label.{Label}
use Rattle.volume_block.specs.declared.block.Block.{Block}
use Rattle.volume_block.specs.declared.block.Block.TheVariants as kinds

-- a volume's number in a block
abbrev pub IsVolid : ℕ → Type 0
IsVolid volid = (1 ≤ volid) × (volid < 2 ^ 64)

-- a block's number, of a block behind the label
abbrev pub IsNumber : ℕ → Type 0
IsNumber number = (1 ≤ number) × (number < 2 ^ 64)

-- the volumes with numbers from 2^63 on are raw
abbrev pub IsRaw : Label → Type 0
IsRaw label = 2 ^ 63 ≤ label.volid.0

-- a volume of so many units has at least a label, and a mark with the most data blocks and the
-- closed block behind them
abbrev pub least_capacity : ℕ → ℕ
least_capacity units = 64 * units + 3

-- the fields are in their ranges
pub record IsLabel (label : Label) : Type 0 where
  pub volid : IsVolid label.volid.0
  pub cart : (1 ≤ label.cart.0) × (label.cart.0 ≤ 256)
  pub units : IsUnits label.units
  pub capacity : (least_capacity label.units ≤ label.capacity) × (label.capacity ≤ 1000000)
  pub made : label.made.0 ≤ max_moment
  pub pool_length : (1 ≤ label.pool_length) × (label.pool_length ≤ 64)
  pub room : length label.pool ≡ 64
  pub pool : IsName (take label.pool_length label.pool)
  pub zeros : drop label.pool_length label.pool ≡ replicate (64 - label.pool_length) 0

-- the fields of a label that is read are in their ranges
abbrev pub HasRanges : Label → Type 0
HasRanges label =
    ((1 ≤ label.cart.0) × (label.cart.0 ≤ 256))
    × ((least_capacity label.units ≤ label.capacity) × (label.capacity ≤ 1000000))
    × (label.made.0 ≤ max_moment) × (1 ≤ label.pool_length)
    × IsName (take label.pool_length label.pool)

-- a label's payload up to the length of its pool
abbrev pub label_fields : Label → List ℕ
label_fields label =
    big_bytes 4 label.cart.0 ++ big_bytes 4 label.capacity ++ big_bytes 8 label.made.0
    ++ (label.pool_length ∷ [])

-- a label's payload
abbrev pub label_payload : Label → List ℕ
label_payload label = label_fields label ++ take label.pool_length label.pool

-- how a label is spelled
abbrev pub label_text : Label → List ℕ
label_text label = block_text 0x4C label.units 4096 label.volid.0 0 (label_payload label)

-- a mark counts from 1 to 64 data blocks
abbrev pub IsCount : ℕ → Type 0
IsCount count = (1 ≤ count) × (count ≤ 64)

-- how a mark is spelled
abbrev pub mark_text : ℕ → ℕ → ℕ → ℕ → List ℕ
mark_text volid number count units = block_text 0x46 units 4096 volid number (big_bytes 4 count)

-- how a data block of these chunks is spelled
abbrev pub data_text : ℕ → ℕ → ℕ → List ChunkText → List ℕ
data_text volid number units chunks =
    block_text 0x44 units (data_size units) volid number (chunks_text chunks)

-- the chunks that a data block of so many units may have
pub record AreChunks (units : ℕ) (chunks : List ChunkText) : Type 0 where
  pub some : chunks ≢ []
  pub fit : 56 + length (chunks_text chunks) ≤ data_size units
  pub each : All IsChunk chunks

-- the chunks stand in their place in the bytes of a block of so many units, and fill the first
-- `used` bytes of the payload
pub record FillPayload (units : ℕ) (chunks : List ChunkText) (used : ℕ) (bytes : List ℕ) :
    Type 0 where
  pub of_units : IsUnits units
  pub sized : length bytes ≡ data_size units
  pub allowed : AreChunks units chunks
  pub text : take used (drop 56 bytes) ≡ chunks_text chunks

-- the bytes are a data block of this volume, number and units, with these chunks
pub record HoldsChunks (bytes : List ℕ) (volid number units : ℕ) (chunks : List ChunkText) :
    Type 0 where
  pub of_volume : IsVolid volid
  pub placed : IsNumber number
  pub of_units : IsUnits units
  pub allowed : AreChunks units chunks
  pub text : bytes ≡ data_text volid number units chunks

-- the bytes of a block
abbrev pub size_of : Block → ℕ
size_of (kinds.Label label) = 4096
size_of (kinds.Mark count units) = 4096
size_of (kinds.Data used units) = data_size units

-- The bytes are this block, of this volume and number.
abbrev pub ValidBlock : List ℕ → ℕ → ℕ → Block → Type 0
ValidBlock bytes volid number (kinds.Label label) =
    IsLabel label × (volid ≡ label.volid.0) × (number ≡ 0) × (bytes ≡ label_text label)
ValidBlock bytes volid number (kinds.Mark count units) =
    IsVolid volid × IsNumber number × IsUnits units × IsCount count
    × (bytes ≡ mark_text volid number count units)
ValidBlock bytes volid number (kinds.Data used units) =
    (chunks : List ChunkText) × HoldsChunks bytes volid number units chunks
    × (used ≡ length (chunks_text chunks))
