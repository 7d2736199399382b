-- What the fields of data blocks hold.
use Rattle.std.specs.Prelude.{◌≡◌, ℕ, ◌+◌, ◌*◌, ◌≤◌, List, length, take, drop}
use Rattle.volume_block.specs.Chunks.{ChunkText}
use Rattle.volume_block.specs.Layout.{IsUnits, data_size}
use Rattle.chunk_mux.specs.Packing.{BufferView}
use Rattle.chunk_mux.specs.Text.{chunks_in, Hold}
use Rattle.chunk_mux.specs.declared.blocks.DataBlocks.TheInside.{Inside}

-- the bytes of a mark, 64 data blocks and a closed block
abbrev pub buffer_size : ℕ → ℕ
buffer_size units = 8192 + data_size units * 64

-- how much of each data block is used, of those that are begun
abbrev pub used_in : Inside → List ℕ
used_in inside = take inside.begun inside.used

-- the data blocks stand behind the mark
abbrev pub data_in : Inside → List ℕ
data_in inside = drop 4096 inside.bytes.items

-- the chunks of each data block that is begun
abbrev pub view_of : Inside → BufferView
view_of inside = record {
  units = inside.units;
  blocks = chunks_in inside.units (used_in inside) (data_in inside);
}

-- chunks fill what is used of the data blocks
pub record AreFilled (inside : Inside) : Type 0 where
  pub sized : IsUnits inside.units
  pub whole : length inside.bytes.items ≡ buffer_size inside.units
  pub places : length inside.used ≡ 64
  pub counted : inside.begun ≤ 64
  pub holds : (blocks : List (List ChunkText))
      × Hold inside.units blocks (used_in inside) (data_in inside)
