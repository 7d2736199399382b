-- What a buffer holds.
use Rattle.std.specs.Prelude.{◌≡◌, ℕ, ◌≤◌, length}
use Rattle.volume_block.specs.Chunks.{all_chunks}
use Rattle.chunk_mux.specs.Packing.{BufferView, most_chunks}
use Rattle.chunk_mux.specs.Pushes.{has_set}
use Rattle.chunk_mux.specs.Ssids.{has_number}
use Rattle.chunk_mux.specs.declared.buffer.MuxBuffer.TheInside.{Inside}

-- the chunks of each data block that is begun
abbrev pub view_of : Inside → BufferView
view_of inside = inside.blocks

-- The save sets are those that have a chunk, each once. There is room for as many as the data
-- blocks can have chunks.
pub record IsBuffer (inside : Inside) : Type 0 where
  pub exact : (ssid : ℕ)
      → has_number ssid inside.ssids.numbers ≡ has_set ssid (all_chunks inside.blocks.blocks)
  pub few : length inside.ssids.numbers ≤ length (all_chunks inside.blocks.blocks)
  pub room : most_chunks inside.blocks.units ≤ inside.ssids.most
