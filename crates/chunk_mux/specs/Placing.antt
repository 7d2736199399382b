-- Chunks that stand on volumes, as a tiling of them sees them.
use Rattle.std.specs.Prelude.{◌≡◌, ℕ, List, length, map}
use Rattle.std.specs.List.{AllByRecursion}
use Rattle.volume_block.specs.Standing.{Standing}
use Rattle.chunk_mux.specs.declared.tiling.Placed.{Placed}

abbrev pub placed_of : Standing → Placed
placed_of one = record {
  volid = record { 0 = one.volid };
  block = one.block;
  mark = one.mark;
  offset = one.chunk.offset;
  length = length one.chunk.bytes;
  start = one.start;
}

abbrev pub places_of : List Standing → List Placed
places_of run = map placed_of run

-- the chunks are of this copy of this save set
abbrev pub AreOfCopy : ℕ → ℕ → List Standing → Type 0
AreOfCopy ssid copy run =
    AllByRecursion (λ (one : Standing). (one.chunk.ssid ≡ ssid) × (one.chunk.copy ≡ copy)) run
