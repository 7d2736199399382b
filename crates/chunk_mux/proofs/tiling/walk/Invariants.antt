use Rattle.std.proofs.Common.{◌≡◌, ◌≤◌, ◌^◌, drop}
use Rattle.chunk_mux.specs.Tiles.{tiling_from}
use Rattle.chunk_mux.proofs.tiling.walk.Given as goal

abbrev pub invariant-loop-chunk : goal.invariant-loop-chunk
invariant-loop-chunk l = record {
  low : l.place ≤ 2 ^ 36;
  rest : tiling_from l.place (drop l.chunk-index l.chunks) ≡ tiling_from 0 l.chunks;
}
