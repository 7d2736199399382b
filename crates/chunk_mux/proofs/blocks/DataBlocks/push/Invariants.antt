use Rattle.std.proofs.Common.{◌≡◌, ◌+◌, length}
use Rattle.chunk_mux.specs.Packing.{pack, Fits}
use Rattle.chunk_mux.proofs.blocks.DataBlocks.push.Given as goal

abbrev pub invariant-loop-rest : goal.invariant-loop-rest
invariant-loop-rest l = record {
  ends : l.at + length l.rest ≡ l.fn.offset + length l.fn.piece;
  room : Fits l.self (length l.rest);
  blocks : pack l.self l.ssid.0 l.copy.0 l.at l.rest ≡ pack l.fn.self l.ssid.0 l.copy.0 l.fn.offset l.fn.piece;
}

abbrev pub decreases-loop-rest : goal.decreases-loop-rest
decreases-loop-rest l = length l.rest
