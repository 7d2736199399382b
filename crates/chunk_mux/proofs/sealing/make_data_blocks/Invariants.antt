use Rattle.std.proofs.Common.{◌≡◌, take}
use Rattle.chunk_mux.specs.Sealing.{seal_first}
use Rattle.chunk_mux.proofs.sealing.make_data_blocks.Given as goal

abbrev pub invariant-loop-i : goal.invariant-loop-i
invariant-loop-i l = l.blocks ≡ seal_first l.volid.0 l.first l.units (take l.i l.used) l.initial.blocks
