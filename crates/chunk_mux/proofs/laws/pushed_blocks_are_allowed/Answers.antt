use Rattle.chunk_mux.proofs.Allowing.{packed_allowed}
use Rattle.chunk_mux.proofs.laws.pushed_blocks_are_allowed.Goals as goal

pub returns : goal.returns
returns c = packed_allowed
