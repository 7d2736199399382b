use Rattle.std.proofs.Common.{sym}
use Rattle.chunk_mux.proofs.Filling.{as_many, all_allowed}
use Rattle.chunk_mux.proofs.blocks.DataBlocks.count.Goals as goal

pub returns-clause-count : goal.returns-clause-count
returns-clause-count c = sym (as_many c.self.inside c.args.self.now c.self.view_is c.self.invariant)

pub returns-clause-allowed : goal.returns-clause-allowed
returns-clause-allowed c = all_allowed c.self.inside c.args.self.now c.self.view_is c.self.invariant
