use Rattle.std.proofs.Common.{ap, [], arith}
use Rattle.chunk_mux.specs.Text.{chunks_in}
use Rattle.chunk_mux.specs.Packing.{empty}
use Rattle.chunk_mux.proofs.Filling.{same_units}
use Rattle.chunk_mux.proofs.blocks.DataBlocks.clear.Goals as goal

pub invariant_of-self : goal.invariant_of-self
invariant_of-self c = record {
  sized = c.self.invariant.sized;
  whole = c.self.invariant.whole;
  places = c.self.invariant.places;
  counted = omega arith;
  holds = ([], tt);
}

pub returns : goal.returns
unfolding chunks_in
returns c = ap empty (same_units c.self.inside c.args.self.now c.self.view_is)
