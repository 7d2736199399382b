use Rattle.std.proofs.Common.{◌≡◌, length, sym, ◌∙◌, rules}
use Rattle.chunk_mux.proofs.Packing.{pack_none}
use Rattle.chunk_mux.proofs.blocks.DataBlocks.push.Goals as goal

pub returns-clause-blocks : goal.returns-clause-blocks
returns-clause-blocks c =
    let none : length c.loop-rest.rest.now ≡ 0 = search rules in
    sym (pack_none c.loop-rest.self c.args.ssid.0 c.args.copy.0 c.loop-rest.at c.loop-rest.rest.now none) ∙ c.loop-rest.invariant.blocks
