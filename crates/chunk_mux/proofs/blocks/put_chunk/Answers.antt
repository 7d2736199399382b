use Rattle.std.proofs.Common.{◌++◌, ◌+◌, ◌-◌, length, refl, arith}
use Rattle.std.proofs.lemmas.List.{length-append}
use Rattle.volume_block.specs.Chunks.{chunk_head}
use Rattle.chunk_mux.proofs.Written.{written_from}
use Rattle.chunk_mux.proofs.blocks.put_chunk.Goals as goal

pub returns : goal.returns
returns c =
    let head = chunk_head c.args.ssid.0 c.args.copy.0 c.args.offset (length c.args.piece.now) in
    written_from c.args.at (length c.args.bytes.now - c.args.at) (24 + length c.args.piece.now) (head ++ c.args.piece.now) c.args.bytes.now _
    c.write_chunk.new.free (omega (arith, c.requires.room)) (omega (arith, c.requires.room)) (length-append head c.args.piece.now) refl c.write_chunk.ensures
