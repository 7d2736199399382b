use Rattle.std.proofs.Common.{◌+◌, ◌-◌, List, ℕ, length, refl, ap, ◌∙◌}
use Rattle.volume_block.specs.Chunks.{chunk_head}
use Rattle.volume_block.proofs.Whole.{placed}
use Rattle.chunk_mux.proofs.blocks.write_chunk.Goals as goal
use borrow.Rule.Slice.PartMut.{put_mid}

pub returns : goal.returns
returns c =
    let piece = c.args.piece.now in
    ap (λ (text : List ℕ). put_mid 24 (24 + length piece - 24) c.write_chunk_head.new.into text) c.copy_from_slice.ensures.after
    ∙ placed 24 (length piece) c.args.free.now (chunk_head c.args.ssid.0 c.args.copy.0 c.args.offset (length piece)) piece c.write_chunk_head.new.into refl refl c.write_chunk_head.ensures
