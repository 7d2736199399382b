use Rattle.std.proofs.Common.{ap, sym, ◌∙◌, slice_set, List, ℕ}
use Rattle.volume_block.specs.Valid.{mark_text}
use Rattle.volume_block.proofs.Lengths.{closed_is_set}
use Rattle.chunk_mux.proofs.sealing.write_mark.Goals as goal

pub returns : goal.returns
returns c =
    ap (λ (block : List ℕ). slice_set block 0 0) c.encode_mark.ensures.text
    ∙ sym (closed_is_set (mark_text c.args.volid.0 c.args.mark c.args.count c.args.units))
