use Rattle.std.proofs.Common.{◌≡◌, ℕ, List, inl, inr, arith, rules}
use Rattle.volume_block.specs.Why.{IsPayload, AreChunksIn}
use Rattle.volume_block.specs.Chunks.{ChunkText}
use Rattle.volume_block.proofs.decode.block_in.Goals as goal

no_data : (kind units volid : ℕ) (payload : List ℕ) → kind ≡ 0x44 → ((chunks : List ChunkText) → ¬ AreChunksIn units payload chunks)
    → ¬ IsPayload kind units volid payload
no_data kind units volid payload is none (inl label) = omega (arith, is, label.0)
no_data kind units volid payload is none (inr (inl mark)) = omega (arith, is, mark.0)
no_data kind units volid payload is none (inr (inr chunks)) = none chunks.1.0 chunks.1.1

pub returns-in-68 : goal.returns-in-68
returns-in-68 c = let are = c.are_chunks.ensures c.args.units (c.requires.fits c.in-68.is) in search rules

pub returns-in_default : goal.returns-in_default
returns-in_default c =
    no_data c.args.kind c.args.units c.args.volid.0 c.args.payload.now c.in-68.is
    (λ chunks are. let yes = (c.are_chunks.ensures c.args.units (c.requires.fits c.in-68.is)).1 (chunks, are) in search rules)
