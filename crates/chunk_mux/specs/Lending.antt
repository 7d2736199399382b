-- What blocks and a buffer are once what they lend has come back.
use Rattle.std.specs.Prelude.{◌≡◌, ⊤}
use mathlib.Core.Option.{none}
use Rattle.std.specs.Borrow.{MutBor, Fml, follows_so}
use Rattle.chunk_mux.specs.Packing.{BufferView}
use Rattle.chunk_mux.specs.contracts.blocks.DataBlocks.{the_row as blocks_row}
use Rattle.chunk_mux.specs.contracts.buffer.MuxBuffer.{the_row as buffer_row}

-- the blocks are as before
abbrev pub BlocksStay : MutBor (BufferView) → Fml
BlocksStay blocks =
    follows_so blocks_row blocks_row blocks.ghost_name none (λ _ _. ⊤) (λ after. after ≡ blocks.now)

-- the buffer is as before
abbrev pub StaysAsItWas : MutBor (BufferView) → Fml
StaysAsItWas buffer =
    follows_so buffer_row buffer_row buffer.ghost_name none (λ _ _. ⊤) (λ after. after ≡ buffer.now)
