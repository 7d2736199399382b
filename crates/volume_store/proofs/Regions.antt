-- A region, and the same with its mark open.
use Rattle.std.proofs.Common.{◌≡◌, ℕ, ◌+◌, ◌<◌, List, [], ◌∷◌, ◌++◌, length, drop, refl, ap, ◌∙◌, arith}
use Rattle.std.proofs.lemmas.List.{length-append}
use Rattle.volume_block.specs.Chunks.{ChunkText}
use Rattle.volume_block.specs.Layout.{closed, block_text}
use Rattle.volume_block.specs.Valid.{mark_text}
use Rattle.volume_block.specs.Region.{IsSealed, blocks_text, closed_block}
use Rattle.volume_block.proofs.Lengths.{length-closed_block}
use Rattle.volume_store.specs.Writes.{opened}

pub opened_drop : (region : List ℕ) → 0 < length region → opened region ≡ 0x46 ∷ drop 1 region
opened_drop [] some = absurd (omega (arith, some))
opened_drop (kind ∷ rest) some = refl

-- a region isn't empty
pub sealed_some : (volid mark units : ℕ) (blocks : List (List ChunkText)) (region : List ℕ)
    → IsSealed volid mark units blocks region → 0 < length region
sealed_some volid mark units blocks region sealed =
    rw sealed.text (omega (
      arith,
      length-append (closed (mark_text volid mark (length blocks) units) ++ blocks_text volid (mark + 1) units blocks) closed_block,
      length-closed_block,
    ))

-- an open mark in front of the rest of a region
pub opened_mark : (volid mark count units : ℕ) (blocks rest : List ℕ)
    → opened (closed (mark_text volid mark count units) ++ blocks ++ rest) ≡ mark_text volid mark count units ++ blocks ++ rest
unfolding block_text
opened_mark volid mark count units blocks rest = refl

pub opened_region : (volid mark units : ℕ) (blocks : List (List ChunkText)) (region : List ℕ) → IsSealed volid mark units blocks region
    → opened region ≡ mark_text volid mark (length blocks) units ++ blocks_text volid (mark + 1) units blocks ++ closed_block
opened_region volid mark units blocks region sealed =
    ap opened sealed.text ∙ opened_mark volid mark (length blocks) units (blocks_text volid (mark + 1) units blocks) closed_block
