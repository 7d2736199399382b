-- How long blocks and regions are, and what closing a block changes.
use Rattle.std.proofs.Common.{◌≡◌, ℕ, suc, ◌+◌, ◌-◌, ◌*◌, ◌≤◌, List, [], ◌∷◌, ◌++◌, length, take, drop, replicate, slice_index, slice_set, refl, ap, ◌∙◌, arith}
use Rattle.std.proofs.lemmas.List.{length-append, length-take, length-replicate}
use Rattle.sha2.specs.Sha256.{sha256}
use Rattle.sha2.proofs.Facts256.{length-sha256}
use Rattle.volume_block.specs.Chunks.{ChunkText, chunk_head, chunk_text, chunks_text}
use Rattle.volume_block.specs.Layout.{data_size, head_text, padded_payload, block_text, closed}
use Rattle.volume_block.specs.Region.{closed_block, blocks_text, AreBlocks, IsSealed}
use Rattle.volume_block.specs.Valid.{IsLabel, HoldsChunks, ValidBlock, size_of, label_fields, label_payload, label_text, mark_text, data_text}
use Rattle.volume_block.specs.declared.label.Label.{Label}
use Rattle.volume_block.specs.declared.block.Block.{Block}
use Rattle.volume_block.specs.declared.block.Block.TheVariants as kinds

-- ---- a block

pub length-head_text : (kind units used volid number : ℕ) → length (head_text kind units used volid number) ≡ 24
length-head_text kind units used volid number = refl

length-padded : (size : ℕ) (payload : List ℕ) → 56 + length payload ≤ size → length (padded_payload size payload) ≡ size - 56
length-padded size payload fits =
    length-append payload (replicate (size - 56 - length payload) 0)
    ∙ omega (arith, length-replicate {A = ℕ} (size - 56 - length payload) 0)

pub length-block_text : (kind units size volid number : ℕ) (payload : List ℕ) → 56 + length payload ≤ size
    → length (block_text kind units size volid number payload) ≡ size
unfolding block_text
length-block_text kind units size volid number payload fits =
    let head = head_text kind units (length payload) volid number in
    let digest = sha256 (head ++ padded_payload size payload) in
    length-append (head ++ digest) (padded_payload size payload)
    ∙ omega (arith, length-append head digest, length-head_text kind units (length payload) volid number, length-sha256 (head ++ padded_payload size payload), length-padded size payload fits)

pub kind-block_text : (kind units size volid number : ℕ) (payload : List ℕ) → slice_index (block_text kind units size volid number payload) 0 ≡ kind
unfolding block_text
kind-block_text kind units size volid number payload = refl

-- ---- a closed block

pub length-closed : (bytes : List ℕ) → length (closed bytes) ≡ length bytes
length-closed [] = refl
length-closed (kind ∷ rest) = refl

-- closing changes the kind byte alone
pub drop-closed : (count : ℕ) (bytes : List ℕ) → drop (suc count) (closed bytes) ≡ drop (suc count) bytes
drop-closed count [] = refl
drop-closed count (kind ∷ rest) = refl

pub closed_is_set : (bytes : List ℕ) → closed bytes ≡ slice_set bytes 0 0
closed_is_set [] = refl
closed_is_set (kind ∷ rest) = refl

-- writing the kind byte opens a block again
pub opened : (bytes : List ℕ) → slice_set (closed bytes) 0 (slice_index bytes 0) ≡ bytes
opened [] = refl
opened (kind ∷ rest) = refl

pub length-closed_block : length closed_block ≡ 4096
length-closed_block = length-replicate {A = ℕ} 4096 0

-- ---- each kind

pub length-label_text : (label : Label) → IsLabel label → length (label_text label) ≡ 4096
length-label_text label allowed =
    length-block_text 0x4C label.units 4096 label.volid.0 0 (label_payload label)
    (omega (arith, length-append (label_fields label) (take label.pool_length label.pool), length-take label.pool_length label.pool, allowed.pool_length.1))

pub length-mark_text : (volid number count units : ℕ) → length (mark_text volid number count units) ≡ 4096
length-mark_text volid number count units = length-block_text 0x46 units 4096 volid number _ (omega arith)

pub length-data_text : (volid number units : ℕ) (chunks : List ChunkText) → 56 + length (chunks_text chunks) ≤ data_size units
    → length (data_text volid number units chunks) ≡ data_size units
length-data_text volid number units chunks fits = length-block_text 0x44 units (data_size units) volid number (chunks_text chunks) fits

pub length-held : (bytes : List ℕ) (volid number units : ℕ) (chunks : List ChunkText) → HoldsChunks bytes volid number units chunks
    → length bytes ≡ data_size units
length-held bytes volid number units chunks held = ap length held.text ∙ length-data_text volid number units chunks held.allowed.fit

pub length-valid : (bytes : List ℕ) (volid number : ℕ) (block : Block) → ValidBlock bytes volid number block → length bytes ≡ size_of block
length-valid bytes volid number (kinds.Label label) valid = ap length valid.3 ∙ length-label_text label valid.0
length-valid bytes volid number (kinds.Mark count units) valid = ap length valid.4 ∙ length-mark_text volid number count units
length-valid bytes volid number (kinds.Data used units) valid = length-held bytes volid number units valid.0 valid.1

-- ---- a region

pub length-blocks_text : (volid first units : ℕ) (blocks : List (List ChunkText)) → AreBlocks units blocks
    → length (blocks_text volid first units blocks) ≡ data_size units * length blocks
length-blocks_text volid first units [] allowed = omega arith
length-blocks_text volid first units (chunks ∷ blocks) allowed =
    length-append (data_text volid first units chunks) (blocks_text volid (first + units) units blocks)
    ∙ omega (arith, length-data_text volid first units chunks allowed.0.fit, length-blocks_text volid (first + units) units blocks allowed.1)

pub length-sealed : (volid mark units : ℕ) (blocks : List (List ChunkText)) (region : List ℕ) → IsSealed volid mark units blocks region
    → length region ≡ 8192 + data_size units * length blocks
length-sealed volid mark units blocks region sealed =
    let front = closed (mark_text volid mark (length blocks) units) in
    let files = blocks_text volid (mark + 1) units blocks in
    ap length sealed.text
    ∙ length-append (front ++ files) closed_block
    ∙ omega (arith, length-append front files, length-closed (mark_text volid mark (length blocks) units), length-mark_text volid mark (length blocks) units, length-blocks_text volid (mark + 1) units blocks sealed.allowed, length-closed_block)

-- ---- chunks

pub length-chunk_text : (chunk : ChunkText) → length (chunk_text chunk) ≡ 24 + length chunk.bytes
length-chunk_text chunk = length-append (chunk_head chunk.ssid chunk.copy chunk.offset (length chunk.bytes)) chunk.bytes

pub length-chunks_text : (chunk : ChunkText) (chunks : List ChunkText) → length (chunks_text (chunk ∷ chunks)) ≡ 24 + length chunk.bytes + length (chunks_text chunks)
length-chunks_text chunk chunks =
    length-append (chunk_text chunk) (chunks_text chunks) ∙ ap (λ (n : ℕ). n + length (chunks_text chunks)) (length-chunk_text chunk)
