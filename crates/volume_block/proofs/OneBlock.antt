-- Bytes are one block at most, and a data block holds one list of chunks.
use Rattle.std.proofs.Common.{◌≡◌, ℕ, ◌+◌, ◌^◌, ◌≤◌, List, [], ◌∷◌, ◌++◌, length, take, drop, All, refl, sym, ap, subst, ◌∙◌, arith}
use Rattle.std.proofs.lemmas.List.{length-append}
use Rattle.std.proofs.lemmas.List.Elements.{All-head, All-tail}
use Rattle.volume_block.specs.Chunks.{ChunkText, IsChunk, chunk_text, chunks_text, ssid_in, copy_in, offset_in, count_in}
use Rattle.volume_block.specs.Valid.{HoldsChunks, ValidBlock}
use Rattle.volume_block.specs.Why.{kind_in, units_in, payload_in, SaysBlock}
use Rattle.volume_block.specs.declared.block.Block.{Block}
use Rattle.volume_block.proofs.Lengths.{length-chunk_text, length-chunks_text}
use Rattle.volume_block.proofs.Heads.{reads_chunk}
use Rattle.volume_block.proofs.Spelled.{spells_data}
use Rattle.volume_block.proofs.Forms.{units_range}
use Rattle.volume_block.proofs.Blocks.{parts_of, says_here, same_block}

pub one_block : (bytes : List ℕ) (volid number volume place : ℕ) (block other : Block) → ValidBlock bytes volid number block
    → ValidBlock bytes volume place other → (volid ≡ volume) × (number ≡ place) × (block ≡ other)
one_block bytes volid number volume place block other valid others =
    let one = parts_of bytes volid number block valid in
    let two = parts_of bytes volume place other others in
    let volid-is : volid ≡ volume = sym one.spells.volid_read ∙ two.spells.volid_read in
    let says = says_here bytes volid number block one in
    let Says : ℕ → Type 0 = λ (v : ℕ). SaysBlock (kind_in bytes) (units_in bytes) v (payload_in bytes) other in
    let same = subst Says (sym volid-is) (says_here bytes volume place other two) in
    (volid-is, sym one.spells.number_read ∙ two.spells.number_read, same_block (kind_in bytes) (units_in bytes) volid (payload_in bytes) block other says same)

-- ---- chunks

of_fields : ℕ → ℕ → ℕ → List ℕ → ChunkText
of_fields ssid copy offset bytes = record { ssid = ssid; copy = copy; offset = offset; bytes = bytes }

has_fields : (chunk : ChunkText) → of_fields chunk.ssid chunk.copy chunk.offset chunk.bytes ≡ chunk
unfolding of_fields
has_fields chunk = refl

same_fields : (s t c d o p : ℕ) (a b : List ℕ) → s ≡ t → c ≡ d → o ≡ p → a ≡ b → of_fields s c o a ≡ of_fields t d p b
same_fields s t c d o p a b ssid copy offset bytes = cc

pub equal_chunks : (one other : ChunkText) → one.ssid ≡ other.ssid → one.copy ≡ other.copy → one.offset ≡ other.offset → one.bytes ≡ other.bytes → one ≡ other
equal_chunks one other ssid copy offset bytes =
    sym (has_fields one) ∙ same_fields _ _ _ _ _ _ _ _ ssid copy offset bytes ∙ has_fields other

-- the same bytes have the same chunk at their front, and the same bytes behind it
pub same_front : (text : List ℕ) (one other : ChunkText) (tail rest : List ℕ) → length text ≤ 2 ^ 32 → IsChunk one → IsChunk other
    → text ≡ chunk_text one ++ tail → text ≡ chunk_text other ++ rest → (one ≡ other) × (tail ≡ rest)
same_front text one other tail rest fits allowed others spelled spells =
    let long : 24 + length one.bytes ≤ length text = omega (arith, ap length spelled, length-append (chunk_text one) tail, length-chunk_text one) in
    let longs : 24 + length other.bytes ≤ length text = omega (arith, ap length spells, length-append (chunk_text other) rest, length-chunk_text other) in
    let a = reads_chunk one tail allowed (omega arith) in
    let b = reads_chunk other rest others (omega arith) in
    let same : chunk_text one ++ tail ≡ chunk_text other ++ rest = sym spelled ∙ spells in
    let count : length one.bytes ≡ length other.bytes = sym a.count ∙ ap count_in same ∙ b.count in
    let bytes : one.bytes ≡ other.bytes = sym a.bytes ∙ ap (λ (n : ℕ). take n (drop 24 (chunk_text one ++ tail))) count ∙ ap (λ (t : List ℕ). take (length other.bytes) (drop 24 t)) same ∙ b.bytes in
    let behind : tail ≡ rest = sym a.behind ∙ ap (λ (n : ℕ). drop (24 + n) (chunk_text one ++ tail)) count ∙ ap (λ (t : List ℕ). drop (24 + length other.bytes) t) same ∙ b.behind in
    (equal_chunks one other (sym a.ssid ∙ ap ssid_in same ∙ b.ssid) (sym a.copy ∙ ap copy_in same ∙ b.copy) (sym a.offset ∙ ap offset_in same ∙ b.offset) bytes, behind)

pub same_chunks : (chunks others : List ChunkText) → length (chunks_text chunks) ≤ 2 ^ 32 → All IsChunk chunks → All IsChunk others
    → chunks_text chunks ≡ chunks_text others → chunks ≡ others
same_chunks [] [] fits each every same = refl
same_chunks [] (chunk ∷ others) fits each every same = absurd (omega (arith, ap length same, length-chunks_text chunk others))
same_chunks (chunk ∷ chunks) [] fits each every same = absurd (omega (arith, ap length same, length-chunks_text chunk chunks))
same_chunks (chunk ∷ chunks) (other ∷ others) fits each every same =
    let front = same_front (chunks_text (chunk ∷ chunks)) chunk other (chunks_text chunks) (chunks_text others) fits
    (All-head IsChunk chunk chunks each) (All-head IsChunk other others every) refl same in
    let rest = same_chunks chunks others (omega (arith, fits, length-chunks_text chunk chunks)) (All-tail IsChunk chunk chunks each) (All-tail IsChunk other others every) front.1 in
    ap (λ (c : ChunkText). c ∷ chunks) front.0 ∙ ap (λ (l : List ChunkText). other ∷ l) rest

-- the chunks of a data block are short
pub short_chunks : (bytes : List ℕ) (volid number units : ℕ) (chunks : List ChunkText) → HoldsChunks bytes volid number units chunks
    → length (chunks_text chunks) ≤ 65480
short_chunks bytes volid number units chunks held = omega (arith, held.allowed.fit, (units_range units held.of_units).1)

pub one_list_of_chunks : (bytes : List ℕ) (volid number units volume place others_units : ℕ) (chunks others : List ChunkText)
    → HoldsChunks bytes volid number units chunks → HoldsChunks bytes volume place others_units others → chunks ≡ others
one_list_of_chunks bytes volid number units volume place others_units chunks others held holds =
    let a = spells_data bytes volid number units chunks held in
    let b = spells_data bytes volume place others_units others holds in
    same_chunks chunks others (omega (arith, short_chunks bytes volid number units chunks held)) held.allowed.each holds.allowed.each
    (sym a.payload_read ∙ b.payload_read)
