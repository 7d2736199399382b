-- The chunks that bytes spell are read back from them.
use Rattle.std.proofs.Common.{◌≡◌, ℕ, zero, suc, ◌+◌, ◌^◌, ◌<◌, ◌≤◌, List, [], ◌∷◌, ◌++◌, length, take, drop, All, refl, sym, ap, ◌∙◌, arith}
use Rattle.std.proofs.lemmas.List.{take_at, drop_at}
use Rattle.std.proofs.lemmas.List.Elements.{All-head, All-tail}
use Rattle.byteorder.specs.Endian.{big_bytes}
use Rattle.byteorder.specs.Numbers.{big_number-reads_back}
use Rattle.volume_block.specs.Chunks.{ChunkText, IsChunk, chunk_text, chunks_text, ssid_in, copy_in, offset_in, count_in}
use Rattle.volume_block.proofs.Lengths.{length-chunk_text, length-chunks_text}
use Rattle.chunk_mux.specs.Text.{chunk_at, chunks_at}

-- what is read at the front of a chunk's bytes
record ReadsFront (first : ChunkText) (tail : List ℕ) : Type 0 where
  pub chunk : chunk_at (chunk_text first ++ tail) ≡ first
  pub behind : drop (24 + count_in (chunk_text first ++ tail)) (chunk_text first ++ tail) ≡ tail

of_fields : ℕ → ℕ → ℕ → List ℕ → ChunkText
of_fields ssid copy offset bytes = record { ssid = ssid; copy = copy; offset = offset; bytes = bytes }

same_fields : (s t c d o p : ℕ) (b e : List ℕ) → s ≡ t → c ≡ d → o ≡ p → b ≡ e → of_fields s c o b ≡ of_fields t d p e
same_fields s t c d o p b e ssid copy offset bytes = cc

of_its_fields : (chunk : ChunkText) → of_fields chunk.ssid chunk.copy chunk.offset chunk.bytes ≡ chunk
unfolding of_fields
of_its_fields chunk = refl

from_fields : (text : List ℕ) → chunk_at text ≡ of_fields (ssid_in text) (copy_in text) (offset_in text) (take (count_in text) (drop 24 text))
unfolding of_fields
from_fields text = refl

reads_front : (chunk : ChunkText) (tail : List ℕ) → IsChunk chunk → length chunk.bytes < 2 ^ 32 → ReadsFront chunk tail
reads_front chunk tail allowed short =
    let rest = chunk.bytes ++ tail in
    let text = chunk_text chunk ++ tail in
    let ssid : ssid_in text ≡ chunk.ssid =
    big_number-reads_back 8 chunk.ssid (big_bytes 4 chunk.copy ++ big_bytes 8 chunk.offset ++ big_bytes 4 (length chunk.bytes) ++ rest) allowed.ssid.1 in
    let copy : copy_in text ≡ chunk.copy =
    big_number-reads_back 4 chunk.copy (big_bytes 8 chunk.offset ++ big_bytes 4 (length chunk.bytes) ++ rest) allowed.copy.1 in
    let offset : offset_in text ≡ chunk.offset =
    big_number-reads_back 8 chunk.offset (big_bytes 4 (length chunk.bytes) ++ rest) (omega (arith, allowed.ends)) in
    let count : count_in text ≡ length chunk.bytes = big_number-reads_back 4 (length chunk.bytes) rest short in
    let bytes : take (count_in text) (drop 24 text) ≡ chunk.bytes = take_at chunk.bytes tail (count_in text) (sym count) in
    record {
      chunk = from_fields text ∙ same_fields _ _ _ _ _ _ _ _ ssid copy offset bytes ∙ of_its_fields chunk;
      behind = drop_at (chunk_text chunk) tail (24 + count_in text) (length-chunk_text chunk ∙ omega (arith, count));
    }

pub chunks_read_back : (most : ℕ) (chunks : List ChunkText) → most < 2 ^ 32 → All IsChunk chunks → length (chunks_text chunks) ≤ most
    → chunks_at most (chunks_text chunks) ≡ chunks
chunks_read_back zero [] low each fits = refl
chunks_read_back zero (chunk ∷ chunks) low each fits = absurd (omega (arith, length-chunks_text chunk chunks))
chunks_read_back (suc most) [] low each fits = refl
chunks_read_back (suc most) (chunk ∷ chunks) low each fits =
    let tail = chunks_text chunks in
    let text = chunk_text chunk ++ tail in
    let front = reads_front chunk tail (All-head IsChunk chunk chunks each) (omega (arith, length-chunks_text chunk chunks)) in
    ap (λ (first : ChunkText). first ∷ chunks_at most (drop (24 + count_in text) text)) front.chunk
    ∙ ap (λ (rest : List ℕ). chunk ∷ chunks_at most rest) front.behind
    ∙ ap (λ (rest : List ChunkText). chunk ∷ rest)
    (chunks_read_back most chunks (omega arith) (All-tail IsChunk chunk chunks each) (omega (arith, length-chunks_text chunk chunks)))
