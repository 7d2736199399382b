-- The chunk at the front of bytes is read from them, and is the only one.
use Rattle.std.proofs.Common.{◌≡◌, ℕ, ◌+◌, ◌^◌, ◌<◌, ◌≤◌, List, ◌++◌, length, take, drop, refl, sym, ap, subst, ◌∙◌, arith}
use Rattle.std.proofs.lemmas.List.{length-append, length-take-le, length-drop, take-append-drop, take_at, drop_at}
use Rattle.std.proofs.Math.Seq.{take-add}
use Rattle.byteorder.specs.Endian.{big_bytes, big_number}
use Rattle.byteorder.specs.Numbers.{big_number-reads_back, big_from-lt}
use Rattle.volume_block.specs.Chunks.{ChunkText, IsChunk, chunk_head, chunk_text, ssid_in, copy_in, offset_in, count_in, IsFirstChunk}
use Rattle.volume_block.proofs.Lengths.{length-chunk_text}
use Rattle.volume_block.proofs.Parts.{IsBytes, IsBytes-drop, bytes_of_4, bytes_of_8}

pub reads_2 : (x : ℕ) (rest : List ℕ) → x < 2 ^ 16 → big_number 2 (big_bytes 2 x ++ rest) ≡ x
reads_2 x rest lt = big_number-reads_back 2 x rest lt

pub reads_4 : (x : ℕ) (rest : List ℕ) → x < 2 ^ 32 → big_number 4 (big_bytes 4 x ++ rest) ≡ x
reads_4 x rest lt = big_number-reads_back 4 x rest lt

pub reads_8 : (x : ℕ) (rest : List ℕ) → x < 2 ^ 64 → big_number 8 (big_bytes 8 x ++ rest) ≡ x
reads_8 x rest lt = big_number-reads_back 8 x rest lt

number_below_4 : (text : List ℕ) → IsBytes text → big_number 4 text < 2 ^ 32
number_below_4 text fits = big_from-lt 0 4 text fits

number_below_8 : (text : List ℕ) → IsBytes text → big_number 8 text < 2 ^ 64
number_below_8 text fits = big_from-lt 0 8 text fits

-- what is read at the front of a chunk's bytes
pub record Reads (text : List ℕ) (chunk : ChunkText) (tail : List ℕ) : Type 0 where
  pub ssid : ssid_in text ≡ chunk.ssid
  pub copy : copy_in text ≡ chunk.copy
  pub offset : offset_in text ≡ chunk.offset
  pub count : count_in text ≡ length chunk.bytes
  pub bytes : take (length chunk.bytes) (drop 24 text) ≡ chunk.bytes
  pub behind : drop (24 + length chunk.bytes) text ≡ tail
  pub long : 24 + length chunk.bytes ≤ length text

pub reads_chunk : (chunk : ChunkText) (tail : List ℕ) → IsChunk chunk → length chunk.bytes < 2 ^ 32 → Reads (chunk_text chunk ++ tail) chunk tail
reads_chunk chunk tail allowed short =
    let rest = chunk.bytes ++ tail in
    record {
      ssid = reads_8 chunk.ssid (big_bytes 4 chunk.copy ++ big_bytes 8 chunk.offset ++ big_bytes 4 (length chunk.bytes) ++ rest) allowed.ssid.1;
      copy = reads_4 chunk.copy (big_bytes 8 chunk.offset ++ big_bytes 4 (length chunk.bytes) ++ rest) allowed.copy.1;
      offset = reads_8 chunk.offset (big_bytes 4 (length chunk.bytes) ++ rest) (omega (arith, allowed.ends));
      count = reads_4 (length chunk.bytes) rest short;
      bytes = take_at chunk.bytes tail (length chunk.bytes) refl;
      behind = drop_at (chunk_text chunk) tail (24 + length chunk.bytes) (length-chunk_text chunk);
      long = omega (arith, length-append (chunk_text chunk) tail, length-chunk_text chunk);
    }

-- the chunk that the front of these bytes spells
abbrev pub chunk_at : List ℕ → ChunkText
chunk_at text = record { ssid = ssid_in text; copy = copy_in text; offset = offset_in text; bytes = take (count_in text) (drop 24 text) }

-- the head of a text, by the places of the fields
in_head : (text : List ℕ) → take 24 text ≡ take 8 text ++ take 4 (drop 8 text) ++ take 8 (drop 12 text) ++ take 4 (drop 20 text)
in_head text =
    take-add 20 4 text
    ∙ ap (λ (t : List ℕ). t ++ take 4 (drop 20 text))
    (take-add 12 8 text ∙ ap (λ (t : List ℕ). t ++ take 8 (drop 12 text)) (take-add 8 4 text))

head_at : (text : List ℕ) → 24 ≤ length text → IsBytes text → take 24 text ≡ chunk_head (ssid_in text) (copy_in text) (offset_in text) (count_in text)
head_at text long fits =
    let ssid = bytes_of_8 text (omega arith) fits in
    let copy = bytes_of_4 (drop 8 text) (omega (arith, length-drop 8 text)) (IsBytes-drop 8 text fits) in
    let offset = bytes_of_8 (drop 12 text) (omega (arith, length-drop 12 text)) (IsBytes-drop 12 text fits) in
    let count = bytes_of_4 (drop 20 text) (omega (arith, length-drop 20 text)) (IsBytes-drop 20 text fits) in
    in_head text
    ∙ ap (λ (t : List ℕ). t ++ take 4 (drop 8 text) ++ take 8 (drop 12 text) ++ take 4 (drop 20 text)) (sym ssid)
    ∙ ap (λ (t : List ℕ). big_bytes 8 (ssid_in text) ++ t ++ take 8 (drop 12 text) ++ take 4 (drop 20 text)) (sym copy)
    ∙ ap (λ (t : List ℕ). big_bytes 8 (ssid_in text) ++ big_bytes 4 (copy_in text) ++ t ++ take 4 (drop 20 text)) (sym offset)
    ∙ ap (λ (t : List ℕ). big_bytes 8 (ssid_in text) ++ big_bytes 4 (copy_in text) ++ big_bytes 8 (offset_in text) ++ t) (sym count)

spelled_with : (text : List ℕ) (count : ℕ) → take 24 text ≡ chunk_head (ssid_in text) (copy_in text) (offset_in text) count
    → text ≡ (chunk_head (ssid_in text) (copy_in text) (offset_in text) count ++ take count (drop 24 text)) ++ drop (24 + count) text
spelled_with text count head =
    sym (take-append-drop (24 + count) text)
    ∙ ap (λ (t : List ℕ). t ++ drop (24 + count) text) (take-add 24 count text ∙ ap (λ (t : List ℕ). t ++ take count (drop 24 text)) head)

-- the chunk whose fields are read at the front is at the front, where the fields are in their ranges
pub is_first : (text : List ℕ) → IsBytes text → 24 + count_in text ≤ length text → 1 ≤ ssid_in text → 1 ≤ copy_in text → 1 ≤ count_in text
    → offset_in text + count_in text ≤ 2 ^ 36 → IsFirstChunk text (24 + count_in text) (chunk_at text)
is_first text fits within ssid copy some ends =
    let count : length (take (count_in text) (drop 24 text)) ≡ count_in text =
    length-take-le (count_in text) (drop 24 text) (omega (arith, length-drop 24 text)) in
    let Spelled : ℕ → Type 0 = λ (n : ℕ). text ≡ (chunk_head (ssid_in text) (copy_in text) (offset_in text) n ++ take (count_in text) (drop 24 text)) ++ drop (24 + count_in text) text in
    record {
      allowed = record {
        ssid = (ssid, number_below_8 text fits);
        copy = (copy, number_below_4 (drop 8 text) (IsBytes-drop 8 text fits));
        some = omega (arith, count);
        ends = omega (arith, count);
      };
      sized = omega (arith, count);
      within = within;
      spelled = subst Spelled (sym count) (spelled_with text (count_in text) (head_at text (omega arith) fits));
    }

-- what is read where a chunk is at the front
pub record AreAllowed (text : List ℕ) : Type 0 where
  pub within : 24 + count_in text ≤ length text
  pub ssid : 1 ≤ ssid_in text
  pub copy : 1 ≤ copy_in text
  pub some : 1 ≤ count_in text
  pub ends : offset_in text + count_in text ≤ 2 ^ 36

pub allowed_at_front : (text : List ℕ) (chunk : ChunkText) (tail : List ℕ) → length text ≤ 2 ^ 32 → IsChunk chunk → text ≡ chunk_text chunk ++ tail → AreAllowed text
allowed_at_front text chunk tail fits allowed spelled =
    let long : 24 + length chunk.bytes ≤ length text = omega (arith, ap length spelled, length-append (chunk_text chunk) tail, length-chunk_text chunk) in
    let made = reads_chunk chunk tail allowed (omega arith) in
    subst AreAllowed (sym spelled) (record {
      within = omega (arith, made.count, made.long);
      ssid = omega (arith, made.ssid, allowed.ssid.0);
      copy = omega (arith, made.copy, allowed.copy.0);
      some = omega (arith, made.count, allowed.some);
      ends = omega (arith, made.count, made.offset, allowed.ends);
    })
