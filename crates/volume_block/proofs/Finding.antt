-- The chunk that begins at a place of a data block.
use Rattle.std.proofs.Common.{◌≡◌, ◌≢◌, ℕ, ◌+◌, ◌-◌, ◌≤◌, List, [], ◌∷◌, ◌++◌, All, length, take, drop, Some, None, refl, sym, ap, subst, ◌∙◌, append_assoc, arith}
use Rattle.std.proofs.lemmas.List.{length-append, take-append-drop, take_rest, drop-drop, drop_at}
use Rattle.std.proofs.lemmas.List.Concat.{flat_map-append}
use Rattle.std.proofs.lemmas.List.Elements.{All-head, All-tail}
use Rattle.volume_block.specs.Chunks.{ChunkText, IsChunk, chunk_text, chunks_text, ssid_in, copy_in, offset_in, count_in}
use Rattle.volume_block.specs.Places.{SplitsAt, IsChunkPlace, FindsFirst}
use Rattle.volume_block.specs.Valid.{HoldsChunks, ValidBlock}
use Rattle.volume_block.specs.Why.{used_in}
use Rattle.volume_block.specs.declared.block.Block.TheVariants as kinds
use Rattle.volume_block.specs.declared.block.Chunk.{Chunk}
use Rattle.volume_block.proofs.Heads.{Reads, reads_chunk}
use Rattle.volume_block.proofs.Lengths.{length-chunks_text}
use Rattle.volume_block.proofs.Spelled.{spells_data}
use Rattle.volume_block.proofs.Forms.{units_range}

each_after : (before after : List ChunkText) → All IsChunk (before ++ after) → All IsChunk after
each_after [] after each = each
each_after (chunk ∷ before) after each = each_after before after (All-tail IsChunk chunk (before ++ after) each)

-- what stands at the place
pub record AtPlace (bytes : List ℕ) (place : ℕ) (after : List ChunkText) : Type 0 where
  pub small : length bytes ≤ 65536
  pub used : used_in bytes ≡ place + length (chunks_text after)
  pub fits : 56 + used_in bytes ≤ length bytes
  pub each : All IsChunk after
  pub tail : List ℕ
  pub text : drop (56 + place) bytes ≡ chunks_text after ++ tail

pub at_place : (bytes : List ℕ) (volid number units place : ℕ) (before after : List ChunkText) → SplitsAt bytes volid number units place before after → AtPlace bytes place after
at_place bytes volid number units place before after split =
    let chunks = before ++ after in
    let held = split.holds in
    let spells = spells_data bytes volid number units chunks held in
    let joined : chunks_text chunks ≡ chunks_text before ++ chunks_text after = flat_map-append chunk_text before after in
    let zeros = drop (used_in bytes) (drop 56 bytes) in
    record {
      small = omega (arith, spells.whole, (units_range units held.of_units).1);
      used = spells.used_read ∙ ap length joined ∙ omega (arith, length-append (chunks_text before) (chunks_text after), split.stands);
      fits = spells.padded.0;
      each = each_after before after held.allowed.each;
      tail = zeros;
      text =
          sym (drop-drop place 56 bytes)
          ∙ ap (drop place)
          (sym (take-append-drop (used_in bytes) (drop 56 bytes)) ∙ ap (λ (t : List ℕ). t ++ zeros) (spells.payload_read ∙ joined)
          ∙ append_assoc (chunks_text before) (chunks_text after) zeros)
          ∙ drop_at (chunks_text before) (chunks_text after ++ zeros) place (sym split.stands);
    }

-- what is read at a place where a chunk begins
pub record ReadsAt (bytes : List ℕ) (place : ℕ) (chunk : ChunkText) : Type 0 where
  pub ssid : ssid_in (drop (56 + place) bytes) ≡ chunk.ssid
  pub copy : copy_in (drop (56 + place) bytes) ≡ chunk.copy
  pub offset : offset_in (drop (56 + place) bytes) ≡ chunk.offset
  pub count : count_in (drop (56 + place) bytes) ≡ length chunk.bytes
  pub text : take (length chunk.bytes) (drop (place + 80) bytes) ≡ chunk.bytes
  pub room : 56 + (place + 24 + length chunk.bytes) ≤ length bytes

pub reads_at : (bytes : List ℕ) (place : ℕ) (chunk : ChunkText) (chunks : List ChunkText) → AtPlace bytes place (chunk ∷ chunks) → ReadsAt bytes place chunk
reads_at bytes place chunk chunks here =
    let tail = chunks_text chunks ++ here.tail in
    let room : 56 + (place + 24 + length chunk.bytes) ≤ length bytes = omega (arith, here.used, here.fits, length-chunks_text chunk chunks) in
    let spelled : drop (56 + place) bytes ≡ chunk_text chunk ++ tail = here.text ∙ append_assoc (chunk_text chunk) (chunks_text chunks) here.tail in
    let made = subst (λ (t : List ℕ). Reads t chunk tail) (sym spelled) (reads_chunk chunk tail (All-head IsChunk chunk chunks here.each) (omega (arith, here.small))) in
    let same : 56 + place + 24 ≡ place + 80 = omega arith in
    record {
      ssid = made.ssid;
      copy = made.copy;
      offset = made.offset;
      count = made.count;
      text = ap (λ (t : List ℕ). take (length chunk.bytes) t) (ap (λ (n : ℕ). drop n bytes) (sym same) ∙ sym (drop-drop 24 (56 + place) bytes)) ∙ made.bytes;
      room = room;
    }

-- there is room for the chunk where the place isn't behind the last
pub record HasRoom (bytes : List ℕ) (place : ℕ) : Type 0 where
  pub small : length bytes ≤ 65536
  pub room : 56 + (place + 24 + count_in (drop (56 + place) bytes)) ≤ length bytes

room_for : (bytes : List ℕ) (place : ℕ) (after : List ChunkText) → AtPlace bytes place after → place ≢ used_in bytes → HasRoom bytes place
room_for bytes place [] here more = absurd (more (omega (arith, here.used)))
room_for bytes place (chunk ∷ chunks) here more =
    let made = reads_at bytes place chunk chunks here in
    record { small = here.small; room = omega (arith, made.room, made.count) }

pub has_room : (bytes : List ℕ) (place : ℕ) → IsChunkPlace bytes place → place ≢ used_in bytes → HasRoom bytes place
has_room bytes place (volid, (number, (units, (before, (after, split))))) more =
    room_for bytes place after (at_place bytes volid number units place before after split) more

-- the size of a block with a chunk's place
pub record HasSize (bytes : List ℕ) : Type 0 where
  pub least : 56 ≤ length bytes
  pub most : length bytes ≤ 65536

pub has_size : (bytes : List ℕ) (place : ℕ) → IsChunkPlace bytes place → HasSize bytes
has_size bytes place (volid, (number, (units, (before, (after, split))))) =
    let here = at_place bytes volid number units place before after split in
    record { least = omega (arith, here.fits); most = here.small }

-- a valid data block begins with a place
pub first_place : (bytes : List ℕ) (volid number used units : ℕ) → ValidBlock bytes volid number (kinds.Data used units) → IsChunkPlace bytes 0
first_place bytes volid number used units valid = (volid, (number, (units, ([], (valid.0, record { holds = valid.1; stands = refl })))))

-- behind a chunk there is a place too
pub next_splits : (bytes : List ℕ) (volid number units place next : ℕ) (before : List ChunkText) (chunk : ChunkText) (chunks : List ChunkText)
    → SplitsAt bytes volid number units place before (chunk ∷ chunks) → next ≡ place + 24 + length chunk.bytes
    → SplitsAt bytes volid number units next (before ++ (chunk ∷ [])) chunks
next_splits bytes volid number units place next before chunk chunks split is =
    record {
      holds = subst (HoldsChunks bytes volid number units) (sym (append_assoc before (chunk ∷ []) chunks)) split.holds;
      stands = is ∙ omega (
        arith,
        split.stands,
        ap length (flat_map-append chunk_text before (chunk ∷ [])),
        length-append (chunks_text before) (chunks_text (chunk ∷ [])),
        length-chunks_text chunk [],
      );
    }

pub finds_none : (bytes : List ℕ) (volid number units place : ℕ) (before after : List ChunkText) → place ≡ used_in bytes
    → SplitsAt bytes volid number units place before after → FindsFirst bytes place after None
finds_none bytes volid number units place before [] ended split = refl
finds_none bytes volid number units place before (chunk ∷ chunks) ended split =
    let here = at_place bytes volid number units place before (chunk ∷ chunks) split in
    absurd (omega (arith, here.used, length-chunks_text chunk chunks))

-- what is found is what was read
pub record IsReadAt (bytes : List ℕ) (place : ℕ) (found : Chunk) : Type 0 where
  pub ssid : found.ssid.0 ≡ ssid_in (drop (56 + place) bytes)
  pub copy : found.copy.0 ≡ copy_in (drop (56 + place) bytes)
  pub offset : found.offset ≡ offset_in (drop (56 + place) bytes)
  pub count : found.length ≡ count_in (drop (56 + place) bytes)
  pub start : found.start ≡ place + 80
  pub next : found.next ≡ place + 24 + found.length

pub finds_first : (bytes : List ℕ) (volid number units place : ℕ) (before after : List ChunkText) (found : Chunk) → place ≢ used_in bytes
    → IsReadAt bytes place found → SplitsAt bytes volid number units place before after → FindsFirst bytes place after (Some found)
finds_first bytes volid number units place before [] found more read split =
    let here = at_place bytes volid number units place before [] split in
    absurd (more (omega (arith, here.used)))
finds_first bytes volid number units place before (chunk ∷ chunks) found more read split =
    let made = reads_at bytes place chunk chunks (at_place bytes volid number units place before (chunk ∷ chunks) split) in
    let size : found.length ≡ length chunk.bytes = read.count ∙ made.count in
    record {
      ssid = read.ssid ∙ made.ssid;
      copy = read.copy ∙ made.copy;
      offset = read.offset ∙ made.offset;
      size = size;
      start = read.start;
      next = read.next ∙ ap (λ (n : ℕ). place + 24 + n) size;
      text = ap (λ (n : ℕ). take n (drop found.start bytes)) size ∙ ap (λ (n : ℕ). take (length chunk.bytes) (drop n bytes)) read.start ∙ made.text;
    }

next_place_of : (bytes : List ℕ) (volid number units place : ℕ) (before after : List ChunkText) (found : Chunk) → place ≢ used_in bytes
    → IsReadAt bytes place found → SplitsAt bytes volid number units place before after → IsChunkPlace bytes found.next
next_place_of bytes volid number units place before [] found more read split =
    let here = at_place bytes volid number units place before [] split in
    absurd (more (omega (arith, here.used)))
next_place_of bytes volid number units place before (chunk ∷ chunks) found more read split =
    let made = reads_at bytes place chunk chunks (at_place bytes volid number units place before (chunk ∷ chunks) split) in
    let next = read.next ∙ ap (λ (n : ℕ). place + 24 + n) (read.count ∙ made.count) in
    (volid, (number, (units, (before ++ (chunk ∷ []), (chunks, next_splits bytes volid number units place found.next before chunk chunks split next)))))

pub next_place : (bytes : List ℕ) (place : ℕ) (found : Chunk) → place ≢ used_in bytes → IsReadAt bytes place found → IsChunkPlace bytes place → IsChunkPlace bytes found.next
next_place bytes place found more read (volid, (number, (units, (before, (after, split))))) =
    next_place_of bytes volid number units place before after found more read split

-- a chunk that is read from the rest of the bytes
pub read_at : (bytes : List ℕ) (place : ℕ) (found : Chunk)
    → found.ssid.0 ≡ ssid_in (take (length bytes - (56 + place)) (drop (56 + place) bytes))
    → found.copy.0 ≡ copy_in (take (length bytes - (56 + place)) (drop (56 + place) bytes))
    → found.offset ≡ offset_in (take (length bytes - (56 + place)) (drop (56 + place) bytes))
    → found.length ≡ count_in (take (length bytes - (56 + place)) (drop (56 + place) bytes))
    → found.start ≡ place + 80 → found.next ≡ place + 24 + found.length → IsReadAt bytes place found
read_at bytes place found ssid copy offset count start next =
    let rest = take_rest bytes (56 + place) in
    record {
      ssid = ssid ∙ ap ssid_in rest;
      copy = copy ∙ ap copy_in rest;
      offset = offset ∙ ap offset_in rest;
      count = count ∙ ap count_in rest;
      start = start;
      next = next;
    }
