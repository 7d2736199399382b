-- Appending the bytes of a block's chunks, one after the other.
use Rattle.std.proofs.Common.{◌≡◌, ℕ, ◌+◌, ◌<◌, ◌≤◌, List, [], ◌∷◌, ◌++◌, length, take, drop, Some, None, refl, sym, ap, subst, ◌∙◌, append_assoc, arith}
use Rattle.std.proofs.lemmas.List.{append-nil, length-append, take-append-le, take_all}
use Rattle.std.proofs.lemmas.List.Concat.{flat_map-append}
use Rattle.volume_block.specs.Chunks.{ChunkText, chunk_text, chunks_text, JoinFrom, joined}
use Rattle.volume_block.specs.Valid.{HoldsChunks}
use Rattle.volume_block.specs.Places.{SplitsAt, IsChunkPlace, FindsFirst}
use Rattle.volume_block.specs.declared.block.Chunk.{Chunk}
use Rattle.volume_block.proofs.Lengths.{length-chunk_text}
use Rattle.volume_block.proofs.Finding.{at_place, reads_at}

-- chunks that join to bytes have these bytes
pub joined_bytes : (ssid copy offset : ℕ) (chunks : List ChunkText) (bytes : List ℕ) → JoinFrom ssid copy offset chunks bytes → joined chunks ≡ bytes
joined_bytes ssid copy offset [] bytes joins = sym joins
joined_bytes ssid copy offset (chunk ∷ chunks) bytes (of_set, of_copy, at, (rest, parts, joins)) =
    ap (λ (more : List ℕ). chunk.bytes ++ more) (joined_bytes ssid copy (offset + length chunk.bytes) chunks rest joins) ∙ sym parts

-- ---- chunk by chunk

-- the bytes of the chunks before a place are appended
pub record HasAppended (start bytes : List ℕ) (at : ℕ) (chunks : List ChunkText) : Type 0 where
  pub before : List ChunkText
  pub after : List ChunkText
  pub split : chunks ≡ before ++ after
  pub stands : at ≡ length (chunks_text before)
  pub are : bytes ≡ start ++ joined before

pub none_appended : (start : List ℕ) (chunks : List ChunkText) → HasAppended start start 0 chunks
none_appended start chunks = record { before = []; after = chunks; split = refl; stands = refl; are = sym (append-nil start) }

pub splits : (block start bytes : List ℕ) (volid number units at : ℕ) (chunks : List ChunkText) → HoldsChunks block volid number units chunks
    → (so_far : HasAppended start bytes at chunks) → SplitsAt block volid number units at so_far.before so_far.after
splits block start bytes volid number units at chunks held so_far =
    let P : List ChunkText → Type 0 = λ (all : List ChunkText). HoldsChunks block volid number units all in
    record { holds = subst P so_far.split held; stands = so_far.stands }

append_first : (block start bytes new : List ℕ) (at : ℕ) (chunks before after : List ChunkText) (found : Chunk) → chunks ≡ before ++ after
    → at ≡ length (chunks_text before) → bytes ≡ start ++ joined before → FindsFirst block at after (Some found)
    → new ≡ bytes ++ take found.length (drop found.start block) → HasAppended start new found.next chunks
append_first block start bytes new at chunks before [] found split stands are finds added = absurd (cc finds)
append_first block start bytes new at chunks before (chunk ∷ after) found split stands are finds added = record {
  before = before ++ chunk ∷ [];
  after = after;
  split = split ∙ sym (append_assoc before (chunk ∷ []) after);
  stands = finds.next ∙ omega (arith, stands, ap length (flat_map-append chunk_text before (chunk ∷ [])), length-append (chunks_text before) (chunks_text (chunk ∷ [])), ap length (append-nil (chunk_text chunk)), length-chunk_text chunk);
  are = added ∙ ap (λ (t : List ℕ). bytes ++ t) finds.text ∙ ap (λ (t : List ℕ). t ++ chunk.bytes) are ∙ append_assoc start (joined before) chunk.bytes
      ∙ ap (λ (t : List ℕ). start ++ (joined before ++ t)) (sym (append-nil chunk.bytes))
      ∙ ap (λ (t : List ℕ). start ++ t) (sym (flat_map-append (λ (one : ChunkText). one.bytes) before (chunk ∷ [])));
}

pub append_more : (block start bytes new : List ℕ) (volid number units at : ℕ) (chunks : List ChunkText) (found : Chunk) → HoldsChunks block volid number units chunks
    → HasAppended start bytes at chunks
    → ((v n u : ℕ) (before after : List ChunkText) → SplitsAt block v n u at before after → FindsFirst block at after (Some found))
    → new ≡ bytes ++ take found.length (drop found.start block) → HasAppended start new found.next chunks
append_more block start bytes new volid number units at chunks found held so_far finds added =
    append_first block start bytes new at chunks so_far.before so_far.after found so_far.split so_far.stands so_far.are
    (finds volid number units so_far.before so_far.after (splits block start bytes volid number units at chunks held so_far)) added

append_last : (block start bytes : List ℕ) (at : ℕ) (chunks before after : List ChunkText) → chunks ≡ before ++ after → bytes ≡ start ++ joined before
    → FindsFirst block at after None → bytes ≡ start ++ joined chunks
append_last block start bytes at chunks before [] split are finds =
    are ∙ ap (λ (all : List ChunkText). start ++ joined all) (sym (split ∙ append-nil before))
append_last block start bytes at chunks before (chunk ∷ after) split are finds = absurd finds

pub append_ends : (block start bytes : List ℕ) (volid number units at : ℕ) (chunks : List ChunkText) → HoldsChunks block volid number units chunks
    → HasAppended start bytes at chunks
    → ((v n u : ℕ) (before after : List ChunkText) → SplitsAt block v n u at before after → FindsFirst block at after None) → bytes ≡ start ++ joined chunks
append_ends block start bytes volid number units at chunks held so_far finds =
    append_last block start bytes at chunks so_far.before so_far.after so_far.split so_far.are
    (finds volid number units so_far.before so_far.after (splits block start bytes volid number units at chunks held so_far))

-- where a chunk that is found stands
pub record IsInside (block : List ℕ) (at : ℕ) (found : Chunk) : Type 0 where
  pub goes_on : at < found.next
  pub most : 56 + found.next ≤ length block
  pub small : length block ≤ 65536
  pub from : 80 ≤ found.start
  pub to : found.start + found.length ≡ found.next + 56

inside_first : (block : List ℕ) (volid number units at : ℕ) (before after : List ChunkText) (found : Chunk) → SplitsAt block volid number units at before after
    → FindsFirst block at after (Some found) → IsInside block at found
inside_first block volid number units at before [] found split finds = absurd (cc finds)
inside_first block volid number units at before (chunk ∷ after) found split finds =
    let here = at_place block volid number units at before (chunk ∷ after) split in
    let room = (reads_at block at chunk after here).room in
    record {
      goes_on = omega (arith, finds.next);
      most = omega (arith, finds.next, room);
      small = here.small;
      from = omega (arith, finds.start);
      to = omega (arith, finds.next, finds.start, finds.size);
    }

pub inside : (block : List ℕ) (at : ℕ) (found : Chunk) → IsChunkPlace block at
    → ((v n u : ℕ) (before after : List ChunkText) → SplitsAt block v n u at before after → FindsFirst block at after (Some found)) → IsInside block at found
inside block at found (volid, (number, (units, (before, (after, split))))) finds =
    inside_first block volid number units at before after found split (finds volid number units before after split)

-- ---- what was there stays

pub stays_itself : (bytes : List ℕ) → take (length bytes) bytes ≡ bytes
stays_itself bytes = take_all (length bytes) bytes (omega arith)

pub stays_behind : (start bytes more new : List ℕ) → take (length start) bytes ≡ start → length start ≤ length bytes → new ≡ bytes ++ more
    → take (length start) new ≡ start
stays_behind start bytes more new stays long is =
    ap (take (length start)) is ∙ take-append-le (length start) bytes more long ∙ stays
