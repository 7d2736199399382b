-- The chunk that is found at a place of bytes, where these are a data block.
use Rattle.std.proofs.Common.{ℕ, ◌+◌, ◌-◌, ◌<◌, ◌≤◌, List, [], ◌∷◌, length, take, drop, Some, None, refl, ap, arith}
use Rattle.std.specs.Prelude.{Option, IfSome, MatchOption}
use Rattle.std.proofs.lemmas.List.{length-drop, take_rest}
use Rattle.volume_block.specs.Chunks.{ChunkText, count_in}
use Rattle.volume_block.specs.Places.{SplitsAt, FindsFirst}
use Rattle.volume_block.specs.Why.{used_in}
use Rattle.volume_block.specs.declared.block.Chunk.{Chunk}
use Rattle.volume_block.proofs.Lengths.{length-chunks_text}
use Rattle.volume_block.proofs.Finding.{at_place, reads_at, finds_first, read_at}
use Rattle.recover_files.specs.Stages.{IsHeadOf}

-- the text behind a place of a payload
abbrev pub text_at : List ℕ → ℕ → List ℕ
text_at bytes at = take (length bytes - (56 + at)) (drop (56 + at) bytes)

-- no chunk begins where there is no room for one
pub no_head : (bytes : List ℕ) (volid number units at : ℕ) (before after : List ChunkText) → ¬ ((at < used_in bytes) × (80 + at ≤ length bytes))
    → SplitsAt bytes volid number units at before after → FindsFirst bytes at after None
no_head bytes volid number units at before [] none split = refl
no_head bytes volid number units at before (chunk ∷ chunks) none split =
    let here = at_place bytes volid number units at before (chunk ∷ chunks) split in
    let made = reads_at bytes at chunk chunks here in
    absurd (none (omega (arith, here.used, length-chunks_text chunk chunks), omega (arith, made.room)))

no_count : (bytes : List ℕ) (volid number units at : ℕ) (before after : List ChunkText) → length (text_at bytes at) < 24 + count_in (text_at bytes at)
    → 80 + at ≤ length bytes → SplitsAt bytes volid number units at before after → FindsFirst bytes at after None
no_count bytes volid number units at before [] short head split = refl
no_count bytes volid number units at before (chunk ∷ chunks) short head split =
    let here = at_place bytes volid number units at before (chunk ∷ chunks) split in
    let made = reads_at bytes at chunk chunks here in
    absurd (omega (
      arith,
      short,
      head,
      made.room,
      made.count,
      ap count_in (take_rest bytes (56 + at)),
      ap length (take_rest bytes (56 + at)),
      length-drop (56 + at) bytes,
    ))

-- what is found behind a place
pub finds : (bytes : List ℕ) (at : ℕ) (found : Option Chunk) → MatchOption found (length (text_at bytes at) < 24 + count_in (text_at bytes at)) (IsHeadOf (text_at bytes at) at)
    → at < used_in bytes → 80 + at ≤ length bytes
    → (volid number units : ℕ) (before after : List ChunkText) → SplitsAt bytes volid number units at before after → FindsFirst bytes at after found
finds bytes at None none more head = λ volid number units before after split. no_count bytes volid number units at before after none head split
finds bytes at (Some found) is more head = λ volid number units before after split.
    finds_first bytes volid number units at before after found (λ same. omega (arith, more, same))
    (read_at bytes at found is.ssid is.copy is.offset is.count is.start is.next) split

pub found_inside : (bytes : List ℕ) (at : ℕ) (found : Option Chunk) → MatchOption found (length (text_at bytes at) < 24 + count_in (text_at bytes at)) (IsHeadOf (text_at bytes at) at)
    → 80 + at ≤ length bytes → IfSome found (λ one. one.start + one.length ≤ length bytes)
found_inside bytes at None none head = tt
found_inside bytes at (Some found) is head =
    omega (arith, is.fits, is.start, head, ap length (take_rest bytes (56 + at)), length-drop (56 + at) bytes)

pub found_next : (bytes : List ℕ) (at : ℕ) (found : Option Chunk) → MatchOption found (length (text_at bytes at) < 24 + count_in (text_at bytes at)) (IsHeadOf (text_at bytes at) at)
    → 80 + at ≤ length bytes → IfSome found (λ one. (at < one.next) × (one.next ≤ length bytes))
found_next bytes at None none head = tt
found_next bytes at (Some found) is head = (
  omega (arith, is.next),
  omega (arith, is.fits, is.next, head, ap length (take_rest bytes (56 + at)), length-drop (56 + at) bytes),
)
