-- Going over the chunks of a block, and taking the bytes of the first that covers a place.
use Rattle.std.proofs.Common.{◌≡◌, ℕ, ◌+◌, ◌-◌, ◌<◌, ◌≤◌, List, [], ◌∷◌, ◌++◌, take, drop, get_or, Some, None, refl, sym, ap, ◌∙◌, arith, inl, inr}
use Rattle.std.specs.Prelude.{slice_index}
use Rattle.std.proofs.lemmas.List.{get_or-take, get_or-drop}
use Rattle.volume_block.specs.Chunks.{ChunkText}
use Rattle.volume_block.specs.Places.{SplitsAt, FindsFirst, IsFound}
use Rattle.volume_block.specs.Valid.{HoldsChunks}
use Rattle.volume_block.specs.declared.block.Chunk.{Chunk}
use Rattle.volume_block.proofs.Finding.{next_splits}
use Rattle.recover_files.specs.Bytes.{Covers, byte_in, GiveByte, GiveNone}
use Rattle.recover_files.specs.Stages.{FoundCovers}

-- The chunks behind a place, and that none before it covers the bytes that are clear.
pub record HasCome (block : List ℕ) (volid number units at ssid copy place clear : ℕ) (chunks : List ChunkText) : Type 0 where
  pub before : List ChunkText
  pub after : List ChunkText
  pub split : SplitsAt block volid number units at before after
  pub gives : (i byte : ℕ) → i < clear → GiveByte ssid copy (place + i) after byte → GiveByte ssid copy (place + i) chunks byte
  pub lacks : (i : ℕ) → i < clear → GiveNone ssid copy (place + i) after → GiveNone ssid copy (place + i) chunks

pub come_first : (block : List ℕ) (volid number units ssid copy place clear : ℕ) (chunks : List ChunkText) → HoldsChunks block volid number units chunks
    → HasCome block volid number units 0 ssid copy place clear chunks
come_first block volid number units ssid copy place clear chunks held = record {
  before = [];
  after = chunks;
  split = record { holds = held; stands = refl };
  gives = λ i byte below given. given;
  lacks = λ i below none. none;
}

-- what is found covers what the chunk covers
covers_found : (block : List ℕ) (at ssid copy place : ℕ) (chunk : ChunkText) (found : Chunk) → IsFound block at chunk found
    → Covers ssid copy place chunk → FoundCovers ssid copy place found
covers_found block at ssid copy place chunk found is covers = record {
  set = is.ssid ∙ covers.set;
  of_copy = is.copy ∙ covers.of_copy;
  from = omega (arith, is.offset, covers.from);
  to = omega (arith, is.offset, is.size, covers.to);
}

-- the bytes of the chunk are where it was found
byte_taken : (count place i : ℕ) (block into : List ℕ) (at : ℕ) (chunk : ChunkText) (found : Chunk) → IsFound block at chunk found
    → found.offset ≤ place → place + count ≤ found.offset + found.length
    → take count into ≡ take count (drop (found.start + (place - found.offset)) block) → i < count
    → slice_index into i ≡ byte_in chunk (place + i)
byte_taken count place i block into at chunk found is from to taken below =
    let start = found.start + (place - found.offset) in
    let there : found.start + (place + i - found.offset) ≡ start + i = omega (arith, from) in
    let inside : place + i - found.offset < found.length = omega (arith, from, to, below) in
    let here : get_or (take count into) i 0 ≡ get_or block (start + i) 0 =
    ap (λ (t : List ℕ). get_or t i 0) taken ∙ get_or-take count (drop start block) i 0 below ∙ get_or-drop start block i 0 in
    let its : get_or (take found.length (drop found.start block)) (place + i - found.offset) 0 ≡ get_or block (start + i) 0 =
    get_or-take found.length (drop found.start block) (place + i - found.offset) 0 inside
    ∙ get_or-drop found.start block (place + i - found.offset) 0 ∙ ap (λ (n : ℕ). get_or block n 0) there in
    sym (get_or-take count into i 0 below) ∙ here ∙ sym its ∙ ap (λ (t : List ℕ). get_or t (place + i - found.offset) 0) is.text
    ∙ ap (λ (n : ℕ). get_or chunk.bytes (place + i - n) 0) is.offset

takes_of : (block : List ℕ) (at ssid copy place count : ℕ) (after : List ChunkText) (found : Chunk) (into : List ℕ)
    → FindsFirst block at after (Some found) → FoundCovers ssid copy place found → place + count ≤ found.offset + found.length
    → take count into ≡ take count (drop (found.start + (place - found.offset)) block)
    → (i : ℕ) → i < count → GiveByte ssid copy (place + i) after (slice_index into i)
takes_of block at ssid copy place count [] found into finds covers within taken i below = absurd (cc finds)
takes_of block at ssid copy place count (chunk ∷ rest) found into finds covers within taken i below = inl (
  record {
    set = sym finds.ssid ∙ covers.set;
    of_copy = sym finds.copy ∙ covers.of_copy;
    from = omega (arith, finds.offset, covers.from);
    to = omega (arith, finds.offset, finds.size, within, below);
  },
  byte_taken count place i block into at chunk found finds covers.from within taken below,
)

-- the bytes that are taken of the chunk that is found
pub takes : (block : List ℕ) (volid number units at ssid copy place clear count : ℕ) (chunks : List ChunkText) (found : Chunk) (into : List ℕ)
    → HasCome block volid number units at ssid copy place clear chunks
    → ((volid number units : ℕ) (before after : List ChunkText) → SplitsAt block volid number units at before after → FindsFirst block at after (Some found))
    → FoundCovers ssid copy place found → count ≤ clear → place + count ≤ found.offset + found.length
    → take count into ≡ take count (drop (found.start + (place - found.offset)) block)
    → (i : ℕ) → i < count → GiveByte ssid copy (place + i) chunks (slice_index into i)
takes block volid number units at ssid copy place clear count chunks found into come finds covers most within taken i below =
    come.gives i (slice_index into i) (omega (arith, below, most))
    (takes_of block at ssid copy place count come.after found into (finds volid number units come.before come.after come.split) covers within taken i below)

-- behind the last chunk
lacks_of : (block : List ℕ) (at ssid copy place : ℕ) (after : List ChunkText) → FindsFirst block at after None → GiveNone ssid copy place after
lacks_of block at ssid copy place [] finds = tt
lacks_of block at ssid copy place (chunk ∷ rest) finds = absurd finds

pub lacks : (block : List ℕ) (volid number units at ssid copy place clear : ℕ) (chunks : List ChunkText)
    → HasCome block volid number units at ssid copy place clear chunks
    → ((volid number units : ℕ) (before after : List ChunkText) → SplitsAt block volid number units at before after → FindsFirst block at after None)
    → (i : ℕ) → i < clear → GiveNone ssid copy (place + i) chunks
lacks block volid number units at ssid copy place clear chunks come finds i below =
    come.lacks i below (lacks_of block at ssid copy (place + i) come.after (finds volid number units come.before come.after come.split))

-- past a chunk that doesn't cover what stays clear
more_of : (block : List ℕ) (volid number units at ssid copy place clear less : ℕ) (chunks before after : List ChunkText) (found : Chunk)
    → SplitsAt block volid number units at before after
    → ((i byte : ℕ) → i < clear → GiveByte ssid copy (place + i) after byte → GiveByte ssid copy (place + i) chunks byte)
    → ((i : ℕ) → i < clear → GiveNone ssid copy (place + i) after → GiveNone ssid copy (place + i) chunks)
    → FindsFirst block at after (Some found) → ¬ FoundCovers ssid copy place found → less ≤ clear
    → ((i : ℕ) → i < less → FoundCovers ssid copy (place + i) found → FoundCovers ssid copy place found)
    → HasCome block volid number units found.next ssid copy place less chunks
more_of block volid number units at ssid copy place clear less chunks before [] found split gives lacks finds not most keeps = absurd (cc finds)
more_of block volid number units at ssid copy place clear less chunks before (chunk ∷ rest) found split gives lacks finds not most keeps =
    let none : (i : ℕ) → i < less → ¬ Covers ssid copy (place + i) chunk =
    λ i below covers. not (keeps i below (covers_found block at ssid copy (place + i) chunk found finds covers)) in
    record {
      before = before ++ chunk ∷ [];
      after = rest;
      split = next_splits block volid number units at found.next before chunk rest split finds.next;
      gives = λ i byte below given. gives i byte (omega (arith, below, most)) (inr (none i below, given));
      lacks = λ i below lacking. lacks i (omega (arith, below, most)) (none i below, lacking);
    }

pub come_more : (block : List ℕ) (volid number units at ssid copy place clear less : ℕ) (chunks : List ChunkText) (found : Chunk)
    → HasCome block volid number units at ssid copy place clear chunks
    → ((volid number units : ℕ) (before after : List ChunkText) → SplitsAt block volid number units at before after → FindsFirst block at after (Some found))
    → ¬ FoundCovers ssid copy place found → less ≤ clear
    → ((i : ℕ) → i < less → FoundCovers ssid copy (place + i) found → FoundCovers ssid copy place found)
    → HasCome block volid number units found.next ssid copy place less chunks
come_more block volid number units at ssid copy place clear less chunks found come finds not most keeps =
    more_of block volid number units at ssid copy place clear less chunks come.before come.after found come.split come.gives come.lacks
    (finds volid number units come.before come.after come.split) not most keeps
