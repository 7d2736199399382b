-- A payload is taken apart into chunks, from its front on.
use Rattle.std.proofs.Common.{◌≡◌, ◌≢◌, ℕ, ◌+◌, ◌^◌, ◌≤◌, List, [], ◌∷◌, ◌++◌, length, drop, All, refl, sym, ap, ◌∙◌, append_assoc, arith}
use Rattle.std.proofs.lemmas.List.{append-nil, length-append, flat_map_more, nil_from_length}
use Rattle.std.proofs.lemmas.List.Elements.{All-nil, All-cons, All-append, All-head, All-tail}
use Rattle.volume_block.specs.Chunks.{ChunkText, IsChunk, chunk_text, chunks_text, count_in, IsFirstChunk}
use Rattle.volume_block.specs.Layout.{data_size}
use Rattle.volume_block.specs.Why.{AreChunksIn}
use Rattle.volume_block.proofs.Lengths.{length-chunk_text, length-chunks_text}
use Rattle.volume_block.proofs.Heads.{reads_chunk}

-- what is behind the first chunk
pub behind_first : (text : List ℕ) (size : ℕ) (first other : ChunkText) (tail : List ℕ) → length text ≤ 2 ^ 32
    → IsFirstChunk text size first → IsChunk other → text ≡ chunk_text other ++ tail → drop size text ≡ tail
behind_first text size first other tail fits is allowed spelled =
    let long : 24 + length other.bytes ≤ length text = omega (arith, ap length spelled, length-append (chunk_text other) tail, length-chunk_text other) in
    let one = reads_chunk first (drop size text) is.allowed (omega (arith, is.sized, is.within)) in
    let two = reads_chunk other tail allowed (omega arith) in
    let same : length first.bytes ≡ length other.bytes = sym one.count ∙ ap count_in (sym is.spelled) ∙ ap count_in spelled ∙ two.count in
    ap (λ (n : ℕ). drop n text) (is.sized ∙ ap (λ (n : ℕ). 24 + n) same) ∙ ap (drop (24 + length other.bytes)) spelled ∙ two.behind

-- what is left behind some chunks, and chunks that make the payload have what is left behind them too
pub record IsSplit (payload rest : List ℕ) : Type 0 where
  pub so_far : (front : List ChunkText) × All IsChunk front × (payload ≡ chunks_text front ++ rest)
  pub only : (chunks : List ChunkText) → All IsChunk chunks → payload ≡ chunks_text chunks → (after : List ChunkText) × All IsChunk after × (rest ≡ chunks_text after)

pub at_start : (payload : List ℕ) → IsSplit payload payload
at_start payload = record { so_far = ([], All-nil IsChunk, refl); only = λ chunks each spelled. (chunks, each, spelled) }

after_first : (rest : List ℕ) (size : ℕ) (first : ChunkText) (after : List ChunkText) → length rest ≤ 2 ^ 32 → IsFirstChunk rest size first
    → All IsChunk after → rest ≡ chunks_text after → (more : List ChunkText) × All IsChunk more × (drop size rest ≡ chunks_text more)
after_first rest size first [] fits is each spelled = absurd (omega (arith, ap length spelled, is.sized, is.within))
after_first rest size first (other ∷ more) fits is each spelled =
    (more, All-tail IsChunk other more each, behind_first rest size first other (chunks_text more) fits is (All-head IsChunk other more each) spelled)

pub one_more : (payload rest : List ℕ) (size : ℕ) (first : ChunkText) → length rest ≤ 2 ^ 32 → IsFirstChunk rest size first
    → IsSplit payload rest → IsSplit payload (drop size rest)
one_more payload rest size first fits is split =
    let front = split.so_far.0 in
    record {
      so_far = (
        front ++ (first ∷ []),
        All-append IsChunk front (first ∷ []) split.so_far.1 (All-cons IsChunk first [] is.allowed (All-nil IsChunk)),
        split.so_far.2
            ∙ ap (λ (t : List ℕ). chunks_text front ++ t) is.spelled
            ∙ sym (append_assoc (chunks_text front) (chunk_text first) (drop size rest))
            ∙ ap (λ (t : List ℕ). t ++ drop size rest) (flat_map_more chunk_text [] front first),
      );
      only = λ chunks each spelled.
          let after = split.only chunks each spelled in
          after_first rest size first after.0 fits is after.1 after.2;
    }

no_first : (rest : List ℕ) (after : List ChunkText) → ((chunk : ChunkText) (tail : List ℕ) → IsChunk chunk → rest ≢ chunk_text chunk ++ tail)
    → 1 ≤ length rest → All IsChunk after → rest ≡ chunks_text after → ⊥
no_first rest [] none some each spelled = omega (arith, ap length spelled)
no_first rest (chunk ∷ more) none some each spelled = none chunk (chunks_text more) (All-head IsChunk chunk more each) spelled

pub no_chunks : (payload rest : List ℕ) → ((chunk : ChunkText) (tail : List ℕ) → IsChunk chunk → rest ≢ chunk_text chunk ++ tail)
    → 1 ≤ length rest → IsSplit payload rest → (units : ℕ) (chunks : List ChunkText) → AreChunksIn units payload chunks → ⊥
no_chunks payload rest none some split units chunks are =
    let after = split.only chunks are.0.each are.1 in
    no_first rest after.0 none some after.1 after.2

some_text : (chunks : List ChunkText) → chunks ≢ [] → 1 ≤ length (chunks_text chunks)
some_text [] some = absurd (some refl)
some_text (chunk ∷ chunks) some = omega (arith, length-chunks_text chunk chunks)

pub no_chunks_in_none : (payload : List ℕ) → length payload ≡ 0 → (units : ℕ) (chunks : List ChunkText) → AreChunksIn units payload chunks → ⊥
no_chunks_in_none payload none units chunks are = omega (arith, some_text chunks are.0.some, ap length are.1)

pub all_chunks : (units : ℕ) (payload rest : List ℕ) → 56 + length payload ≤ data_size units → 1 ≤ length payload → length rest ≡ 0 → IsSplit payload rest
    → (chunks : List ChunkText) × AreChunksIn units payload chunks
all_chunks units payload rest fits some ended split =
    let front = split.so_far.0 in
    let spelled : payload ≡ chunks_text front =
    split.so_far.2 ∙ ap (λ (t : List ℕ). chunks_text front ++ t) (nil_from_length rest ended) ∙ append-nil (chunks_text front) in (
      front,
      (
        record {
          some = λ none. omega (arith, ap length (spelled ∙ ap chunks_text none));
          fit = omega (arith, ap length spelled);
          each = split.so_far.1;
        },
        spelled,
      ),
    )
