-- Packing a piece chunk by chunk.
use Rattle.std.proofs.Common.{◌≡◌, ℕ, zero, suc, ◌+◌, ◌-◌, ◌≤◌, List, [], ◌∷◌, ◌++◌, length, take, drop, min, ◌*◌, refl, sym, ap, ◌∙◌, arith, inl, inr}
use Rattle.std.proofs.lemmas.Bool.{cases_lt}
use Rattle.std.proofs.lemmas.List.{append-nil, length-append, length-take, length-take-le, length-drop, take_all, length_push}
use Rattle.std.proofs.Math.Nat.{mul-suc}
use Rattle.std.proofs.lemmas.List.Concat.{flat_map-append}
use Rattle.volume_block.specs.Chunks.{ChunkText, chunk_text, chunks_text}
use Rattle.volume_block.proofs.Lengths.{length-chunks_text}
use Rattle.chunk_mux.specs.Packing.{BufferView, payload_size, chunk_size, room_behind, room_in, add_last, chunk_of, new_blocks, packed, pack, Fits}

-- ---- chunks

-- a chunk of bytes takes 24 bytes more
pub length-chunk_of : (ssid copy offset : ℕ) (bytes : List ℕ) → 1 ≤ length bytes
    → length (chunks_text (chunk_of ssid copy offset bytes)) ≡ 24 + length bytes
length-chunk_of ssid copy offset [] some = absurd (omega arith)
length-chunk_of ssid copy offset (byte ∷ more) some =
    length-chunks_text (record { ssid = ssid; copy = copy; offset = offset; bytes = byte ∷ more }) [] ∙ omega arith

chunk_none : (ssid copy offset : ℕ) (bytes : List ℕ) → length bytes ≡ 0 → chunk_of ssid copy offset bytes ≡ []
chunk_none ssid copy offset [] none = refl
chunk_none ssid copy offset (byte ∷ more) none = absurd (omega arith)

-- ---- new blocks

pub new_blocks_none : (most more ssid copy offset : ℕ) (bytes : List ℕ) → length bytes ≡ 0 → new_blocks most more ssid copy offset bytes ≡ []
new_blocks_none most zero ssid copy offset bytes none = refl
new_blocks_none most (suc more) ssid copy offset [] none = refl
new_blocks_none most (suc more) ssid copy offset (byte ∷ bytes) none = absurd (omega arith)

-- more of them may be there than are needed
new_blocks_enough : (most one other ssid copy offset : ℕ) (bytes : List ℕ) → 1 ≤ most → length bytes ≤ one → length bytes ≤ other
    → new_blocks most one ssid copy offset bytes ≡ new_blocks most other ssid copy offset bytes
new_blocks_enough most one other ssid copy offset [] some enough too =
    new_blocks_none most one ssid copy offset [] refl ∙ sym (new_blocks_none most other ssid copy offset [] refl)
new_blocks_enough most zero other ssid copy offset (byte ∷ bytes) some enough too = absurd (omega arith)
new_blocks_enough most (suc one) zero ssid copy offset (byte ∷ bytes) some enough too = absurd (omega arith)
new_blocks_enough most (suc one) (suc other) ssid copy offset (byte ∷ bytes) some enough too =
    ap (λ (rest : List (List ChunkText)). chunk_of ssid copy offset (take most (byte ∷ bytes)) ∷ rest)
    (new_blocks_enough most one other ssid copy (offset + most) (drop most (byte ∷ bytes)) some
    (omega (arith, length-drop most (byte ∷ bytes))) (omega (arith, length-drop most (byte ∷ bytes))))

-- one block, and the rest
new_blocks_more : (most ssid copy offset : ℕ) (bytes : List ℕ) → 1 ≤ most → 1 ≤ length bytes
    → new_blocks most (length bytes) ssid copy offset bytes
    ≡ chunk_of ssid copy offset (take most bytes) ∷ new_blocks most (length (drop most bytes)) ssid copy (offset + most) (drop most bytes)
new_blocks_more most ssid copy offset [] some more = absurd (omega arith)
new_blocks_more most ssid copy offset (byte ∷ bytes) some more =
    ap (λ (rest : List (List ChunkText)). chunk_of ssid copy offset (take most (byte ∷ bytes)) ∷ rest)
    (new_blocks_enough most (length bytes) (length (drop most (byte ∷ bytes))) ssid copy (offset + most) (drop most (byte ∷ bytes)) some
    (omega (arith, length-drop most (byte ∷ bytes))) (omega (arith, length-drop most (byte ∷ bytes))))

-- ---- room

pub room-add_last : (size : ℕ) (blocks : List (List ChunkText)) (more : List ChunkText)
    → room_in size (add_last blocks more) ≡ room_in size blocks - length (chunks_text more)
room-add_last size [] more = omega arith
room-add_last size (last ∷ []) more =
    omega (arith, ap length (flat_map-append chunk_text last more), length-append (chunks_text last) (chunks_text more))
room-add_last size (block ∷ next ∷ []) more = room-add_last size (next ∷ []) more
room-add_last size (block ∷ next ∷ other ∷ blocks) more = room-add_last size (next ∷ other ∷ blocks) more

pub length-add_last : (blocks : List (List ChunkText)) (more : List ChunkText) → length (add_last blocks more) ≡ length blocks
length-add_last [] more = refl
length-add_last (last ∷ []) more = refl
length-add_last (block ∷ next ∷ blocks) more = ap suc (length-add_last (next ∷ blocks) more)

pub room-begun : (size : ℕ) (blocks : List (List ChunkText)) (chunks : List ChunkText)
    → room_in size (blocks ++ chunks ∷ []) ≡ room_behind size chunks
room-begun size [] chunks = refl
room-begun size (last ∷ []) chunks = refl
room-begun size (block ∷ next ∷ blocks) chunks = room-begun size (next ∷ blocks) chunks

-- ---- packing

none_left : (n : ℕ) → take {A = ℕ} n [] ≡ []
none_left n = take_all n [] (omega arith)

-- a piece without bytes changes nothing
pub packed_none : (size : ℕ) (blocks : List (List ChunkText)) (ssid copy offset : ℕ) (piece : List ℕ) → length piece ≡ 0
    → packed size blocks ssid copy offset piece ≡ blocks
packed_none size [] ssid copy offset piece none = new_blocks_none (chunk_size size) (length piece) ssid copy offset piece none
packed_none size (last ∷ []) ssid copy offset piece none =
    let room = room_behind size last in
    ap (λ (chunk : List ChunkText). (last ++ chunk) ∷ new_blocks (chunk_size size) (length piece) ssid copy (offset + room) (drop room piece))
    (chunk_none ssid copy offset (take room piece) (omega (arith, length-take room piece)))
    ∙ ap (λ (first : List ChunkText). first ∷ new_blocks (chunk_size size) (length piece) ssid copy (offset + room) (drop room piece)) (append-nil last)
    ∙ ap (λ (rest : List (List ChunkText)). last ∷ rest)
    (new_blocks_none (chunk_size size) (length piece) ssid copy (offset + room) (drop room piece) (omega (arith, length-drop room piece)))
packed_none size (block ∷ next ∷ more) ssid copy offset piece none =
    ap (λ (rest : List (List ChunkText)). block ∷ rest) (packed_none size (next ∷ more) ssid copy offset piece none)

-- a last block without room stays
pub packed_full : (size : ℕ) (last : List ChunkText) (ssid copy offset : ℕ) (piece : List ℕ) → 1 ≤ chunk_size size → room_behind size last ≡ 0
    → packed size (last ∷ []) ssid copy offset piece ≡ last ∷ new_blocks (chunk_size size) (length piece) ssid copy offset piece
packed_full size last ssid copy offset piece some full =
    let most = chunk_size size in
    ap (λ (room : ℕ). (last ++ chunk_of ssid copy offset (take room piece)) ∷ new_blocks most (length piece) ssid copy (offset + room) (drop room piece)) full
    ∙ ap (λ (first : List ChunkText). first ∷ new_blocks most (length piece) ssid copy (offset + 0) piece) (append-nil last)
    ∙ ap (λ (at : ℕ). last ∷ new_blocks most (length piece) ssid copy at piece) (let here : offset + 0 ≡ offset = omega arith in here)

-- the first bytes as a chunk in the last block, and then the rest
pub packed_added : (size : ℕ) (blocks : List (List ChunkText)) (ssid copy offset count : ℕ) (piece : List ℕ) → 1 ≤ chunk_size size
    → 1 ≤ room_in size blocks → 1 ≤ length piece → count ≡ min (room_in size blocks) (length piece)
    → packed size (add_last blocks (chunk_of ssid copy offset (take count piece))) ssid copy (offset + count) (drop count piece)
    ≡ packed size blocks ssid copy offset piece
packed_added size [] ssid copy offset count piece some room more is = absurd (omega arith)
packed_added size (block ∷ next ∷ []) ssid copy offset count piece some room more is =
    ap (λ (rest : List (List ChunkText)). block ∷ rest) (packed_added size (next ∷ []) ssid copy offset count piece some room more is)
packed_added size (block ∷ next ∷ other ∷ blocks) ssid copy offset count piece some room more is =
    ap (λ (rest : List (List ChunkText)). block ∷ rest) (packed_added size (next ∷ other ∷ blocks) ssid copy offset count piece some room more is)
packed_added size (last ∷ []) ssid copy offset count piece some room more is =
    let most = chunk_size size in
    let space = room_behind size last in
    let front = chunk_of ssid copy offset (take count piece) in
    let long : length (take count piece) ≡ count = length-take-le count piece (omega arith) in
    let full = last ++ front in
    let left : room_behind size full ≡ space - (24 + count) =
    room-add_last size (last ∷ []) front ∙ omega (arith, length-chunk_of ssid copy offset (take count piece) (omega (arith, long)), long) in
    elim (cases_lt (length piece) space) [
      | inl short ↦
          packed_none size (full ∷ []) ssid copy (offset + count) (drop count piece) (omega (arith, length-drop count piece))
          ∙ ap (λ (bytes : List ℕ). (last ++ chunk_of ssid copy offset bytes) ∷ [])
          (take_all count piece (omega arith) ∙ sym (take_all space piece (omega arith)))
          ∙ ap (λ (rest : List (List ChunkText)). (last ++ chunk_of ssid copy offset (take space piece)) ∷ rest)
          (sym (new_blocks_none most (length piece) ssid copy (offset + space) (drop space piece) (omega (arith, length-drop space piece))))
      | inr whole ↦
          let same : count ≡ space = omega arith in
          packed_full size full ssid copy (offset + count) (drop count piece) some (omega (arith, left))
          ∙ ap (λ (rest : List (List ChunkText)). full ∷ rest)
          (new_blocks_enough most (length (drop count piece)) (length piece) ssid copy (offset + count) (drop count piece) some
          (omega arith) (omega (arith, length-drop count piece)))
          ∙ ap (λ (n : ℕ). (last ++ chunk_of ssid copy offset (take n piece)) ∷ new_blocks most (length piece) ssid copy (offset + n) (drop n piece)) same
    ]

begun_first : (size ssid copy offset count : ℕ) (piece : List ℕ) → 1 ≤ chunk_size size → 1 ≤ length piece
    → count ≡ min (chunk_size size) (length piece)
    → packed size (chunk_of ssid copy offset (take count piece) ∷ []) ssid copy (offset + count) (drop count piece)
    ≡ new_blocks (chunk_size size) (length piece) ssid copy offset piece
begun_first size ssid copy offset count piece some more is =
    let most = chunk_size size in
    let first = chunk_of ssid copy offset (take count piece) in
    let long : length (take count piece) ≡ count = length-take-le count piece (omega arith) in
    let text = length-chunk_of ssid copy offset (take count piece) (omega (arith, long)) in
    elim (cases_lt (length piece) most) [
      | inl short ↦
          packed_none size (first ∷ []) ssid copy (offset + count) (drop count piece) (omega (arith, length-drop count piece))
          ∙ ap (λ (bytes : List ℕ). chunk_of ssid copy offset bytes ∷ []) (take_all count piece (omega arith) ∙ sym (take_all most piece (omega arith)))
          ∙ ap (λ (rest : List (List ChunkText)). chunk_of ssid copy offset (take most piece) ∷ rest)
          (sym (new_blocks_none most (length (drop most piece)) ssid copy (offset + most) (drop most piece) (omega (arith, length-drop most piece))))
          ∙ sym (new_blocks_more most ssid copy offset piece some more)
      | inr whole ↦
          let same : count ≡ most = omega arith in
          packed_full size first ssid copy (offset + count) (drop count piece) some (omega (arith, text, long))
          ∙ ap (λ (n : ℕ). chunk_of ssid copy offset (take n piece) ∷ new_blocks most (length (drop n piece)) ssid copy (offset + n) (drop n piece)) same
          ∙ sym (new_blocks_more most ssid copy offset piece some more)
    ]

-- the first bytes as a chunk in a new block, and then the rest
pub packed_begun : (size : ℕ) (blocks : List (List ChunkText)) (ssid copy offset count : ℕ) (piece : List ℕ) → 1 ≤ chunk_size size
    → room_in size blocks ≡ 0 → 1 ≤ length piece → count ≡ min (chunk_size size) (length piece)
    → packed size (blocks ++ chunk_of ssid copy offset (take count piece) ∷ []) ssid copy (offset + count) (drop count piece)
    ≡ packed size blocks ssid copy offset piece
packed_begun size [] ssid copy offset count piece some full more is = begun_first size ssid copy offset count piece some more is
packed_begun size (last ∷ []) ssid copy offset count piece some full more is =
    ap (λ (rest : List (List ChunkText)). last ∷ rest) (begun_first size ssid copy offset count piece some more is)
    ∙ sym (packed_full size last ssid copy offset piece some full)
packed_begun size (block ∷ next ∷ blocks) ssid copy offset count piece some full more is =
    ap (λ (rest : List (List ChunkText)). block ∷ rest) (packed_begun size (next ∷ blocks) ssid copy offset count piece some full more is)

-- ---- the buffer's words

-- the buffer with these blocks
with_blocks : BufferView → List (List ChunkText) → BufferView
with_blocks buffer blocks = record buffer { blocks = blocks }

pub pack_is : (buffer : BufferView) (ssid copy offset : ℕ) (piece : List ℕ)
    → pack buffer ssid copy offset piece ≡ record buffer { blocks = packed (payload_size buffer.units) buffer.blocks ssid copy offset piece }
unfolding pack
pack_is buffer ssid copy offset piece = refl

pub pack_none : (buffer : BufferView) (ssid copy offset : ℕ) (piece : List ℕ) → length piece ≡ 0
    → pack buffer ssid copy offset piece ≡ buffer
unfolding pack with_blocks
pack_none buffer ssid copy offset piece none =
    ap (with_blocks buffer) (packed_none (payload_size buffer.units) buffer.blocks ssid copy offset piece none)

pub pack_added : (buffer : BufferView) (ssid copy offset count : ℕ) (piece : List ℕ) → 1 ≤ buffer.units
    → 1 ≤ room_in (payload_size buffer.units) buffer.blocks → 1 ≤ length piece
    → count ≡ min (room_in (payload_size buffer.units) buffer.blocks) (length piece)
    → pack (record buffer { blocks = add_last buffer.blocks (chunk_of ssid copy offset (take count piece)) }) ssid copy (offset + count)
    (drop count piece) ≡ pack buffer ssid copy offset piece
unfolding pack with_blocks
pack_added buffer ssid copy offset count piece units room more is =
    ap (with_blocks buffer) (packed_added (payload_size buffer.units) buffer.blocks ssid copy offset count piece (omega arith) room more is)

pub pack_begun : (buffer : BufferView) (ssid copy offset count : ℕ) (piece : List ℕ) → 1 ≤ buffer.units
    → room_in (payload_size buffer.units) buffer.blocks ≡ 0 → 1 ≤ length piece
    → count ≡ min (chunk_size (payload_size buffer.units)) (length piece)
    → pack (record buffer { blocks = buffer.blocks ++ chunk_of ssid copy offset (take count piece) ∷ [] }) ssid copy (offset + count)
    (drop count piece) ≡ pack buffer ssid copy offset piece
unfolding pack with_blocks
pack_begun buffer ssid copy offset count piece units full more is =
    ap (with_blocks buffer) (packed_begun (payload_size buffer.units) buffer.blocks ssid copy offset count piece (omega arith) full more is)

pub fits_added : (buffer : BufferView) (ssid copy offset count : ℕ) (piece : List ℕ)
    → count ≡ min (room_in (payload_size buffer.units) buffer.blocks) (length piece) → Fits buffer (length piece)
    → Fits (record buffer { blocks = add_last buffer.blocks (chunk_of ssid copy offset (take count piece)) }) (length piece - count)
fits_added buffer ssid copy offset count piece is fits =
    let size = payload_size buffer.units in
    let new = add_last buffer.blocks (chunk_of ssid copy offset (take count piece)) in
    let same : chunk_size size * (64 - length new) ≡ chunk_size size * (64 - length buffer.blocks) =
    ap (λ (n : ℕ). chunk_size size * (64 - n)) (length-add_last buffer.blocks (chunk_of ssid copy offset (take count piece))) in
    left (room_in size buffer.blocks) (room_in size new) count (length piece) (chunk_size size * (64 - length buffer.blocks))
    (chunk_size size * (64 - length new)) is same fits
  where
    left : (room other count long free now : ℕ) → count ≡ min room long → now ≡ free → long ≤ room + free → long - count ≤ other + now
    left room other count long free now is same fits = omega arith

pub fits_begun : (buffer : BufferView) (ssid copy offset count : ℕ) (piece : List ℕ)
    → room_in (payload_size buffer.units) buffer.blocks ≡ 0 → count ≡ min (chunk_size (payload_size buffer.units)) (length piece)
    → Fits buffer (length piece)
    → Fits (record buffer { blocks = buffer.blocks ++ chunk_of ssid copy offset (take count piece) ∷ [] }) (length piece - count)
fits_begun buffer ssid copy offset count piece full is fits =
    let size = payload_size buffer.units in
    let new = buffer.blocks ++ chunk_of ssid copy offset (take count piece) ∷ [] in
    let long : length new ≡ length buffer.blocks + 1 = length_push buffer.blocks (chunk_of ssid copy offset (take count piece)) in
    left (chunk_size size) (room_in size buffer.blocks) (room_in size new) count (length piece) (length buffer.blocks) (length new) full is long fits
  where
    left : (most room other count long blocks now : ℕ) → room ≡ 0 → count ≡ min most long → now ≡ blocks + 1
        → long ≤ room + most * (64 - blocks) → long - count ≤ other + most * (64 - now)
    left most room other count long blocks now full is same fits = elim (cases_lt blocks 64) [
      | inl low ↦
          let step : 64 - blocks ≡ suc (64 - now) = omega arith in
          let more : most * (64 - blocks) ≡ most * suc (64 - now) = ap (λ (n : ℕ). most * n) step in
          omega (arith, more, mul-suc most (64 - now))
      | inr far ↦
          let none : 64 - blocks ≡ 0 = omega arith in
          let no : most * (64 - blocks) ≡ most * 0 = ap (λ (n : ℕ). most * n) none in
          omega (arith, no)
    ]
