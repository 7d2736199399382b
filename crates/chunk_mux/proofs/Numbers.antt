-- The numbers of blocks and of bytes that have room after a push.
use Rattle.std.proofs.Common.{◌≡◌, ℕ, zero, suc, ◌+◌, ◌-◌, ◌*◌, ◌≤◌, List, [], ◌∷◌, ◌++◌, length, take, drop, cond, ◌==◌, refl, sym, ap, ◌∙◌, arith, inl, inr}
use Rattle.std.proofs.lemmas.Bool.{cases_lt}
use Rattle.std.proofs.lemmas.Bool.Decides.{nat_tests}
use Rattle.std.proofs.lemmas.List.{length-drop, take_all}
use Rattle.std.proofs.Math.Nat.{mul-suc, mul-zero}
use Rattle.std.specs.Int.{div_ceil}
use Rattle.std.specs.Prelude.{◌↔◌}
use Rattle.volume_block.specs.Chunks.{ChunkText, chunks_text}
use Rattle.chunk_mux.specs.Packing.{chunk_size, room_behind, room_in, fits_behind, chunk_of, new_blocks, packed}
use Rattle.chunk_mux.specs.Spans.{begun_by, room_after}
use Rattle.chunk_mux.proofs.Counting.{ceil_none, ceil_more, ceil_fits, fits_ceil}
use Rattle.chunk_mux.proofs.Packing.{length-chunk_of, new_blocks_none, packed_none, room-add_last}

-- ---- how many blocks

pub length-new : (most more ssid copy offset : ℕ) (bytes : List ℕ) → 1 ≤ most → length bytes ≤ more
    → length (new_blocks most more ssid copy offset bytes) ≡ div_ceil (length bytes) most
length-new most zero ssid copy offset [] some enough = sym (ceil_none 0 most some refl)
length-new most zero ssid copy offset (byte ∷ bytes) some enough = absurd (omega arith)
length-new most (suc more) ssid copy offset [] some enough = sym (ceil_none 0 most some refl)
length-new most (suc more) ssid copy offset (byte ∷ bytes) some enough =
    let left = length-drop most (byte ∷ bytes) in
    ap suc (length-new most more ssid copy (offset + most) (drop most (byte ∷ bytes)) some (omega (arith, left, some))
    ∙ ap (λ (n : ℕ). div_ceil n most) left)
    ∙ sym (ceil_more (length (byte ∷ bytes)) most some (omega arith))

pub length-packed : (size : ℕ) (blocks : List (List ChunkText)) (ssid copy offset : ℕ) (piece : List ℕ) → 1 ≤ chunk_size size
    → length (packed size blocks ssid copy offset piece) ≡ length blocks + begun_by size (room_in size blocks) (length piece)
length-packed size [] ssid copy offset piece some =
    length-new (chunk_size size) (length piece) ssid copy offset piece some (omega arith)
    ∙ (let none : div_ceil (length piece) (chunk_size size) ≡ 0 + div_ceil (length piece - 0) (chunk_size size) = number (length piece) in none)
  where
    number : (n : ℕ) → div_ceil n (chunk_size size) ≡ 0 + div_ceil (n - 0) (chunk_size size)
    number n =
        let same : n ≡ n - 0 = omega arith in
        ap (λ (k : ℕ). div_ceil k (chunk_size size)) same ∙ (let plain : div_ceil (n - 0) (chunk_size size) ≡ 0 + div_ceil (n - 0) (chunk_size size) = omega arith in plain)
length-packed size (last ∷ []) ssid copy offset piece some =
    let room = room_behind size last in
    let left = length-drop room piece in
    ap suc (length-new (chunk_size size) (length piece) ssid copy (offset + room) (drop room piece) some (omega (arith, left))
    ∙ ap (λ (n : ℕ). div_ceil n (chunk_size size)) left)
    ∙ plain (div_ceil (length piece - room) (chunk_size size))
  where
    plain : (n : ℕ) → suc n ≡ 1 + n
    plain n = omega arith
length-packed size (block ∷ next ∷ blocks) ssid copy offset piece some =
    ap suc (length-packed size (next ∷ blocks) ssid copy offset piece some)
    ∙ plain (length (next ∷ blocks)) (begun_by size (room_in size (next ∷ blocks)) (length piece))
  where
    plain : (m n : ℕ) → suc (m + n) ≡ suc m + n
    plain m n = omega arith

-- ---- how much room

room-cons : (size : ℕ) (block : List ChunkText) (rest : List (List ChunkText)) → 1 ≤ length rest → room_in size (block ∷ rest) ≡ room_in size rest
room-cons size block [] some = absurd (omega arith)
room-cons size block (next ∷ rest) some = refl

-- the room behind one chunk
room-one : (size ssid copy offset : ℕ) (bytes : List ℕ) → 1 ≤ length bytes
    → room_behind size (chunk_of ssid copy offset bytes) ≡ chunk_size size - length bytes - 24
room-one size ssid copy offset bytes some = omega (arith, length-chunk_of ssid copy offset bytes some)

room-new : (size more ssid copy offset : ℕ) (bytes : List ℕ) → 1 ≤ chunk_size size → 1 ≤ length bytes → length bytes ≤ more
    → room_in size (new_blocks (chunk_size size) more ssid copy offset bytes)
    ≡ chunk_size size * div_ceil (length bytes) (chunk_size size) - length bytes - 24
room-new size zero ssid copy offset bytes some has enough = absurd (omega arith)
room-new size (suc more) ssid copy offset [] some has enough = absurd (omega arith)
room-new size (suc more) ssid copy offset (byte ∷ bytes) some has enough =
    let all : List ℕ = byte ∷ bytes in
    let most : ℕ = chunk_size size in
    let rest : List ℕ = drop most all in
    let left : length rest ≡ length all - most = length-drop most all in
    let count = div_ceil (length all - most) most in
    let steps : div_ceil (length all) most ≡ suc count = ceil_more (length all) most some (omega arith) in
    elim (cases_lt most (length all)) [
      | inl above ↦
          let have : 1 ≤ length rest = omega (arith, left, above) in
          let one-more : div_ceil (length rest) most ≡ suc (div_ceil (length rest - most) most) = ceil_more (length rest) most some have in
          let long : 1 ≤ length (new_blocks most more ssid copy (offset + most) rest) =
          omega (arith, length-new most more ssid copy (offset + most) rest some (omega (arith, left, some)), one-more) in
          room-cons size (chunk_of ssid copy offset (take most all)) (new_blocks most more ssid copy (offset + most) rest) long
          ∙ room-new size more ssid copy (offset + most) rest some have (omega (arith, left, some))
          ∙ ap (λ (n : ℕ). most * div_ceil n most - n - 24) left
          ∙ fewer most count (length all) (omega (arith, above))
          ∙ ap (λ (n : ℕ). most * n - length all - 24) (sym steps)
      | inr below ↦
          let one : div_ceil (length all) most ≡ 1 = omega (arith, steps, ceil_none (length all - most) most some (omega (arith, below))) in
          let whole : take most all ≡ all = take_all most all below in
          ap (λ (blocks : List (List ChunkText)). room_in size (chunk_of ssid copy offset (take most all) ∷ blocks))
          (new_blocks_none most more ssid copy (offset + most) rest (omega (arith, left, below)))
          ∙ ap (λ (b : List ℕ). room_behind size (chunk_of ssid copy offset b)) whole
          ∙ room-one size ssid copy offset all (omega arith)
          ∙ (let same : most - length all - 24 ≡ most * 1 - length all - 24 = omega arith in same)
          ∙ ap (λ (n : ℕ). most * n - length all - 24) (sym one)
    ]
  where
    fewer : (most count size : ℕ) → most ≤ size → most * count - (size - most) - 24 ≡ most * suc count - size - 24
    fewer most count size far = omega (arith, mul-suc most count)

room-full : (size : ℕ) (blocks : List (List ChunkText)) (ssid copy offset : ℕ) (piece : List ℕ) → 1 ≤ chunk_size size → 1 ≤ length piece
    → room_in size (packed size blocks ssid copy offset piece)
    ≡ room_in size blocks + chunk_size size * begun_by size (room_in size blocks) (length piece) - length piece - 24
room-full size [] ssid copy offset piece some has =
    room-new size (length piece) ssid copy offset piece some has (omega arith)
    ∙ number (length piece)
  where
    number : (n : ℕ) → chunk_size size * div_ceil n (chunk_size size) - n - 24
        ≡ 0 + chunk_size size * div_ceil (n - 0) (chunk_size size) - n - 24
    number n =
        let same : n ≡ n - 0 = omega arith in
        ap (λ (k : ℕ). chunk_size size * div_ceil k (chunk_size size) - n - 24) same
        ∙ (let plain : chunk_size size * div_ceil (n - 0) (chunk_size size) - n - 24 ≡ 0 + chunk_size size * div_ceil (n - 0) (chunk_size size) - n - 24 = omega arith in plain)
room-full size (last ∷ []) ssid copy offset piece some has =
    let room = room_behind size last in
    let most = chunk_size size in
    let front = last ++ chunk_of ssid copy offset (take room piece) in
    let rest = drop room piece in
    let left = length-drop room piece in
    let new = new_blocks most (length piece) ssid copy (offset + room) rest in
    let long : length new ≡ div_ceil (length rest) most = length-new most (length piece) ssid copy (offset + room) rest some (omega (arith, left)) in
    elim (cases_lt room (length piece)) [
      | inl above ↦
          let have : 1 ≤ length rest = omega (arith, left, above) in
          room-cons size front new (omega (arith, long, ceil_more (length rest) most some have))
          ∙ room-new size (length piece) ssid copy (offset + room) rest some have (omega (arith, left))
          ∙ ap (λ (n : ℕ). most * div_ceil n most - n - 24) left
          ∙ behind most room (length piece) (omega (arith, above))
      | inr below ↦
          ap (λ (blocks : List (List ChunkText)). room_in size (front ∷ blocks))
          (new_blocks_none most (length piece) ssid copy (offset + room) rest (omega (arith, left, below)))
          ∙ ap (λ (b : List ℕ). room_behind size (last ++ chunk_of ssid copy offset b)) (take_all room piece below)
          ∙ room-add_last size (last ∷ []) (chunk_of ssid copy offset piece)
          ∙ within most room (length piece) (length (chunks_text (chunk_of ssid copy offset piece))) some below
          (length-chunk_of ssid copy offset piece has)
    ]
  where
    behind : (most room count : ℕ) → room ≤ count
        → most * div_ceil (count - room) most - (count - room) - 24 ≡ room + most * div_ceil (count - room) most - count - 24
    behind most room count far = omega arith

    within : (most room count text : ℕ) → 1 ≤ most → count ≤ room → text ≡ 24 + count
        → room - text ≡ room + most * div_ceil (count - room) most - count - 24
    within most room count text some low is =
        let none : most * div_ceil (count - room) most ≡ 0 = ap (λ (n : ℕ). most * n) (ceil_none (count - room) most some (omega arith)) ∙ mul-zero most in
        omega (arith, none)
room-full size (block ∷ next ∷ blocks) ssid copy offset piece some has =
    room-cons size block (packed size (next ∷ blocks) ssid copy offset piece)
    (omega (arith, length-packed size (next ∷ blocks) ssid copy offset piece some))
    ∙ room-full size (next ∷ blocks) ssid copy offset piece some has

when-some : (count some none : ℕ) → 1 ≤ count → cond (count == 0) none some ≡ some
when-some count some none has = grind (arith, nat_tests)

pub room-packed : (size : ℕ) (blocks : List (List ChunkText)) (ssid copy offset : ℕ) (piece : List ℕ) → 1 ≤ chunk_size size
    → room_in size (packed size blocks ssid copy offset piece) ≡ room_after size (room_in size blocks) (length piece)
room-packed size blocks ssid copy offset [] some = ap (room_in size) (packed_none size blocks ssid copy offset [] refl)
room-packed size blocks ssid copy offset (byte ∷ more) some =
    room-full size blocks ssid copy offset (byte ∷ more) some (omega arith)
    ∙ sym (when-some (length (byte ∷ more)) _ (room_in size blocks) (omega arith))

-- ---- what fits

pub fits-packed : (size most : ℕ) (blocks : List (List ChunkText)) (ssid copy offset : ℕ) (piece : List ℕ) → 1 ≤ chunk_size size
    → length blocks ≤ most
    → (length piece ≤ fits_behind size most blocks) ↔ (length (packed size blocks ssid copy offset piece) ≤ most)
fits-packed size most blocks ssid copy offset piece some few =
    let long = length-packed size blocks ssid copy offset piece some in (
      (λ fits.
          omega (arith, long, fits_ceil (length piece - room_in size blocks) (chunk_size size) (most - length blocks) some (omega (arith, fits)), few)),
      (λ whole.
          omega (arith, ceil_fits (length piece - room_in size blocks) (chunk_size size) (most - length blocks) some (omega (arith, long, whole, few)))),
    )
