-- What a push does to each block.
use Rattle.std.proofs.Common.{◌≡◌, ℕ, zero, suc, ◌+◌, ◌-◌, ◌≤◌, ◌<◌, List, [], ◌∷◌, ◌++◌, length, take, drop, get_or, Bool, true, false, cond, ◌==◌, refl, sym, ap, subst, ◌∙◌, arith}
use Rattle.std.proofs.lemmas.Bool.Decides.{nat_tests}
use Rattle.std.proofs.lemmas.List.{length-drop, drop_at, drop-drop}
use Rattle.std.specs.List.{AllByRecursion}
use Rattle.volume_block.specs.Chunks.{ChunkText, all_chunks, JoinFrom}
use Rattle.chunk_mux.specs.Packing.{chunk_size, room_behind, room_in, chunk_of, new_blocks, packed, first_in}
use Rattle.chunk_mux.specs.Spans.{IsPartOf, HasOneMore}
use Rattle.chunk_mux.proofs.Packing.{packed_none, packed_full}

-- ---- parts of a piece

front-is : (n : ℕ) (bytes : List ℕ) → take (length (take n bytes)) bytes ≡ take n bytes
front-is zero bytes = refl
front-is (suc n) [] = refl
front-is (suc n) (byte ∷ more) = ap (λ (rest : List ℕ). byte ∷ rest) (front-is n more)

-- the first bytes of a piece are a part of it
front-part : (ssid copy offset most byte : ℕ) (bytes : List ℕ)
    → IsPartOf ssid copy offset (byte ∷ bytes) (record { ssid = ssid; copy = copy; offset = offset; bytes = byte ∷ take most bytes })
front-part ssid copy offset most byte bytes =
    let here : offset - offset ≡ 0 = omega arith in
    record {
      of_set = refl;
      of_copy = refl;
      behind = omega arith;
      some = omega arith;
      slice = ap (λ (n : ℕ). take (length (byte ∷ take most bytes)) (drop n (byte ∷ bytes))) here
          ∙ front-is (suc most) (byte ∷ bytes);
    }

-- a part of what is behind the first bytes is a part of the piece
part-behind : (ssid copy offset count : ℕ) (piece : List ℕ) (chunk : ChunkText) → IsPartOf ssid copy (offset + count) (drop count piece) chunk
    → IsPartOf ssid copy offset piece chunk
part-behind ssid copy offset count piece chunk part =
    let far : chunk.offset - offset ≡ count + (chunk.offset - (offset + count)) = omega (arith, part.behind) in
    record {
      of_set = part.of_set;
      of_copy = part.of_copy;
      behind = omega (arith, part.behind);
      some = part.some;
      slice = ap (λ (n : ℕ). take (length chunk.bytes) (drop n piece)) far
          ∙ ap (take (length chunk.bytes)) (sym (drop-drop (chunk.offset - (offset + count)) count piece))
          ∙ part.slice;
    }

more-behind : (ssid copy offset count : ℕ) (piece : List ℕ) (old new : List ChunkText)
    → HasOneMore ssid copy (offset + count) (drop count piece) old new → HasOneMore ssid copy offset piece old new
more-behind ssid copy offset count piece old new more = record {
  chunk = more.chunk;
  part = part-behind ssid copy offset count piece more.chunk more.part;
  behind = more.behind;
}

-- ---- each block

new-more : (most more ssid copy offset : ℕ) (bytes : List ℕ) → 1 ≤ most → length bytes ≤ more → (i : ℕ)
    → i < length (new_blocks most more ssid copy offset bytes)
    → HasOneMore ssid copy offset bytes [] (get_or (new_blocks most more ssid copy offset bytes) i [])
new-more most zero ssid copy offset bytes some enough i low = absurd (omega arith)
new-more most (suc more) ssid copy offset [] some enough i low = absurd (omega arith)
new-more zero (suc more) ssid copy offset (byte ∷ bytes) some enough i low = absurd (omega arith)
new-more (suc most) (suc more) ssid copy offset (byte ∷ bytes) some enough zero low = record {
  chunk = record { ssid = ssid; copy = copy; offset = offset; bytes = byte ∷ take most bytes };
  part = front-part ssid copy offset most byte bytes;
  behind = refl;
}
new-more (suc most) (suc more) ssid copy offset (byte ∷ bytes) some enough (suc i) low =
    more-behind ssid copy offset (suc most) (byte ∷ bytes) [] _
    (new-more (suc most) more ssid copy (offset + suc most) (drop most bytes) some (omega (arith, length-drop most bytes)) i (omega arith))

-- the first block of a piece that has bytes
starts : Bool → ℕ → ℕ
starts full count = cond full count (count - 1)

first-is : (size : ℕ) (blocks : List (List ChunkText)) (piece : List ℕ) → 1 ≤ length piece
    → first_in size blocks piece ≡ starts (room_in size blocks == 0) (length blocks)
unfolding starts
first-is size blocks [] some = absurd (omega arith)
first-is size blocks (byte ∷ more) some = refl

starts-next : (full : Bool) (n : ℕ) → starts full (suc (suc n)) ≡ suc (starts full (suc n))
unfolding starts
starts-next true n = refl
starts-next false n = omega arith

starts-one : (room : ℕ) → 1 ≤ room → starts (room == 0) 1 ≡ 0
unfolding starts
starts-one room some = grind (arith, nat_tests)

starts-full : starts (0 == 0) 1 ≡ 1
unfolding starts
starts-full = refl

span-at : (size : ℕ) (blocks : List (List ChunkText)) (ssid copy offset : ℕ) (piece : List ℕ) → 1 ≤ chunk_size size → 1 ≤ length piece
    → (i : ℕ) → starts (room_in size blocks == 0) (length blocks) ≤ i → i < length (packed size blocks ssid copy offset piece)
    → HasOneMore ssid copy offset piece (get_or blocks i []) (get_or (packed size blocks ssid copy offset piece) i [])
span-at size [] ssid copy offset piece some more i from low =
    new-more (chunk_size size) (length piece) ssid copy offset piece some (omega arith) i low
span-at size (last ∷ []) ssid copy offset piece some more (suc i) from low =
    more-behind ssid copy offset (room_behind size last) piece [] _
    (new-more (chunk_size size) (length piece) ssid copy (offset + room_behind size last) (drop (room_behind size last) piece) some
    (omega (arith, length-drop (room_behind size last) piece)) i (omega arith))
span-at size (last ∷ []) ssid copy offset [] some more zero from low = absurd (omega arith)
span-at size (last ∷ []) ssid copy offset (byte ∷ bytes) some more zero from low =
    first-more (room_behind size last) refl
  where
    first-more : (room : ℕ) → room_behind size last ≡ room
        → HasOneMore ssid copy offset (byte ∷ bytes) last (last ++ chunk_of ssid copy offset (take (room_behind size last) (byte ∷ bytes)))
    first-more zero is =
        let full : starts (room_behind size last == 0) 1 ≡ 1 = ap (λ (n : ℕ). starts (n == 0) 1) is ∙ starts-full in
        absurd (omega (arith, full, from))
    first-more (suc room) is = record {
      chunk = record { ssid = ssid; copy = copy; offset = offset; bytes = byte ∷ take room bytes };
      part = front-part ssid copy offset room byte bytes;
      behind = ap (λ (n : ℕ). last ++ chunk_of ssid copy offset (take n (byte ∷ bytes))) is;
    }
span-at size (block ∷ next ∷ blocks) ssid copy offset piece some more zero from low =
    absurd (omega (arith, starts-next (room_in size (next ∷ blocks) == 0) (length blocks), from))
span-at size (block ∷ next ∷ blocks) ssid copy offset piece some more (suc i) from low =
    span-at size (next ∷ blocks) ssid copy offset piece some more i
    (omega (arith, starts-next (room_in size (next ∷ blocks) == 0) (length blocks), from)) (omega arith)

-- each block from the first on has one chunk more, of the piece
pub span_has : (size : ℕ) (blocks : List (List ChunkText)) (ssid copy offset : ℕ) (piece : List ℕ) (i : ℕ) → 1 ≤ chunk_size size
    → 1 ≤ length piece → first_in size blocks piece ≤ i → i < length (packed size blocks ssid copy offset piece)
    → HasOneMore ssid copy offset piece (get_or blocks i []) (get_or (packed size blocks ssid copy offset piece) i [])
span_has size blocks ssid copy offset piece i some more from low =
    span-at size blocks ssid copy offset piece some more i (omega (arith, first-is size blocks piece more, from)) low

before-at : (size : ℕ) (blocks : List (List ChunkText)) (ssid copy offset : ℕ) (piece : List ℕ) → 1 ≤ chunk_size size
    → take (starts (room_in size blocks == 0) (length blocks)) (packed size blocks ssid copy offset piece)
    ≡ take (starts (room_in size blocks == 0) (length blocks)) blocks
unfolding starts
before-at size [] ssid copy offset piece some = refl
before-at size (last ∷ []) ssid copy offset piece some = at-last (room_behind size last) refl
  where
    at-last : (room : ℕ) → room_behind size last ≡ room
        → take (starts (room_behind size last == 0) 1) (packed size (last ∷ []) ssid copy offset piece)
        ≡ take (starts (room_behind size last == 0) 1) (last ∷ [])
    at-last zero is =
        ap (take (starts (room_behind size last == 0) 1)) (packed_full size last ssid copy offset piece some is)
        ∙ ap (λ (n : ℕ). take (starts (n == 0) 1) (last ∷ new_blocks (chunk_size size) (length piece) ssid copy offset piece)) is
        ∙ ap (λ (n : ℕ). take (starts (n == 0) 1) (last ∷ [])) (sym is)
    at-last (suc room) is =
        ap (λ (n : ℕ). take n (packed size (last ∷ []) ssid copy offset piece)) (starts-one (room_behind size last) (omega (arith, is)))
        ∙ ap (λ (n : ℕ). take n (last ∷ [])) (sym (starts-one (room_behind size last) (omega (arith, is))))
before-at size (block ∷ next ∷ blocks) ssid copy offset piece some =
    let down = starts-next (room_in size (next ∷ blocks) == 0) (length blocks) in
    ap (λ (n : ℕ). take n (packed size (block ∷ next ∷ blocks) ssid copy offset piece)) down
    ∙ ap (λ (rest : List (List ChunkText)). block ∷ rest) (before-at size (next ∷ blocks) ssid copy offset piece some)
    ∙ ap (λ (n : ℕ). take n (block ∷ next ∷ blocks)) (sym down)

-- the blocks before the first one stay
pub span_before : (size : ℕ) (blocks : List (List ChunkText)) (ssid copy offset : ℕ) (piece : List ℕ) → 1 ≤ chunk_size size
    → take (first_in size blocks piece) (packed size blocks ssid copy offset piece) ≡ take (first_in size blocks piece) blocks
span_before size blocks ssid copy offset [] some = ap (take (length blocks - 1)) (packed_none size blocks ssid copy offset [] refl)
span_before size blocks ssid copy offset (byte ∷ more) some =
    let first = first-is size blocks (byte ∷ more) (omega arith) in
    ap (λ (n : ℕ). take n (packed size blocks ssid copy offset (byte ∷ more))) first
    ∙ before-at size blocks ssid copy offset (byte ∷ more) some
    ∙ ap (λ (n : ℕ). take n blocks) (sym first)

-- ---- chunks that join

take-front : (front rest : List ℕ) → take (length front) (front ++ rest) ≡ front
take-front [] rest = refl
take-front (byte ∷ front) rest = ap (λ (more : List ℕ). byte ∷ more) (take-front front rest)

-- chunks that have bytes and join to a piece are parts of it
pub joined_parts : (ssid copy offset : ℕ) (chunks : List ChunkText) (piece : List ℕ) → JoinFrom ssid copy offset chunks piece
    → AllByRecursion (λ (chunk : ChunkText). 1 ≤ length chunk.bytes) chunks → AllByRecursion (IsPartOf ssid copy offset piece) chunks
joined_parts ssid copy offset [] piece joins some = tt
joined_parts ssid copy offset (chunk ∷ chunks) piece (of_set, of_copy, at, (rest, parts, joins)) some =
    let here : chunk.offset - offset ≡ 0 = omega arith in
    let left : drop (length chunk.bytes) piece ≡ rest =
    ap (drop (length chunk.bytes)) parts ∙ drop_at chunk.bytes rest (length chunk.bytes) refl in (
      record {
        of_set = of_set;
        of_copy = of_copy;
        behind = omega arith;
        some = some.0;
        slice = ap (λ (n : ℕ). take (length chunk.bytes) (drop n piece)) here
            ∙ ap (take (length chunk.bytes)) parts ∙ take-front chunk.bytes rest;
      },
      behind-all ssid copy offset (length chunk.bytes) piece chunks
          (subst (λ (bytes : List ℕ). AllByRecursion (IsPartOf ssid copy (offset + length chunk.bytes) bytes) chunks) (sym left)
          (joined_parts ssid copy (offset + length chunk.bytes) chunks rest joins some.1)),
    )
  where
    behind-all : (ssid copy offset count : ℕ) (piece : List ℕ) (chunks : List ChunkText)
        → AllByRecursion (IsPartOf ssid copy (offset + count) (drop count piece)) chunks
        → AllByRecursion (IsPartOf ssid copy offset piece) chunks
    behind-all ssid copy offset count piece [] all = tt
    behind-all ssid copy offset count piece (chunk ∷ chunks) all =
        (part-behind ssid copy offset count piece chunk all.0, behind-all ssid copy offset count piece chunks all.1)

-- each chunk that is made has bytes
abbrev pub HaveBytes : List ChunkText → Type 0
HaveBytes chunks = AllByRecursion (λ (chunk : ChunkText). 1 ≤ length chunk.bytes) chunks

pub have-append : (one other : List ChunkText) → HaveBytes one → HaveBytes other → HaveBytes (one ++ other)
have-append [] other all more = more
have-append (chunk ∷ one) other all more = (all.0, have-append one other all.1 more)

pub have-chunk_of : (ssid copy offset : ℕ) (bytes : List ℕ) → HaveBytes (chunk_of ssid copy offset bytes)
have-chunk_of ssid copy offset [] = tt
have-chunk_of ssid copy offset (byte ∷ more) = (omega arith, tt)

pub have-new : (most more ssid copy offset : ℕ) (bytes : List ℕ) → HaveBytes (all_chunks (new_blocks most more ssid copy offset bytes))
have-new most zero ssid copy offset bytes = tt
have-new most (suc more) ssid copy offset [] = tt
have-new most (suc more) ssid copy offset (byte ∷ bytes) =
    have-append (chunk_of ssid copy offset (take most (byte ∷ bytes))) _ (have-chunk_of ssid copy offset (take most (byte ∷ bytes)))
    (have-new most more ssid copy (offset + most) (drop most (byte ∷ bytes)))
