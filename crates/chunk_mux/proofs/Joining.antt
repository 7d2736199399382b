-- The chunks of a push join to its piece.
use Rattle.std.proofs.Common.{◌≡◌, ℕ, zero, suc, ◌+◌, ◌≤◌, ◌<◌, List, [], ◌∷◌, ◌++◌, length, take, drop, Bool, true, false, cond, ◌&&◌, ◌||◌, ◌==◌, refl, sym, ap, subst, ◌∙◌, arith, append_assoc, inl, inr}
use Rattle.std.proofs.lemmas.Bool.{cases_lt}
use Rattle.std.proofs.lemmas.List.{append-nil, length-take-le, length-drop, nil_from_length, take-append-drop}
use Rattle.std.proofs.lemmas.List.Concat.{flat_map-append}
use Rattle.std.proofs.lemmas.List.Elements.{filter-append, All-from_recursion}
use Rattle.std.specs.List.{flat_map, filter}
use Rattle.volume_block.specs.Chunks.{ChunkText, all_chunks, JoinFrom}
use Rattle.chunk_mux.specs.Packing.{chunk_size, room_behind, chunk_of, new_blocks, packed}
use Rattle.chunk_mux.specs.Pushes.{Push, pushed, AddsChunks, bytes_of, pieces_of, has_set}
use Rattle.chunk_mux.specs.Spans.{IsPartOf}
use Rattle.chunk_mux.proofs.Packing.{new_blocks_none}
use Rattle.chunk_mux.proofs.Spans.{joined_parts, have-append, have-chunk_of, have-new}

-- ---- new blocks

-- a first chunk, and chunks that join to the rest
join_step : (ssid copy offset most : ℕ) (byte : ℕ) (bytes : List ℕ) (more : List ChunkText)
    → JoinFrom ssid copy (offset + suc most) more (drop most bytes) → (length bytes < most → more ≡ [])
    → JoinFrom ssid copy offset (record { ssid = ssid; copy = copy; offset = offset; bytes = byte ∷ take most bytes } ∷ more) (byte ∷ bytes)
join_step ssid copy offset most byte bytes more joins short = (
  refl,
  refl,
  refl,
  (
    drop most bytes,
    ap (λ (rest : List ℕ). byte ∷ rest) (sym (take-append-drop most bytes)),
    elim (cases_lt (length bytes) most) [
      | inl less ↦
          let none : more ≡ [] = short less in
          let P : List ChunkText → Type 0 = λ chunks. JoinFrom ssid copy (offset + length (byte ∷ take most bytes)) chunks (drop most bytes) in
          subst P (sym none) (nil_from_length (drop most bytes) (omega (arith, length-drop most bytes)))
      | inr enough ↦
          let same : offset + suc most ≡ offset + length (byte ∷ take most bytes) = omega (arith, length-take-le most bytes enough) in
          let P : ℕ → Type 0 = λ at. JoinFrom ssid copy at more (drop most bytes) in
          subst P same joins
    ],
  ),
)

all_none : (most more ssid copy offset : ℕ) (bytes : List ℕ) → length bytes ≡ 0 → all_chunks (new_blocks most more ssid copy offset bytes) ≡ []
all_none most more ssid copy offset bytes none = ap all_chunks (new_blocks_none most more ssid copy offset bytes none)

joins_new : (most more ssid copy offset : ℕ) (bytes : List ℕ) → 1 ≤ most → length bytes ≤ more
    → JoinFrom ssid copy offset (all_chunks (new_blocks most more ssid copy offset bytes)) bytes
joins_new most zero ssid copy offset [] some enough = refl
joins_new most zero ssid copy offset (byte ∷ bytes) some enough = absurd (omega arith)
joins_new most (suc more) ssid copy offset [] some enough = refl
joins_new zero (suc more) ssid copy offset (byte ∷ bytes) some enough = absurd (omega arith)
joins_new (suc most) (suc more) ssid copy offset (byte ∷ bytes) some enough =
    join_step ssid copy offset most byte bytes (all_chunks (new_blocks (suc most) more ssid copy (offset + suc most) (drop most bytes)))
    (joins_new (suc most) more ssid copy (offset + suc most) (drop most bytes) some (omega (arith, length-drop most bytes)))
    (λ less. all_none (suc most) more ssid copy (offset + suc most) (drop most bytes) (omega (arith, length-drop most bytes)))

-- ---- one push

pub packed_joins : (size ssid copy offset : ℕ) (piece : List ℕ) → 1 ≤ chunk_size size
    → JoinFrom ssid copy offset (all_chunks (packed size [] ssid copy offset piece)) piece
packed_joins size ssid copy offset piece some = joins_new (chunk_size size) (length piece) ssid copy offset piece some (omega arith)

added_behind : (last front : List ChunkText) (rest : List (List ChunkText))
    → all_chunks ((last ++ front) ∷ rest) ≡ all_chunks (last ∷ []) ++ (front ++ all_chunks rest)
added_behind last front rest =
    append_assoc last front (all_chunks rest) ∙ ap (λ (l : List ChunkText). l ++ (front ++ all_chunks rest)) (sym (append-nil last))

joins_last : (most more ssid copy offset room : ℕ) (piece : List ℕ) → 1 ≤ most → length piece ≤ more
    → JoinFrom ssid copy offset
    (chunk_of ssid copy offset (take room piece) ++ all_chunks (new_blocks most more ssid copy (offset + room) (drop room piece))) piece
joins_last most more ssid copy offset zero piece some enough =
    let P : ℕ → Type 0 = λ at. JoinFrom ssid copy offset (all_chunks (new_blocks most more ssid copy at piece)) piece in
    subst P (let here : offset ≡ offset + 0 = omega arith in here) (joins_new most more ssid copy offset piece some enough)
joins_last most more ssid copy offset (suc room) [] some enough =
    let P : List ChunkText → Type 0 = λ chunks. JoinFrom ssid copy offset chunks [] in
    subst P (sym (all_none most more ssid copy (offset + suc room) [] refl)) refl
joins_last most more ssid copy offset (suc room) (byte ∷ bytes) some enough =
    join_step ssid copy offset room byte bytes (all_chunks (new_blocks most more ssid copy (offset + suc room) (drop room bytes)))
    (joins_new most more ssid copy (offset + suc room) (drop room bytes) some (omega (arith, length-drop room bytes)))
    (λ less. all_none most more ssid copy (offset + suc room) (drop room bytes) (omega (arith, length-drop room bytes)))

pub packed_adds : (size : ℕ) (blocks : List (List ChunkText)) (ssid copy offset : ℕ) (piece : List ℕ) → 1 ≤ chunk_size size
    → AddsChunks blocks (packed size blocks ssid copy offset piece) ssid copy offset piece
packed_adds size [] ssid copy offset piece some = record {
  added = all_chunks (new_blocks (chunk_size size) (length piece) ssid copy offset piece);
  behind = refl;
  joined = joins_new (chunk_size size) (length piece) ssid copy offset piece some (omega arith);
  parts = All-from_recursion (IsPartOf ssid copy offset piece) _ (joined_parts ssid copy offset _ piece
      (joins_new (chunk_size size) (length piece) ssid copy offset piece some (omega arith))
      (have-new (chunk_size size) (length piece) ssid copy offset piece));
}
packed_adds size (last ∷ []) ssid copy offset piece some =
    let room = room_behind size last in
    let front = chunk_of ssid copy offset (take room piece) in
    let rest = new_blocks (chunk_size size) (length piece) ssid copy (offset + room) (drop room piece) in
    let joins = joins_last (chunk_size size) (length piece) ssid copy offset room piece some (omega arith) in
    record {
      added = front ++ all_chunks rest;
      behind = added_behind last front rest;
      joined = joins;
      parts = All-from_recursion (IsPartOf ssid copy offset piece) _ (joined_parts ssid copy offset _ piece joins
          (have-append front (all_chunks rest) (have-chunk_of ssid copy offset (take room piece))
          (have-new (chunk_size size) (length piece) ssid copy (offset + room) (drop room piece))));
    }
packed_adds size (block ∷ next ∷ more) ssid copy offset piece some =
    let rest = packed_adds size (next ∷ more) ssid copy offset piece some in
    record {
      added = rest.added;
      behind = ap (λ (chunks : List ChunkText). block ++ chunks) rest.behind ∙ sym (append_assoc block (all_chunks (next ∷ more)) rest.added);
      joined = rest.joined;
      parts = rest.parts;
    }

-- ---- many pushes

bytes-append : (ssid copy : ℕ) (one other : List ChunkText) → bytes_of ssid copy (one ++ other) ≡ bytes_of ssid copy one ++ bytes_of ssid copy other
bytes-append ssid copy one other =
    ap (flat_map (λ (chunk : ChunkText). chunk.bytes)) (filter-append (λ (chunk : ChunkText). (chunk.ssid == ssid) && (chunk.copy == copy)) one other)
    ∙ flat_map-append (λ (chunk : ChunkText). chunk.bytes) (filter (λ (chunk : ChunkText). (chunk.ssid == ssid) && (chunk.copy == copy)) one)
    (filter (λ (chunk : ChunkText). (chunk.ssid == ssid) && (chunk.copy == copy)) other)

-- the chunks of one push have its piece, or nothing for another copy
bytes_joined : (ssid copy s c offset : ℕ) (test : Bool) (chunks : List ChunkText) (piece : List ℕ) → JoinFrom s c offset chunks piece
    → ((s == ssid) && (c == copy)) ≡ test → bytes_of ssid copy chunks ≡ cond test piece []
bytes_joined ssid copy s c offset true [] piece joins is = sym joins
bytes_joined ssid copy s c offset false [] piece joins is = refl
bytes_joined ssid copy s c offset true (chunk ∷ chunks) piece joins is =
    let passes : ((chunk.ssid == ssid) && (chunk.copy == copy)) ≡ true =
    ap (λ (n : ℕ). (n == ssid) && (chunk.copy == copy)) joins.0 ∙ ap (λ (n : ℕ). (s == ssid) && (n == copy)) joins.1 ∙ is in
    ap (λ (b : Bool). flat_map (λ (one : ChunkText). one.bytes)
    (cond b (chunk ∷ filter (λ (one : ChunkText). (one.ssid == ssid) && (one.copy == copy)) chunks)
    (filter (λ (one : ChunkText). (one.ssid == ssid) && (one.copy == copy)) chunks))) passes
    ∙ ap (λ (bytes : List ℕ). chunk.bytes ++ bytes) (bytes_joined ssid copy s c (offset + length chunk.bytes) true chunks joins.3.0 joins.3.2 is)
    ∙ sym joins.3.1
bytes_joined ssid copy s c offset false (chunk ∷ chunks) piece joins is =
    let fails : ((chunk.ssid == ssid) && (chunk.copy == copy)) ≡ false =
    ap (λ (n : ℕ). (n == ssid) && (chunk.copy == copy)) joins.0 ∙ ap (λ (n : ℕ). (s == ssid) && (n == copy)) joins.1 ∙ is in
    ap (λ (b : Bool). flat_map (λ (one : ChunkText). one.bytes)
    (cond b (chunk ∷ filter (λ (one : ChunkText). (one.ssid == ssid) && (one.copy == copy)) chunks)
    (filter (λ (one : ChunkText). (one.ssid == ssid) && (one.copy == copy)) chunks))) fails
    ∙ bytes_joined ssid copy s c (offset + length chunk.bytes) false chunks joins.3.0 joins.3.2 is

pieces_more : (ssid copy : ℕ) (push : Push) (more : List Push) (test : Bool) → ((push.ssid == ssid) && (push.copy == copy)) ≡ test
    → pieces_of ssid copy (push ∷ more) ≡ cond test push.piece [] ++ pieces_of ssid copy more
pieces_more ssid copy push more true is =
    ap (λ (b : Bool). flat_map (λ (one : Push). one.piece)
    (cond b (push ∷ filter (λ (one : Push). (one.ssid == ssid) && (one.copy == copy)) more)
    (filter (λ (one : Push). (one.ssid == ssid) && (one.copy == copy)) more))) is
pieces_more ssid copy push more false is =
    ap (λ (b : Bool). flat_map (λ (one : Push). one.piece)
    (cond b (push ∷ filter (λ (one : Push). (one.ssid == ssid) && (one.copy == copy)) more)
    (filter (λ (one : Push). (one.ssid == ssid) && (one.copy == copy)) more))) is

pub pushes_kept : (size : ℕ) (blocks : List (List ChunkText)) (pushes : List Push) (ssid copy : ℕ) → 1 ≤ chunk_size size
    → bytes_of ssid copy (all_chunks (pushed size blocks pushes)) ≡ bytes_of ssid copy (all_chunks blocks) ++ pieces_of ssid copy pushes
pushes_kept size blocks [] ssid copy some = sym (append-nil (bytes_of ssid copy (all_chunks blocks)))
pushes_kept size blocks (push ∷ more) ssid copy some =
    let test = (push.ssid == ssid) && (push.copy == copy) in
    let new = packed size blocks push.ssid push.copy push.offset push.piece in
    let adds = packed_adds size blocks push.ssid push.copy push.offset push.piece some in
    let old = bytes_of ssid copy (all_chunks blocks) in
    let rest = pieces_of ssid copy more in
    pushes_kept size new more ssid copy some
    ∙ ap (λ (bytes : List ℕ). bytes ++ rest)
    (ap (bytes_of ssid copy) adds.behind ∙ bytes-append ssid copy (all_chunks blocks) adds.added
    ∙ ap (λ (bytes : List ℕ). old ++ bytes) (bytes_joined ssid copy push.ssid push.copy push.offset test adds.added push.piece adds.joined refl))
    ∙ append_assoc old (cond test push.piece []) rest
    ∙ ap (λ (bytes : List ℕ). old ++ bytes) (sym (pieces_more ssid copy push more test refl))

-- ---- whether a save set has a chunk

or-assoc : (one two three : Bool) → ((one || two) || three) ≡ (one || (two || three))
or-assoc true two three = refl
or-assoc false two three = refl

pub has_set-append : (ssid : ℕ) (one other : List ChunkText) → has_set ssid (one ++ other) ≡ (has_set ssid one || has_set ssid other)
has_set-append ssid [] other = refl
has_set-append ssid (chunk ∷ one) other =
    ap (λ (b : Bool). (chunk.ssid == ssid) || b) (has_set-append ssid one other)
    ∙ sym (or-assoc (chunk.ssid == ssid) (has_set ssid one) (has_set ssid other))

or-same : (b : Bool) → (b || b) ≡ b
or-same true = refl
or-same false = refl

-- chunks that join to a piece that has bytes are of its save set
has_set-more : (ssid s copy offset : ℕ) (chunk : ChunkText) (chunks : List ChunkText) (piece : List ℕ) → JoinFrom s copy offset (chunk ∷ chunks) piece
    → has_set ssid (chunk ∷ chunks) ≡ (s == ssid)
has_set-more ssid s copy offset chunk [] piece joins =
    ap (λ (n : ℕ). (n == ssid) || false) joins.0 ∙ or-false (s == ssid)
  where
    or-false : (b : Bool) → (b || false) ≡ b
    or-false true = refl
    or-false false = refl
has_set-more ssid s copy offset chunk (next ∷ chunks) piece joins =
    ap (λ (n : ℕ). (n == ssid) || has_set ssid (next ∷ chunks)) joins.0
    ∙ ap (λ (b : Bool). (s == ssid) || b) (has_set-more ssid s copy (offset + length chunk.bytes) next chunks joins.3.0 joins.3.2)
    ∙ or-same (s == ssid)

pub has_set-joined : (ssid s copy offset : ℕ) (chunks : List ChunkText) (piece : List ℕ) → JoinFrom s copy offset chunks piece → 1 ≤ length piece
    → has_set ssid chunks ≡ (s == ssid)
has_set-joined ssid s copy offset [] piece joins some =
    let none : length piece ≡ 0 = ap length joins in absurd (omega (arith, none, some))
has_set-joined ssid s copy offset (chunk ∷ chunks) piece joins some = has_set-more ssid s copy offset chunk chunks piece joins

-- a piece that has bytes adds its save set to those that have a chunk
pub packed_sets : (size : ℕ) (blocks : List (List ChunkText)) (ssid s copy offset : ℕ) (piece : List ℕ) → 1 ≤ chunk_size size → 1 ≤ length piece
    → has_set ssid (all_chunks (packed size blocks s copy offset piece)) ≡ (has_set ssid (all_chunks blocks) || (s == ssid))
packed_sets size blocks ssid s copy offset piece some more =
    let adds = packed_adds size blocks s copy offset piece some in
    ap (has_set ssid) adds.behind ∙ has_set-append ssid (all_chunks blocks) adds.added
    ∙ ap (λ (b : Bool). has_set ssid (all_chunks blocks) || b) (has_set-joined ssid s copy offset adds.added piece adds.joined more)
