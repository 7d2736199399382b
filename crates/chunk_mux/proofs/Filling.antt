-- The fields of data blocks and the chunks that they hold.
use Rattle.std.proofs.Common.{◌≡◌, ℕ, suc, ◌+◌, ◌-◌, ◌*◌, ◌^◌, ◌≤◌, ◌<◌, List, [], ◌∷◌, ◌++◌, length, take, drop, get_or, set, refl, sym, ap, subst, ◌∙◌, arith, inl, inr}
use Rattle.std.proofs.Math.Nat.{mul-suc, mul-le-mul_left}
use Rattle.std.proofs.lemmas.List.{append-nil, length-take-le, length-drop, length-set, take_more, take_more_set, with_items_is}
use Rattle.std.specs.Vec.{with_items}
use Rattle.std.specs.declared.vec.Vec.{Vec}
use Rattle.std.proofs.lemmas.List.Elements.{All-from_recursion}
use Rattle.volume_block.specs.Chunks.{ChunkText, IsChunk, chunk_head, chunks_text}
use Rattle.volume_block.specs.Layout.{IsUnits, data_size}
use Rattle.volume_block.specs.Valid.{AreChunks}
use Rattle.volume_block.specs.Region.{AreBlocks}
use Rattle.chunk_mux.specs.Text.{Hold, written}
use Rattle.chunk_mux.specs.Blocks.{AreFilled, view_of, used_in, data_in, buffer_size}
use Rattle.chunk_mux.specs.Packing.{BufferView, payload_size, room_in, add_last, chunk_of}
use Rattle.chunk_mux.specs.declared.blocks.DataBlocks.TheInside.{Inside}
use Rattle.chunk_mux.proofs.Holding.{held_chunks, length-held, held_allowed, held_room, hold_added, hold_begun}
use Rattle.chunk_mux.proofs.Packing.{length-chunk_of}
use Rattle.chunk_mux.proofs.Written.{length-written, drop-written}

-- ---- units

pub units_few : (units : ℕ) → IsUnits units → (1 ≤ units) × (units ≤ 16)
units_few units (inl one) = (omega (arith, one), omega (arith, one))
units_few units (inr (inl two)) = (omega (arith, two), omega (arith, two))
units_few units (inr (inr (inl four))) = (omega (arith, four), omega (arith, four))
units_few units (inr (inr (inr (inl eight)))) = (omega (arith, eight), omega (arith, eight))
units_few units (inr (inr (inr (inr sixteen)))) = (omega (arith, sixteen), omega (arith, sixteen))

-- the block at an index ends within the data blocks
pub block_within : (size i : ℕ) → i < 64 → size * suc i ≤ size * 64
block_within size i low = mul-le-mul_left size (let up : suc i ≤ 64 = omega arith in up)

-- ---- the view

-- the chunks that data blocks are seen as stand in its blocks
pub stands : (inside : Inside) (value : BufferView) → view_of inside ≡ value → AreFilled inside
    → Hold inside.units value.blocks (used_in inside) (data_in inside)
stands inside value is ok =
    let P : List (List ChunkText) → Type 0 = λ chunks. Hold inside.units chunks (used_in inside) (data_in inside) in
    subst P (sym (held_chunks inside.units ok.holds.0 (used_in inside) (data_in inside) (units_few inside.units ok.sized).1 ok.holds.1)
    ∙ ap (λ (view : BufferView). view.blocks) is) ok.holds.1

pub same_units : (inside : Inside) (value : BufferView) → view_of inside ≡ value → inside.units ≡ value.units
same_units inside value is = ap (λ (view : BufferView). view.units) is

pub as_many : (inside : Inside) (value : BufferView) → view_of inside ≡ value → AreFilled inside → length value.blocks ≡ inside.begun
as_many inside value is ok =
    length-held inside.units value.blocks (used_in inside) (data_in inside) (stands inside value is ok)
    ∙ length-take-le inside.begun inside.used (omega (arith, ok.places, ok.counted))

pub all_allowed : (inside : Inside) (value : BufferView) → view_of inside ≡ value → AreFilled inside → AreBlocks value.units value.blocks
all_allowed inside value is ok =
    subst (λ (units : ℕ). AreBlocks units value.blocks) (same_units inside value is)
    (held_allowed inside.units value.blocks (used_in inside) (data_in inside) (stands inside value is ok))

-- how much of the last block is used
used_last : (inside : Inside) (last : ℕ) → AreFilled inside → last + 1 ≡ inside.begun
    → used_in inside ≡ take last inside.used ++ get_or inside.used last 0 ∷ []
used_last inside last ok is =
    ap (λ (n : ℕ). take n inside.used) (sym is) ∙ take_more inside.used last 0 (omega (arith, ok.places, ok.counted))

pub room_is : (inside : Inside) (value : BufferView) (last : ℕ) → view_of inside ≡ value → AreFilled inside → last + 1 ≡ inside.begun
    → room_in (payload_size inside.units) value.blocks ≡ payload_size inside.units - get_or inside.used last 0 - 24
room_is inside value last is ok at =
    let P : List ℕ → Type 0 = λ used. Hold inside.units value.blocks used (data_in inside) in
    held_room inside.units value.blocks (take last inside.used) (get_or inside.used last 0) (data_in inside)
    (subst P (used_last inside last ok at) (stands inside value is ok))

pub no_room : (size : ℕ) (blocks : List (List ChunkText)) → length blocks ≡ 0 → room_in size blocks ≡ 0
no_room size [] none = refl
no_room size (block ∷ blocks) none = absurd (omega arith)

pub most_room : (size : ℕ) (blocks : List (List ChunkText)) → room_in size blocks ≤ size - 24
most_room size [] = omega arith
most_room size (last ∷ []) = omega arith
most_room size (block ∷ next ∷ []) = most_room size (next ∷ [])
most_room size (block ∷ next ∷ other ∷ more) = most_room size (next ∷ other ∷ more)

-- where there is room for a chunk a block is begun
pub record HasLast (inside : Inside) (value : BufferView) : Type 0 where
  pub some : 1 ≤ inside.begun
  pub room : room_in (payload_size inside.units) value.blocks
      ≡ payload_size inside.units - get_or inside.used (inside.begun - 1) 0 - 24

some_begun : (size : ℕ) (blocks : List (List ChunkText)) (n : ℕ) → 1 ≤ room_in size blocks → length blocks ≡ n → 1 ≤ n
some_begun size [] n room many = absurd (omega arith)
some_begun size (block ∷ more) n room many = omega arith

pub has_last : (inside : Inside) (value : BufferView) → view_of inside ≡ value → AreFilled inside
    → 1 ≤ room_in (payload_size inside.units) value.blocks → HasLast inside value
has_last inside value is ok room =
    let many : length value.blocks ≡ inside.begun = as_many inside value is ok in
    let some : 1 ≤ inside.begun = some_begun (payload_size inside.units) value.blocks inside.begun room many in
    record { some = some; room = room_is inside value (inside.begun - 1) is ok (omega arith) }

-- ---- a chunk's bytes

pub text-chunk_of : (ssid copy offset : ℕ) (piece : List ℕ) → 1 ≤ length piece
    → chunks_text (chunk_of ssid copy offset piece) ≡ chunk_head ssid copy offset (length piece) ++ piece
text-chunk_of ssid copy offset [] some = absurd (omega arith)
text-chunk_of ssid copy offset (byte ∷ more) some = append-nil (chunk_head ssid copy offset (length (byte ∷ more)) ++ (byte ∷ more))

-- a chunk with its fields in their ranges, which has room in a block
pub allowed-chunk_of : (units ssid copy offset : ℕ) (piece : List ℕ) → 1 ≤ ssid → ssid < 2 ^ 64 → 1 ≤ copy → copy < 2 ^ 32 → 1 ≤ length piece
    → 80 + length piece ≤ data_size units → offset + length piece ≤ 2 ^ 36 → AreChunks units (chunk_of ssid copy offset piece)
allowed-chunk_of units ssid copy offset [] s st c ct some fits ends = absurd (omega arith)
allowed-chunk_of units ssid copy offset (byte ∷ more) s st c ct some fits ends = record {
  some = λ none. cc;
  fit = omega (arith, fits, length-chunk_of ssid copy offset (byte ∷ more) some);
  each = All-from_recursion IsChunk (chunk_of ssid copy offset (byte ∷ more))
      (record { ssid = (s, st); copy = (c, ct); some = some; ends = ends }, tt);
}

-- ---- a chunk more

-- the fields hold these chunks
pub record Becomes (after : Inside) (value : BufferView) : Type 0 where
  pub ok : AreFilled after
  pub view : view_of after ≡ value

-- they are seen as these
pub seen_as : (after : Inside) (value : BufferView) → after.units ≤ 16 → after.units ≡ value.units
    → Hold after.units value.blocks (used_in after) (data_in after) → view_of after ≡ value
seen_as after value few same held =
    ap (λ (blocks : List (List ChunkText)). view_with after.units blocks)
    (held_chunks after.units value.blocks (used_in after) (data_in after) few held)
    ∙ ap (λ (units : ℕ). view_with units value.blocks) same
  where
    view_with : ℕ → List (List ChunkText) → BufferView
    view_with units blocks = record { units = units; blocks = blocks }

becomes : (after : Inside) (value : BufferView) → IsUnits after.units → length after.bytes.items ≡ buffer_size after.units → length after.used ≡ 64
    → after.begun ≤ 64 → after.units ≡ value.units → Hold after.units value.blocks (used_in after) (data_in after) → Becomes after value
becomes after value sized whole places counted same held = record {
  ok = record { sized = sized; whole = whole; places = places; counted = counted; holds = (value.blocks, held) };
  view = seen_as after value (units_few after.units sized).1 same held;
}

-- a chunk's bytes in the data blocks, from a place in them on
data_written : (inside after : Inside) (at : ℕ) (text : List ℕ) → after.bytes.items ≡ written (4096 + at) text inside.bytes.items
    → 4096 + at ≤ length inside.bytes.items → data_in after ≡ written at text (data_in inside)
data_written inside after at text is low = ap (drop 4096) is ∙ drop-written 4096 at text inside.bytes.items low

pub chunk_added : (inside after : Inside) (value : BufferView) (ssid copy offset last : ℕ) (piece : List ℕ)
    → view_of inside ≡ value → AreFilled inside → last + 1 ≡ inside.begun
    → 1 ≤ ssid → ssid < 2 ^ 64 → 1 ≤ copy → copy < 2 ^ 32 → offset + length piece ≤ 2 ^ 36 → 1 ≤ length piece
    → length piece ≤ room_in (payload_size inside.units) value.blocks
    → after.bytes.items ≡ written (4096 + data_size inside.units * last + 56 + get_or inside.used last 0)
    (chunk_head ssid copy offset (length piece) ++ piece) inside.bytes.items
    → after.used ≡ set inside.used last (get_or inside.used last 0 + 24 + length piece) → after.begun ≡ inside.begun → after.units ≡ inside.units
    → Becomes after (record value { blocks = add_last value.blocks (chunk_of ssid copy offset piece) })
chunk_added inside after value ssid copy offset last piece is ok at s st c ct ends some room bytes-is used-is begun-is units-is =
    let units = inside.units in
    let size = data_size units in
    let more = chunk_of ssid copy offset piece in
    let old = get_or inside.used last 0 in
    let front = take last inside.used in
    let P : List ℕ → Type 0 = λ us. Hold units value.blocks us (data_in inside) in
    let before = subst P (used_last inside last ok at) (stands inside value is ok) in
    let long : length front ≡ last = length-take-le last inside.used (omega (arith, ok.places, ok.counted)) in
    let space = room_is inside value last is ok at in
    let text = length-chunk_of ssid copy offset piece some in
    let within : size * suc last ≤ size * 64 = block_within size last (omega (arith, at, ok.counted)) in
    let next : size * suc last ≡ size * last + size = mul-suc' size last in
    let place : 4096 + size * last + 56 + old ≡ 4096 + (size * length front + (56 + old)) = places size last (length front) old (sym long) in
    let now = hold_added units value.blocks front old (data_in inside) more before
    (allowed-chunk_of units ssid copy offset piece s st c ct some (omega (arith, space, room, some)) ends)
    (omega (arith, space, room, some, text)) (omega (arith, within, next, ok.whole, long, length-drop 4096 inside.bytes.items)) in
    let count : old + 24 + length piece ≡ old + length (chunks_text more) = omega (arith, text) in
    let used-now : used_in after ≡ front ++ (old + length (chunks_text more)) ∷ [] =
    ap (λ (n : ℕ). take n after.used) (begun-is ∙ sym at) ∙ ap (take (last + 1)) used-is
    ∙ take_more_set inside.used last (old + 24 + length piece) (omega (arith, ok.places, ok.counted, at))
    ∙ ap (λ (n : ℕ). front ++ n ∷ []) count in
    let data-now : data_in after ≡ written (size * length front + (56 + old)) (chunks_text more) (data_in inside) =
    data_written inside after (size * length front + (56 + old)) (chunks_text more)
    (bytes-is ∙ ap (λ (n : ℕ). written n (chunk_head ssid copy offset (length piece) ++ piece) inside.bytes.items) place
    ∙ ap (λ (t : List ℕ). written (4096 + (size * length front + (56 + old))) t inside.bytes.items) (sym (text-chunk_of ssid copy offset piece some)))
    (omega (arith, place, within, next, ok.whole, space, room, some)) in
    becomes after (record value { blocks = add_last value.blocks more }) (subst IsUnits (sym units-is) ok.sized)
    (ap length bytes-is
    ∙ length-written (4096 + size * last + 56 + old) (chunk_head ssid copy offset (length piece) ++ piece) inside.bytes.items
    (omega (arith, ap length (text-chunk_of ssid copy offset piece some), text, within, next, ok.whole, space, room, some))
    ∙ ok.whole ∙ ap buffer_size (sym units-is))
    (ap length used-is ∙ length-set inside.used last (old + 24 + length piece) ∙ ok.places)
    (omega (arith, begun-is, ok.counted)) (units-is ∙ same_units inside value is)
    (subst (λ (u : ℕ). Hold u (add_last value.blocks more) (used_in after) (data_in after)) (sym units-is)
    (subst (λ (us : List ℕ). Hold units (add_last value.blocks more) us (data_in after)) (sym used-now)
    (subst (λ (d : List ℕ). Hold units (add_last value.blocks more) (front ++ (old + length (chunks_text more)) ∷ []) d) (sym data-now) now)))
  where
    mul-suc' : (size n : ℕ) → size * suc n ≡ size * n + size
    mul-suc' size n = omega (arith, mul-suc size n)

    places : (size last front old : ℕ) → last ≡ front → 4096 + size * last + 56 + old ≡ 4096 + (size * front + (56 + old))
    places size last front old same = ap (λ (n : ℕ). 4096 + size * n + 56 + old) same ∙ (let e : 4096 + size * front + 56 + old ≡ 4096 + (size * front + (56 + old)) = omega arith in e)

pub chunk_begun : (inside after : Inside) (value : BufferView) (ssid copy offset : ℕ) (piece : List ℕ)
    → view_of inside ≡ value → AreFilled inside → inside.begun < 64
    → 1 ≤ ssid → ssid < 2 ^ 64 → 1 ≤ copy → copy < 2 ^ 32 → offset + length piece ≤ 2 ^ 36 → 1 ≤ length piece
    → 80 + length piece ≤ data_size inside.units
    → after.bytes.items ≡ written (4096 + data_size inside.units * inside.begun + 56)
    (chunk_head ssid copy offset (length piece) ++ piece) inside.bytes.items
    → after.used ≡ set inside.used inside.begun (24 + length piece) → after.begun ≡ inside.begun + 1 → after.units ≡ inside.units
    → Becomes after (record value { blocks = value.blocks ++ chunk_of ssid copy offset piece ∷ [] })
chunk_begun inside after value ssid copy offset piece is ok low s st c ct ends some room bytes-is used-is begun-is units-is =
    let units = inside.units in
    let size = data_size units in
    let ones = chunk_of ssid copy offset piece in
    let n = inside.begun in
    let used = used_in inside in
    let long : length used ≡ n = length-take-le n inside.used (omega (arith, ok.places, low)) in
    let text = length-chunk_of ssid copy offset piece some in
    let within : size * suc n ≤ size * 64 = block_within size n low in
    let next : size * suc n ≡ size * n + size = mul-suc' size n in
    let place : 4096 + size * n + 56 ≡ 4096 + (size * length used + 56) = places size n (length used) (sym long) in
    let now = hold_begun units value.blocks used (data_in inside) ones (stands inside value is ok)
    (allowed-chunk_of units ssid copy offset piece s st c ct some room ends)
    (omega (arith, within, long, ok.whole, length-drop 4096 inside.bytes.items)) in
    let used-now : used_in after ≡ used ++ length (chunks_text ones) ∷ [] =
    ap (λ (k : ℕ). take k after.used) begun-is ∙ ap (take (n + 1)) used-is ∙ take_more_set inside.used n (24 + length piece) (omega (arith, ok.places, low))
    ∙ ap (λ (k : ℕ). used ++ k ∷ []) (sym text) in
    let data-now : data_in after ≡ written (size * length used + 56) (chunks_text ones) (data_in inside) =
    data_written inside after (size * length used + 56) (chunks_text ones)
    (bytes-is ∙ ap (λ (k : ℕ). written k (chunk_head ssid copy offset (length piece) ++ piece) inside.bytes.items) place
    ∙ ap (λ (t : List ℕ). written (4096 + (size * length used + 56)) t inside.bytes.items) (sym (text-chunk_of ssid copy offset piece some)))
    (omega (arith, place, within, next, ok.whole, room)) in
    becomes after (record value { blocks = value.blocks ++ ones ∷ [] }) (subst IsUnits (sym units-is) ok.sized)
    (ap length bytes-is
    ∙ length-written (4096 + size * n + 56) (chunk_head ssid copy offset (length piece) ++ piece) inside.bytes.items
    (omega (arith, ap length (text-chunk_of ssid copy offset piece some), text, within, next, ok.whole, room))
    ∙ ok.whole ∙ ap buffer_size (sym units-is))
    (ap length used-is ∙ length-set inside.used n (24 + length piece) ∙ ok.places)
    (omega (arith, begun-is, low)) (units-is ∙ same_units inside value is)
    (subst (λ (u : ℕ). Hold u (value.blocks ++ ones ∷ []) (used_in after) (data_in after)) (sym units-is)
    (subst (λ (us : List ℕ). Hold units (value.blocks ++ ones ∷ []) us (data_in after)) (sym used-now)
    (subst (λ (d : List ℕ). Hold units (value.blocks ++ ones ∷ []) (used ++ length (chunks_text ones) ∷ []) d) (sym data-now) now)))
  where
    mul-suc' : (size n : ℕ) → size * suc n ≡ size * n + size
    mul-suc' size n = omega (arith, mul-suc size n)

    places : (size last front : ℕ) → last ≡ front → 4096 + size * last + 56 ≡ 4096 + (size * front + 56)
    places size last front same = ap (λ (n : ℕ). 4096 + size * n + 56) same ∙ (let e : 4096 + size * front + 56 ≡ 4096 + (size * front + 56) = omega arith in e)

-- ---- writing a chunk

-- how much room a piece wants is told of the view
pub own_room : (inside : Inside) (value : BufferView) (count : ℕ) → view_of inside ≡ value → count ≤ room_in (payload_size value.units) value.blocks
    → count ≤ room_in (payload_size inside.units) value.blocks
own_room inside value count is fits =
    subst (λ (units : ℕ). count ≤ room_in (payload_size units) value.blocks) (sym (same_units inside value is)) fits

-- where a chunk goes in the last block, whose bytes are `size`
pub record LastPlace (inside : Inside) (count size : ℕ) : Type 0 where
  pub some : 1 ≤ inside.begun
  pub room : 80 + (get_or inside.used (inside.begun - 1) 0 + count) ≤ data_size inside.units
  pub ends : 4096 + size * (inside.begun - 1) + 56 + get_or inside.used (inside.begun - 1) 0 + (24 + count) ≤ length inside.bytes.items
  pub small : length inside.bytes.items ≤ 4202496
  pub units : data_size inside.units ≤ 65536

pub last_place : (inside : Inside) (value : BufferView) (count size : ℕ) → view_of inside ≡ value → AreFilled inside → 1 ≤ count
    → count ≤ room_in (payload_size value.units) value.blocks → size ≡ data_size inside.units → LastPlace inside count size
last_place inside value count size is ok has fits same =
    let own = own_room inside value count is fits in
    let last = has_last inside value is ok (omega (arith, own, has)) in
    let few = units_few inside.units ok.sized in
    let low : inside.begun - 1 < 64 = omega (arith, last.some, ok.counted) in
    let within : size * suc (inside.begun - 1) ≤ size * 64 = block_within size (inside.begun - 1) low in
    let next : size * suc (inside.begun - 1) ≡ size * (inside.begun - 1) + size = omega (arith, mul-suc size (inside.begun - 1)) in
    let whole : length inside.bytes.items ≡ 8192 + size * 64 = ok.whole ∙ ap (λ (n : ℕ). 8192 + n * 64) (sym same) in
    record {
      some = last.some;
      room = omega (arith, last.room, own, has);
      ends = omega (arith, last.room, own, has, within, next, whole, same);
      small = omega (arith, ok.whole, few);
      units = omega (arith, few);
    }

-- where a block begins that isn't begun, whose bytes are `size`
pub record NextPlace (inside : Inside) (count size : ℕ) : Type 0 where
  pub low : inside.begun < 64
  pub room : 80 + count ≤ data_size inside.units
  pub ends : 4096 + size * inside.begun + 56 + (24 + count) ≤ length inside.bytes.items
  pub small : length inside.bytes.items ≤ 4202496
  pub units : data_size inside.units ≤ 65536

pub next_place : (inside : Inside) (value : BufferView) (count size : ℕ) → view_of inside ≡ value → AreFilled inside → 1 ≤ count
    → count ≤ payload_size value.units - 24 → length value.blocks < 64 → size ≡ data_size inside.units → NextPlace inside count size
next_place inside value count size is ok has fits more same =
    let few = units_few inside.units ok.sized in
    let own = same_units inside value is in
    let low : inside.begun < 64 = omega (arith, as_many inside value is ok, more) in
    let within : size * suc inside.begun ≤ size * 64 = block_within size inside.begun low in
    let next : size * suc inside.begun ≡ size * inside.begun + size = omega (arith, mul-suc size inside.begun) in
    let whole : length inside.bytes.items ≡ 8192 + size * 64 = ok.whole ∙ ap (λ (n : ℕ). 8192 + n * 64) (sym same) in
    record {
      low = low;
      room = omega (arith, own, fits, has);
      ends = omega (arith, own, fits, has, within, next, whole, same);
      small = omega (arith, ok.whole, few);
      units = omega (arith, few);
    }

-- the bytes once a chunk is written, in the struct's words
pub written_in : {Z : Type 0} (bytes : Vec ℕ Z) (at at' : ℕ) (text old new : List ℕ) → length new ≡ bytes.len → new ≡ written at text old → old ≡ bytes.items
    → at ≡ at' → (with_items bytes new).items ≡ written at' text bytes.items
written_in bytes at at' text old new long is same place =
    with_items_is bytes new long ∙ is ∙ ap (λ (b : List ℕ). written at text b) same ∙ ap (λ (n : ℕ). written n text bytes.items) place
