-- Whether chunks make a whole stream.
use Rattle.std.specs.Prelude.{◌≡◌, ◌≢◌, ℕ, ◌+◌, ◌≤◌, ◌<◌, ◌^◌, Bool, ◌&&◌, nat_lt, nat_le, List, []}
use Rattle.std.specs.Prelude.{◌∷◌, length, get_or, if◌then◌else◌}
use Rattle.std.specs.Ordering.{nat_cmp, ordering_then}
use Rattle.std.specs.declared.cmp.Ordering.{Ordering}
use Rattle.std.specs.declared.cmp.Ordering.TheVariants.{Less}
use Rattle.chunk_mux.specs.declared.tiling.Placed.{Placed}
use Rattle.chunk_mux.specs.declared.tiling.Tiling.{Tiling}
use Rattle.chunk_mux.specs.declared.tiling.Tiling.TheVariants.{Whole, Hole, Overlap}

-- the chunk has bytes, all of them below a stream's limit
abbrev pub IsInStream : Placed → Type 0
IsInStream chunk = (1 ≤ chunk.length) × (chunk.offset + chunk.length ≤ 2 ^ 36)

-- by offset, volid, block and start
abbrev pub place_order : Placed → Placed → Ordering
place_order one other =
    ordering_then (ordering_then (ordering_then (nat_cmp one.offset other.offset)
    (nat_cmp one.volid.0 other.volid.0)) (nat_cmp one.block other.block))
    (nat_cmp one.start other.start)

-- the chunks stand in one place
abbrev pub IsSamePlace : Placed → Placed → Type 0
IsSamePlace one other =
    (one.volid.0 ≡ other.volid.0) × (one.block ≡ other.block) × (one.start ≡ other.start)

-- no two of these stand in one place
abbrev pub StandApart : List Placed → Type 0
StandApart chunks = (i j : ℕ) (none : Placed) → i < length chunks → j < length chunks → i ≢ j
    → ¬ IsSamePlace (get_or chunks i none) (get_or chunks j none)

-- each is before all those behind it
abbrev pub AreInOrder : List Placed → Type 0
AreInOrder chunks = (i j : ℕ) (none : Placed) → i < j → j < length chunks
    → place_order (get_or chunks i none) (get_or chunks j none) ≡ Less

-- What a walk over chunks finds that has reached this place: the place, where the next chunk is
-- above it; the offset of the next chunk, where it is below; else, once all have followed each
-- other, the place behind the last.
abbrev pub tiling_from : ℕ → List Placed → Tiling
tiling_from place [] = Whole place
tiling_from place (chunk ∷ more) =
    if nat_lt place chunk.offset then Hole place
    else (if nat_lt chunk.offset place then Overlap chunk.offset
    else tiling_from (place + chunk.length) more)

-- the chunk has the byte at this place of the stream
abbrev pub has_place : ℕ → Placed → Bool
has_place place chunk = nat_le chunk.offset place && nat_lt place (chunk.offset + chunk.length)
