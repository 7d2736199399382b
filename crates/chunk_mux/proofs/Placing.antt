-- Chunks that stand on volumes: a tiling of a copy that is whole, and what a push does.
use Rattle.std.proofs.Common.{◌≡◌, ◌⊎◌, inl, inr, ℕ, zero, suc, ◌+◌, ◌*◌, ◌≤◌, ◌<◌, List, [], ◌∷◌, ◌++◌, length, get_or, Bool, false, cond, refl, sym, ap, subst, ◌∙◌, arith, append_assoc, length-append}
use Rattle.std.proofs.lemmas.Bool.{cases_lt}
use Rattle.std.proofs.lemmas.Bool.Decides.{nat_tests}
use Rattle.std.proofs.lemmas.List.{get_or-take}
use Rattle.std.proofs.Math.Seq.{get_or-append_seam}
use Rattle.std.specs.Prelude.{nat_lt}
use Rattle.volume_block.specs.Chunks.{ChunkText, chunks_text, JoinFrom, joined}
use Rattle.volume_block.specs.Standing.{Standing, chunks_of, InBlocks}
use Rattle.chunk_mux.specs.Packing.{chunk_size, packed, first_in}
use Rattle.chunk_mux.specs.Placing.{places_of, AreOfCopy}
use Rattle.chunk_mux.specs.Spans.{IsPartOf}
use Rattle.chunk_mux.specs.Tiles.{tiling_from}
use Rattle.chunk_mux.specs.declared.tiling.Tiling.{Tiling}
use Rattle.chunk_mux.specs.declared.tiling.Tiling.TheVariants.{Whole, Hole, Overlap}
use Rattle.chunk_mux.proofs.Numbers.{length-packed}
use Rattle.chunk_mux.proofs.Packing.{packed_none}
use Rattle.chunk_mux.proofs.Spans.{span_has, span_before}
use Rattle.chunk_mux.proofs.Walking.{goes_on, same_place, whole_same}

-- ---- a tiling that is whole

-- what a walk that ends whole from this place on says of the chunks
pub record JoinsFrom (ssid copy place end : ℕ) (run : List Standing) : Type 0 where
  pub joins : JoinFrom ssid copy place (chunks_of run) (joined (chunks_of run))
  pub long : end ≡ place + length (joined (chunks_of run))

pub whole_joins : (ssid copy place end : ℕ) (run : List Standing) → AreOfCopy ssid copy run → tiling_from place (places_of run) ≡ Whole end
    → JoinsFrom ssid copy place end run
whole_joins ssid copy place end [] are is =
    let same : place ≡ end = whole_same place end is in record { joins = refl; long = omega (arith, same) }
whole_joins ssid copy place end (one ∷ run) are is =
    let size = length one.chunk.bytes in
    let on = goes_on (nat_lt place one.chunk.offset) (nat_lt one.chunk.offset place) place one.chunk.offset end
    (tiling_from (place + size) (places_of run)) is in
    let rest = whole_joins ssid copy (place + size) end run are.1 on.2 in
    record {
      joins = (are.0.0, are.0.1, same_place place one.chunk.offset on.0 on.1, (joined (chunks_of run), refl, rest.joins));
      long = omega (arith, rest.long, length-append one.chunk.bytes (joined (chunks_of run)));
    }

same_goes_on : (place offset : ℕ) (rest : Tiling) → offset ≡ place
    → cond (nat_lt place offset) (Hole place) (cond (nat_lt offset place) (Overlap offset) rest) ≡ rest
same_goes_on place offset rest is =
    ap (λ (b : Bool). cond b (Hole place) (cond (nat_lt offset place) (Overlap offset) rest)) (not_below place offset (omega arith))
    ∙ ap (λ (b : Bool). cond b (Overlap offset) rest) (not_below offset place (omega arith))
  where
    not_below : (one other : ℕ) → other ≤ one → nat_lt one other ≡ false
    not_below one other up = grind (arith, nat_tests)

pub joins_whole : (ssid copy place : ℕ) (run : List Standing) (bytes : List ℕ) → JoinFrom ssid copy place (chunks_of run) bytes
    → tiling_from place (places_of run) ≡ Whole (place + length bytes)
joins_whole ssid copy place [] bytes joins =
    let none : length bytes ≡ 0 = ap length joins in
    ap Whole (let same : place ≡ place + length bytes = omega (arith, none) in same)
joins_whole ssid copy place (one ∷ run) bytes (of_set, of_copy, at, (rest, parts, joins)) =
    let size = length one.chunk.bytes in
    let long : length bytes ≡ size + length rest = ap length parts ∙ length-append one.chunk.bytes rest in
    same_goes_on place one.chunk.offset (tiling_from (place + size) (places_of run)) at
    ∙ joins_whole ssid copy (place + size) run rest joins
    ∙ ap Whole (let same : place + size + length rest ≡ place + length bytes = omega (arith, long) in same)

-- ---- standings in blocks

record At (blocks : List (List ChunkText)) (i : ℕ) (chunks : List ChunkText) : Type 0 where
  pub earlier : List (List ChunkText)
  pub later : List (List ChunkText)
  pub parts : blocks ≡ earlier ++ chunks ∷ later
  pub size : length earlier ≡ i

no_cons : (before after : List ChunkText) (chunk : ChunkText) → [] ≡ before ++ chunk ∷ after → ⊥
no_cons [] after chunk is = let no : ⊥ = cc in no
no_cons (one ∷ before) after chunk is = let no : ⊥ = cc in no

at_index : (blocks : List (List ChunkText)) (i : ℕ) (before after : List ChunkText) (chunk : ChunkText)
    → get_or blocks i [] ≡ before ++ chunk ∷ after → At blocks i (before ++ chunk ∷ after)
at_index [] i before after chunk is = absurd (no_cons before after chunk is)
at_index (block ∷ blocks) zero before after chunk is =
    record { earlier = []; later = blocks; parts = ap (λ (b : List ChunkText). b ∷ blocks) is; size = refl }
at_index (block ∷ blocks) (suc i) before after chunk is =
    let rest = at_index blocks i before after chunk is in
    record {
      earlier = block ∷ rest.earlier;
      later = rest.later;
      parts = ap (λ (bs : List (List ChunkText)). block ∷ bs) rest.parts;
      size = ap suc rest.size;
    }

-- a standing by the index of its block
record StandsAt (blocks : List (List ChunkText)) (one : Standing) (i : ℕ) : Type 0 where
  pub before : List ChunkText
  pub after : List ChunkText
  pub is : get_or blocks i [] ≡ before ++ one.chunk ∷ after
  pub start : one.start ≡ 80 + length (chunks_text before)

to_index : (volid mark units : ℕ) (blocks : List (List ChunkText)) (one : Standing) → (inside : InBlocks volid mark units blocks one)
    → StandsAt blocks one (length inside.earlier)
to_index volid mark units blocks one inside = record {
  before = inside.before;
  after = inside.after;
  is = ap (λ (bs : List (List ChunkText)). get_or bs (length inside.earlier) []) inside.parts
      ∙ get_or-append_seam inside.earlier (inside.before ++ one.chunk ∷ inside.after) inside.later [];
  start = inside.start;
}

from_index : (volid mark units i : ℕ) (blocks : List (List ChunkText)) (one : Standing) → one.volid ≡ volid → one.mark ≡ mark → one.block ≡ mark + 1 + units * i
    → StandsAt blocks one i → InBlocks volid mark units blocks one
from_index volid mark units i blocks one volume at block stands =
    let found = at_index blocks i stands.before stands.after one.chunk stands.is in
    let s = found.size in
    record {
      volume = volume;
      at = at;
      earlier = found.earlier;
      before = stands.before;
      after = stands.after;
      later = found.later;
      parts = found.parts;
      block = block ∙ ap (λ (n : ℕ). mark + 1 + units * n) (sym s);
      start = stands.start;
    }

-- ---- what a push does

below-first : (size : ℕ) (blocks : List (List ChunkText)) (ssid copy offset : ℕ) (piece : List ℕ) (i : ℕ) → 1 ≤ chunk_size size
    → i < first_in size blocks piece → get_or (packed size blocks ssid copy offset piece) i [] ≡ get_or blocks i []
below-first size blocks ssid copy offset piece i some low =
    let first = first_in size blocks piece in
    sym (get_or-take first (packed size blocks ssid copy offset piece) i [] low)
    ∙ ap (λ (bs : List (List ChunkText)). get_or bs i []) (span_before size blocks ssid copy offset piece some)
    ∙ get_or-take first blocks i [] low

inside-long : (blocks : List (List ChunkText)) (i : ℕ) (before after : List ChunkText) (chunk : ChunkText)
    → get_or blocks i [] ≡ before ++ chunk ∷ after → i < length blocks
inside-long [] i before after chunk is = absurd (no_cons before after chunk is)
inside-long (block ∷ blocks) zero before after chunk is = omega arith
inside-long (block ∷ blocks) (suc i) before after chunk is = omega (arith, inside-long blocks i before after chunk is)

-- a chunk before the last one, or the last one
record Earlier (old before after : List ChunkText) (chunk : ChunkText) : Type 0 where
  pub rest : List ChunkText
  pub is : old ≡ before ++ chunk ∷ rest

last-or-not : (old before after : List ChunkText) (chunk last : ChunkText) → old ++ last ∷ [] ≡ before ++ chunk ∷ after
    → Earlier old before after chunk ⊎ (chunk ≡ last)
last-or-not [] [] after chunk last is = inr (let e : chunk ≡ last = cc in e)
last-or-not [] (one ∷ before) after chunk last is =
    let rest : [] ≡ before ++ chunk ∷ after = cc in absurd (no_cons before after chunk rest)
last-or-not (one ∷ old) [] after chunk last is =
    let e : one ≡ chunk = cc in inl record { rest = old; is = ap (λ (c : ChunkText). c ∷ old) e }
last-or-not (one ∷ old) (two ∷ before) after chunk last is =
    let e : one ≡ two = cc in
    let rest : old ++ last ∷ [] ≡ before ++ chunk ∷ after = cc in
    elim (last-or-not old before after chunk last rest) [
      | inl earlier ↦ inl record {
        rest = earlier.rest;
        is = ap (λ (c : ChunkText). c ∷ old) e ∙ ap (λ (cs : List ChunkText). two ∷ cs) earlier.is;
      }
      | inr same ↦ inr same
    ]

pub push_adds : (size volid mark units : ℕ) (blocks : List (List ChunkText)) (ssid copy offset : ℕ) (piece : List ℕ) (one : Standing) → 1 ≤ chunk_size size
    → InBlocks volid mark units (packed size blocks ssid copy offset piece) one
    → InBlocks volid mark units blocks one ⊎ IsPartOf ssid copy offset piece one.chunk
push_adds size volid mark units blocks ssid copy offset [] one some inside =
    inl (subst (λ (bs : List (List ChunkText)). InBlocks volid mark units bs one) (packed_none size blocks ssid copy offset [] refl) inside)
push_adds size volid mark units blocks ssid copy offset (byte ∷ more) one some inside =
    let piece : List ℕ = byte ∷ more in
    let new = packed size blocks ssid copy offset piece in
    let i = length inside.earlier in
    let stands = to_index volid mark units new one inside in
    elim (cases_lt i (first_in size blocks piece)) [
      | inl low ↦
          let same = below-first size blocks ssid copy offset piece i some low in
          inl (from_index volid mark units i blocks one inside.volume inside.at inside.block
          (record { before = stands.before; after = stands.after; is = sym same ∙ stands.is; start = stands.start }))
      | inr from ↦
          let grown = span_has size blocks ssid copy offset piece i some (omega arith) from
          (inside-long new i stands.before stands.after one.chunk stands.is) in
          elim (last-or-not (get_or blocks i []) stands.before stands.after one.chunk grown.chunk (sym grown.behind ∙ stands.is)) [
            | inl earlier ↦ inl (from_index volid mark units i blocks one inside.volume inside.at inside.block
                (record { before = stands.before; after = earlier.rest; is = earlier.is; start = stands.start }))
            | inr same ↦ inr (subst (IsPartOf ssid copy offset piece) (sym same) grown.part)
          ]
    ]

pub push_keeps : (size volid mark units : ℕ) (blocks : List (List ChunkText)) (ssid copy offset : ℕ) (piece : List ℕ) (one : Standing) → 1 ≤ chunk_size size
    → InBlocks volid mark units blocks one → InBlocks volid mark units (packed size blocks ssid copy offset piece) one
push_keeps size volid mark units blocks ssid copy offset [] one some inside =
    subst (λ (bs : List (List ChunkText)). InBlocks volid mark units bs one) (sym (packed_none size blocks ssid copy offset [] refl)) inside
push_keeps size volid mark units blocks ssid copy offset (byte ∷ more) one some inside =
    let piece : List ℕ = byte ∷ more in
    let new = packed size blocks ssid copy offset piece in
    let i = length inside.earlier in
    let stands = to_index volid mark units blocks one inside in
    let low = inside-long blocks i stands.before stands.after one.chunk stands.is in
    elim (cases_lt i (first_in size blocks piece)) [
      | inl under ↦
          let same = below-first size blocks ssid copy offset piece i some under in
          from_index volid mark units i new one inside.volume inside.at inside.block
          (record { before = stands.before; after = stands.after; is = same ∙ stands.is; start = stands.start })
      | inr from ↦
          let grown = span_has size blocks ssid copy offset piece i some (omega arith) from
          (omega (arith, low, length-packed size blocks ssid copy offset piece some)) in
          from_index volid mark units i new one inside.volume inside.at inside.block
          (record {
            before = stands.before;
            after = stands.after ++ grown.chunk ∷ [];
            is = grown.behind ∙ ap (λ (cs : List ChunkText). cs ++ grown.chunk ∷ []) stands.is
                ∙ append_assoc stands.before (one.chunk ∷ stands.after) (grown.chunk ∷ []);
            start = stands.start;
          })
    ]
