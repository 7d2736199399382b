-- Chunks that stand in blocks, and what writing one more does.
use Rattle.std.proofs.Common.{◌≡◌, ℕ, suc, ◌+◌, ◌-◌, ◌*◌, ◌≤◌, List, [], ◌∷◌, ◌++◌, length, drop, All, refl, sym, ap, subst, ◌∙◌, arith}
use Rattle.std.proofs.Math.Nat.{mul-suc, mul-zero}
use Rattle.std.proofs.lemmas.List.{length-append, length-drop}
use Rattle.std.proofs.lemmas.List.Concat.{flat_map-append}
use Rattle.std.proofs.lemmas.List.Elements.{All-append, All-nil, All-cons}
use Rattle.volume_block.specs.Chunks.{ChunkText, IsChunk, chunk_text, chunks_text}
use Rattle.volume_block.specs.Valid.{AreChunks}
use Rattle.volume_block.specs.Region.{AreBlocks}
use Rattle.volume_block.specs.Layout.{data_size}
use Rattle.chunk_mux.specs.Text.{chunks_at, chunks_in, used_text, Hold, written}
use Rattle.chunk_mux.specs.Packing.{payload_size, room_in, add_last}
use Rattle.chunk_mux.proofs.Reading.{chunks_read_back}
use Rattle.chunk_mux.proofs.Written.{drop-written, used_before, used_grown}

-- the chunks that stand in blocks are those that are read
pub held_chunks : (units : ℕ) (chunks : List (List ChunkText)) (used data' : List ℕ) → units ≤ 16 → Hold units chunks used data'
    → chunks_in units used data' ≡ chunks
unfolding chunks_in
held_chunks units [] [] data' few held = refl
held_chunks units [] (u ∷ us) data' few held = absurd held
held_chunks units (c ∷ cs) [] data' few held = absurd held
held_chunks units (c ∷ cs) (u ∷ us) data' few held =
    let here : chunks_at u (used_text u data') ≡ c =
    ap (chunks_at u) held.2 ∙ chunks_read_back u c (omega (arith, few, held.1, held.0.fit)) held.0.each (omega (arith, held.1)) in
    ap (λ (first : List ChunkText). first ∷ chunks_in units us (drop (data_size units) data')) here
    ∙ ap (λ (rest : List (List ChunkText)). c ∷ rest) (held_chunks units cs us (drop (data_size units) data') few held.3)

pub length-held : (units : ℕ) (chunks : List (List ChunkText)) (used data' : List ℕ) → Hold units chunks used data' → length chunks ≡ length used
length-held units [] [] data' held = refl
length-held units [] (u ∷ us) data' held = absurd held
length-held units (c ∷ cs) [] data' held = absurd held
length-held units (c ∷ cs) (u ∷ us) data' held = ap suc (length-held units cs us (drop (data_size units) data') held.3)

pub held_allowed : (units : ℕ) (chunks : List (List ChunkText)) (used data' : List ℕ) → Hold units chunks used data' → AreBlocks units chunks
held_allowed units [] [] data' held = tt
held_allowed units [] (u ∷ us) data' held = absurd held
held_allowed units (c ∷ cs) [] data' held = absurd held
held_allowed units (c ∷ cs) (u ∷ us) data' held = (held.0, held_allowed units cs us (drop (data_size units) data') held.3)

pub held_small : (units : ℕ) (chunks : List (List ChunkText)) (used data' : List ℕ) → Hold units chunks used data'
    → All (λ (count : ℕ). 56 + count ≤ data_size units) used
held_small units [] [] data' held = All-nil (λ (count : ℕ). 56 + count ≤ data_size units)
held_small units [] (u ∷ us) data' held = absurd held
held_small units (c ∷ cs) [] data' held = absurd held
held_small units (c ∷ cs) (u ∷ us) data' held =
    All-cons (λ (count : ℕ). 56 + count ≤ data_size units) u us (omega (arith, held.1, held.0.fit))
    (held_small units cs us (drop (data_size units) data') held.3)

-- how much room the last block has, of whose payload so many bytes are used
pub held_room : (units : ℕ) (chunks : List (List ChunkText)) (used : List ℕ) (last : ℕ) (data' : List ℕ) → Hold units chunks (used ++ last ∷ []) data'
    → room_in (payload_size units) chunks ≡ payload_size units - last - 24
held_room units [] [] last data' held = absurd held
held_room units [] (u ∷ us) last data' held = absurd held
held_room units (c ∷ []) [] last data' held = omega (arith, held.1)
held_room units (c ∷ d ∷ cs) [] last data' held = absurd held.3
held_room units (c ∷ []) (u ∷ []) last data' held = absurd held.3
held_room units (c ∷ []) (u ∷ v ∷ us) last data' held = absurd held.3
held_room units (c ∷ d ∷ cs) (u ∷ us) last data' held = held_room units (d ∷ cs) us last (drop (data_size units) data') held.3

-- a chunk more behind those of a block
more_chunks : (units : ℕ) (chunks more : List ChunkText) (used : ℕ) (data' : List ℕ) → AreChunks units chunks → used ≡ length (chunks_text chunks)
    → used_text used data' ≡ chunks_text chunks → AreChunks units more → 56 + (used + length (chunks_text more)) ≤ data_size units
    → 56 + used ≤ length data'
    → AreChunks units (chunks ++ more) × (used + length (chunks_text more) ≡ length (chunks_text (chunks ++ more)))
    × (used_text (used + length (chunks_text more)) (written (56 + used) (chunks_text more) data') ≡ chunks_text (chunks ++ more))
more_chunks units [] more used data' are is holds ones fits low = absurd (are.some refl)
more_chunks units (chunk ∷ chunks) more used data' are is holds ones fits low =
    let all = chunk ∷ chunks in
    let joined : chunks_text (all ++ more) ≡ chunks_text all ++ chunks_text more = flat_map-append chunk_text all more in
    let long : used + length (chunks_text more) ≡ length (chunks_text (all ++ more)) =
    omega (arith, is, ap length joined, length-append (chunks_text all) (chunks_text more)) in (
      record { some = λ none. cc; fit = omega (arith, long, fits); each = All-append IsChunk all more are.each ones.each },
      long,
      used_grown used (chunks_text more) data' low ∙ ap (λ (text : List ℕ). text ++ chunks_text more) holds ∙ sym joined,
    )

-- a place in the block behind the first one
next_place : (size n at : ℕ) → size * suc n + at ≡ size + (size * n + at)
next_place size n at = omega (arith, mul-suc size n)

pub hold_added : (units : ℕ) (chunks : List (List ChunkText)) (used : List ℕ) (last : ℕ) (data' : List ℕ) (more : List ChunkText)
    → Hold units chunks (used ++ last ∷ []) data' → AreChunks units more → 56 + (last + length (chunks_text more)) ≤ data_size units
    → data_size units * suc (length used) ≤ length data'
    → Hold units (add_last chunks more) (used ++ (last + length (chunks_text more)) ∷ [])
    (written (data_size units * length used + (56 + last)) (chunks_text more) data')
hold_added units [] [] last data' more held ones fits low = absurd held
hold_added units [] (u ∷ us) last data' more held ones fits low = absurd held
hold_added units (c ∷ []) [] last data' more held ones fits low =
    let here : data_size units * 0 + (56 + last) ≡ 56 + last = omega (arith, mul-zero (data_size units)) in
    let now = more_chunks units c more last data' held.0 held.1 held.2 ones fits (omega (arith, fits, low)) in (
      now.0,
      now.1,
      ap (λ (at : ℕ). used_text (last + length (chunks_text more)) (written at (chunks_text more) data')) here ∙ now.2,
      tt,
    )
hold_added units (c ∷ d ∷ cs) [] last data' more held ones fits low = absurd held.3
hold_added units (c ∷ []) (u ∷ []) last data' more held ones fits low = absurd held.3
hold_added units (c ∷ []) (u ∷ v ∷ us) last data' more held ones fits low = absurd held.3
hold_added units (c ∷ d ∷ cs) (u ∷ us) last data' more held ones fits low =
    let size = data_size units in
    let at = size * length us + (56 + last) in
    let far : size * length (u ∷ us) + (56 + last) ≡ size + at = next_place size (length us) (56 + last) in
    let long : size * suc (length (u ∷ us)) ≡ size + size * suc (length us) = omega (arith, mul-suc size (suc (length us))) in
    let there : size + at ≤ length data' = omega (arith, low, long, fits, mul-suc size (length us)) in (
      held.0,
      held.1,
      ap (λ (k : ℕ). used_text u (written k (chunks_text more) data')) far
          ∙ used_before u (size + at) (chunks_text more) data' (omega (arith, held.1, held.0.fit)) there ∙ held.2,
      subst (Hold units (add_last (d ∷ cs) more) (us ++ (last + length (chunks_text more)) ∷ []))
          (sym (ap (λ (k : ℕ). drop size (written k (chunks_text more) data')) far ∙ drop-written size at (chunks_text more) data' there))
          (hold_added units (d ∷ cs) us last (drop size data') more held.3 ones fits (omega (arith, low, long, length-drop size data'))),
    )

pub hold_begun : (units : ℕ) (chunks : List (List ChunkText)) (used : List ℕ) (data' : List ℕ) (ones : List ChunkText)
    → Hold units chunks used data' → AreChunks units ones → data_size units * suc (length used) ≤ length data'
    → Hold units (chunks ++ ones ∷ []) (used ++ length (chunks_text ones) ∷ [])
    (written (data_size units * length used + 56) (chunks_text ones) data')
hold_begun units [] [] data' ones held are low =
    let here : data_size units * 0 + 56 ≡ 56 + 0 = omega (arith, mul-zero (data_size units)) in
    let none : length (chunks_text ones) ≡ 0 + length (chunks_text ones) = omega arith in (
      are,
      refl,
      ap (λ (at : ℕ). used_text (length (chunks_text ones)) (written at (chunks_text ones) data')) here
          ∙ ap (λ (n : ℕ). used_text n (written (56 + 0) (chunks_text ones) data')) none
          ∙ used_grown 0 (chunks_text ones) data' (omega (arith, are.fit, low)),
      tt,
    )
hold_begun units [] (u ∷ us) data' ones held are low = absurd held
hold_begun units (c ∷ cs) [] data' ones held are low = absurd held
hold_begun units (c ∷ cs) (u ∷ us) data' ones held are low =
    let size = data_size units in
    let at = size * length us + 56 in
    let far : size * length (u ∷ us) + 56 ≡ size + at = next_place size (length us) 56 in
    let long : size * suc (length (u ∷ us)) ≡ size + size * suc (length us) = omega (arith, mul-suc size (suc (length us))) in
    let there : size + at ≤ length data' = omega (arith, low, long, are.fit, mul-suc size (length us)) in (
      held.0,
      held.1,
      ap (λ (k : ℕ). used_text u (written k (chunks_text ones) data')) far
          ∙ used_before u (size + at) (chunks_text ones) data' (omega (arith, held.1, held.0.fit)) there ∙ held.2,
      subst (Hold units (cs ++ ones ∷ []) (us ++ length (chunks_text ones) ∷ []))
          (sym (ap (λ (k : ℕ). drop size (written k (chunks_text ones) data')) far ∙ drop-written size at (chunks_text ones) data' there))
          (hold_begun units cs us (drop size data') ones held.3 are (omega (arith, low, long, length-drop size data'))),
    )
