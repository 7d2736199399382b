-- Sealing blocks one after the other.
use Rattle.std.proofs.Common.{◌≡◌, ℕ, zero, suc, ◌+◌, ◌-◌, ◌*◌, ◌^◌, ◌≤◌, ◌<◌, List, [], ◌∷◌, ◌++◌, length, take, drop, get_or, All, refl, sym, ap, subst, ◌∙◌, arith, append_assoc, add-one}
use Rattle.std.proofs.Math.Nat.{mul-suc, mul-zero}
use Rattle.std.proofs.Math.Seq.{drop-append-add}
use Rattle.std.proofs.lemmas.Nat.{mul-le}
use Rattle.std.proofs.lemmas.List.{length-append, length-take, take_at, drop_at, take-take, drop-take, drop-drop}
use Rattle.std.proofs.lemmas.List.Elements.{All-head, All-tail}
use borrow.Rule.Slice.PartMut.{put_mid}
use Rattle.volume_block.specs.Chunks.{ChunkText, chunks_text}
use Rattle.volume_block.specs.Layout.{block_text, closed, data_size, IsUnits}
use Rattle.volume_block.specs.Region.{blocks_text, closed_block}
use Rattle.volume_block.specs.Valid.{IsCount, mark_text, data_text}
use Rattle.volume_block.proofs.Lengths.{length-block_text, length-blocks_text, length-closed, length-closed_block, length-mark_text}
use Rattle.volume_block.proofs.Spelled.{spells_block}
use Rattle.chunk_mux.specs.Text.{used_text, Hold, written}
use Rattle.chunk_mux.specs.Sealing.{seal_first, SealsRegion}
use Rattle.chunk_mux.proofs.Holding.{length-held, held_allowed}
use Rattle.chunk_mux.proofs.Filling.{units_few}
use Rattle.chunk_mux.proofs.Written.{written-append}

-- a data block of what is used at the front of these bytes
block_of : ℕ → ℕ → ℕ → ℕ → List ℕ → List ℕ
block_of volid number units used data' = block_text 0x44 units (data_size units) volid number (used_text used data')

length-block_of : (volid number units used : ℕ) (data' : List ℕ) → 56 + used ≤ data_size units
    → length (block_of volid number units used data') ≡ data_size units
unfolding block_of
length-block_of volid number units used data' fits =
    length-block_text 0x44 units (data_size units) volid number (used_text used data')
    (omega (arith, fits, length-take used (drop 56 data')))

next_place : (size n : ℕ) → size * suc n ≡ size + size * n
next_place size n = omega (arith, mul-suc size n)

-- a block that isn't sealed yet is as it was
pub unsealed : (volid first units i : ℕ) (used data' : List ℕ) → All (λ (count : ℕ). 56 + count ≤ data_size units) used → i ≤ length used
    → drop (data_size units * i) (seal_first volid first units (take i used) data') ≡ drop (data_size units * i) data'
unfolding block_of
unsealed volid first units zero used data' small low = refl
unsealed volid first units (suc i) [] data' small low = absurd (omega arith)
unsealed volid first units (suc i) (u ∷ us) data' small low =
    let size = data_size units in
    let block = block_of volid first units u data' in
    let rest = seal_first volid (first + units) units (take i us) (drop size data') in
    let long : length block ≡ size = length-block_of volid first units u data' (All-head (λ (count : ℕ). 56 + count ≤ data_size units) u us small) in
    ap (λ (n : ℕ). drop n (block ++ rest)) (next_place size i ∙ ap (λ (n : ℕ). n + size * i) (sym long))
    ∙ drop-append-add block rest (size * i)
    ∙ unsealed volid (first + units) units i us (drop size data') (All-tail (λ (count : ℕ). 56 + count ≤ data_size units) u us small) (omega arith)
    ∙ drop-drop (size * i) size data'
    ∙ ap (λ (n : ℕ). drop n data') (sym (next_place size i))

-- one block more
pub sealed_more : (volid first units i : ℕ) (used data' : List ℕ) → All (λ (count : ℕ). 56 + count ≤ data_size units) used → i < length used
    → written (data_size units * i)
    (block_text 0x44 units (data_size units) volid (first + units * i) (used_text (get_or used i 0) (drop (data_size units * i) data')))
    (seal_first volid first units (take i used) data')
    ≡ seal_first volid first units (take (suc i) used) data'
unfolding block_of
sealed_more volid first units i [] data' small low = absurd (omega arith)
sealed_more volid first units zero (u ∷ us) data' small low =
    let size = data_size units in
    let block = block_of volid first units u data' in
    let long : length block ≡ size = length-block_of volid first units u data' (All-head (λ (count : ℕ). 56 + count ≤ data_size units) u us small) in
    ap (λ (k : ℕ). written k (block_of volid (first + units * 0) units u (drop k data')) data') (mul-zero size)
    ∙ ap (λ (n : ℕ). written 0 (block_of volid n units u data') data') (let here : first + units * 0 ≡ first = omega (arith, mul-zero units) in here)
    ∙ ap (λ (n : ℕ). block ++ drop n data') (let same : 0 + length block ≡ size = omega (arith, long) in same)
sealed_more volid first units (suc i) (u ∷ us) data' small low =
    let size = data_size units in
    let block = block_of volid first units u data' in
    let rest = seal_first volid (first + units) units (take i us) (drop size data') in
    let long : length block ≡ size = length-block_of volid first units u data' (All-head (λ (count : ℕ). 56 + count ≤ data_size units) u us small) in
    let text : block_of volid (first + units * suc i) units (get_or us i 0) (drop (size * suc i) data')
    ≡ block_of volid (first + units + units * i) units (get_or us i 0) (drop (size * i) (drop size data')) =
    ap (λ (n : ℕ). block_of volid n units (get_or us i 0) (drop (size * suc i) data'))
    (let here : first + units * suc i ≡ first + units + units * i = omega (arith, mul-suc units i) in here)
    ∙ ap (λ (d : List ℕ). block_of volid (first + units + units * i) units (get_or us i 0) d)
    (ap (λ (n : ℕ). drop n data') (next_place size i) ∙ sym (drop-drop (size * i) size data')) in
    ap (λ (t : List ℕ). written (size * suc i) t (block ++ rest)) text
    ∙ ap (λ (n : ℕ). written n (block_of volid (first + units + units * i) units (get_or us i 0) (drop (size * i) (drop size data'))) (block ++ rest))
    (next_place size i ∙ ap (λ (n : ℕ). n + size * i) (sym long))
    ∙ written-append (size * i) (block_of volid (first + units + units * i) units (get_or us i 0) (drop (size * i) (drop size data'))) block rest
    ∙ ap (λ (r : List ℕ). block ++ r)
    (sealed_more volid (first + units) units i us (drop size data') (All-tail (λ (count : ℕ). 56 + count ≤ data_size units) u us small) (omega arith))

-- what a write to `s[a..a + k]` makes
pub put_written : (at k : ℕ) (data' block : List ℕ) → length block ≡ k → put_mid at k data' block ≡ written at block data'
put_written at k data' block long =
    ap (λ (rest : List ℕ). take at data' ++ (block ++ rest))
    (drop-drop k at data' ∙ ap (λ (n : ℕ). drop (at + n) data') (sym long))

-- what is used of a block, in its bytes alone
pub used_within : (used size : ℕ) (data' : List ℕ) → 56 + used ≤ size → used_text used (take size data') ≡ used_text used data'
used_within used size data' fits =
    let parts : size ≡ 56 + (size - 56) = omega arith in
    ap (λ (n : ℕ). take used (drop 56 (take n data'))) parts
    ∙ ap (take used) (drop-take 56 (size - 56) data')
    ∙ take-take used (size - 56) (drop 56 data') (omega arith)

-- sealing leaves the payload
payload_stays : (volid number units : ℕ) (payload rest : List ℕ) → 56 + length payload ≤ data_size units → IsUnits units → volid < 2 ^ 64 → number < 2 ^ 64
    → used_text (length payload) (block_text 0x44 units (data_size units) volid number payload ++ rest) ≡ payload
payload_stays volid number units payload rest fits is v n =
    let block = block_text 0x44 units (data_size units) volid number payload in
    let few = units_few units is in
    let spells = spells_block block 0x44 units (data_size units) volid number payload is fits (omega (arith, few)) v n refl in
    let long : length block ≡ data_size units = length-block_text 0x44 units (data_size units) volid number payload fits in
    sym (used_within (length payload) (data_size units) (block ++ rest) fits)
    ∙ ap (used_text (length payload)) (take_at block rest (data_size units) long)
    ∙ ap (λ (count : ℕ). take count (drop 56 block)) (sym spells.used_read) ∙ spells.payload_read

-- the chunks stand in the text of their blocks
blocks_hold : (volid first units : ℕ) (chunks : List (List ChunkText)) (used data' rest : List ℕ) → Hold units chunks used data' → IsUnits units
    → volid < 2 ^ 64 → first + units * length used < 2 ^ 64 → Hold units chunks used (blocks_text volid first units chunks ++ rest)
blocks_hold volid first units [] [] data' rest held is v n = tt
blocks_hold volid first units [] (u ∷ us) data' rest held is v n = absurd held
blocks_hold volid first units (c ∷ cs) [] data' rest held is v n = absurd held
blocks_hold volid first units (c ∷ cs) (u ∷ us) data' rest held is v n =
    let size = data_size units in
    let block = data_text volid first units c in
    let more = blocks_text volid (first + units) units cs ++ rest in
    let apart : (block ++ blocks_text volid (first + units) units cs) ++ rest ≡ block ++ more =
    append_assoc block (blocks_text volid (first + units) units cs) rest in
    let long : length block ≡ size = length-block_text 0x44 units size volid first (chunks_text c) held.0.fit in (
      held.0,
      held.1,
      ap (used_text u) apart ∙ ap (λ (count : ℕ). used_text count (block ++ more)) held.1
          ∙ payload_stays volid first units (chunks_text c) more held.0.fit is v (omega (arith, n)),
      subst (Hold units cs us) (sym (ap (drop size) apart ∙ drop_at block more size long))
          (blocks_hold volid (first + units) units cs us (drop size data') rest held.3 is v (omega (arith, n, mul-suc units (length us)))),
    )

-- the data blocks, and what is written behind them
sealed_text : (volid first units : ℕ) (chunks : List (List ChunkText)) (used data' behind : List ℕ) → Hold units chunks used data'
    → written (data_size units * length used) behind (seal_first volid first units used data')
    ≡ blocks_text volid first units chunks ++ (behind ++ drop (data_size units * length used + length behind) data')
unfolding block_of
sealed_text volid first units [] [] data' behind held =
    ap (λ (n : ℕ). take n data' ++ (behind ++ drop (data_size units * 0 + length behind) data')) (mul-zero (data_size units))
sealed_text volid first units [] (u ∷ us) data' behind held = absurd held
sealed_text volid first units (c ∷ cs) [] data' behind held = absurd held
sealed_text volid first units (c ∷ cs) (u ∷ us) data' behind held =
    let size = data_size units in
    let block = block_of volid first units u data' in
    let rest = seal_first volid (first + units) units us (drop size data') in
    let long : length block ≡ size = length-block_of volid first units u data' (omega (arith, held.1, held.0.fit)) in
    let more = blocks_text volid (first + units) units cs in
    ap (λ (n : ℕ). written n behind (block ++ rest)) (next_place size (length us) ∙ ap (λ (n : ℕ). n + size * length us) (sym long))
    ∙ written-append (size * length us) behind block rest
    ∙ ap (λ (r : List ℕ). block ++ r) (sealed_text volid (first + units) units cs us (drop size data') behind held.3)
    ∙ ap (λ (r : List ℕ). block ++ (more ++ (behind ++ r)))
    (drop-drop (size * length us + length behind) size data' ∙ ap (λ (n : ℕ). drop n data') (step size (length us) (length behind)))
    ∙ ap (λ (t : List ℕ). block_text 0x44 units size volid first t ++ (more ++ (behind ++ drop (size * suc (length us) + length behind) data'))) held.2
    ∙ sym (append_assoc (data_text volid first units c) more (behind ++ drop (size * suc (length us) + length behind) data'))
  where
    step : (size n k : ℕ) → size + (size * n + k) ≡ size * suc n + k
    step size n k = omega (arith, mul-suc size n)

-- a mark, the data blocks and a closed block are a region
pub seals_region : (volid mark units : ℕ) (chunks : List (List ChunkText)) (used front data' new : List ℕ)
    → Hold units chunks used data' → IsUnits units → units ≤ 16 → 1 ≤ volid → volid < 2 ^ 64 → 1 ≤ mark → mark < 2 ^ 32
    → IsCount (length used) → front ≡ closed (mark_text volid mark (length used) units)
    → new ≡ front ++ written (data_size units * length used) closed_block (seal_first volid (mark + 1) units used data')
    → SealsRegion volid mark units used new chunks
seals_region volid mark units chunks used front data' new held is few some fits placed small count mark-is new-is =
    let size = data_size units in
    let many : length chunks ≡ length used = length-held units chunks used data' held in
    let rest = drop (size * length used + length closed_block) data' in
    let blocks = blocks_text volid (mark + 1) units chunks in
    let whole : new ≡ front ++ (blocks ++ (closed_block ++ rest)) =
    new-is ∙ ap (λ (d : List ℕ). front ++ d) (sealed_text volid (mark + 1) units chunks used data' closed_block held) in
    let four : length front ≡ 4096 =
    ap length mark-is ∙ length-closed (mark_text volid mark (length used) units) ∙ length-mark_text volid mark (length used) units in
    let allowed = held_allowed units chunks used data' held in
    let long : length blocks ≡ size * length used =
    length-blocks_text volid (mark + 1) units chunks allowed ∙ ap (λ (n : ℕ). size * n) many in
    let region : (front ++ blocks ++ closed_block) ++ rest ≡ front ++ (blocks ++ (closed_block ++ rest)) =
    append_assoc (front ++ blocks) closed_block rest ∙ append_assoc front blocks (closed_block ++ rest) in
    record {
      holds = subst (Hold units chunks used) (sym (ap (drop 4096) whole ∙ drop_at front (blocks ++ (closed_block ++ rest)) 4096 four))
          (blocks_hold volid (mark + 1) units chunks used data' (closed_block ++ rest) held is fits (below units (length used) few count.1));
      text = record {
        of_volume = (some, fits);
        of_units = is;
        counted = subst IsCount (sym many) count;
        placed = (placed, small);
        allowed = allowed;
        text =
            ap (take (8192 + size * length used)) (whole ∙ sym region)
            ∙ take_at (front ++ blocks ++ closed_block) rest (8192 + size * length used)
            (length-append (front ++ blocks) closed_block ∙ omega (arith, length-append front blocks, four, long, length-closed_block))
            ∙ ap (λ (f : List ℕ). f ++ blocks ++ closed_block) (mark-is ∙ ap (λ (n : ℕ). closed (mark_text volid mark n units)) (sym many));
      };
    }
  where
    below : (units n : ℕ) → units ≤ 16 → n ≤ 64 → mark + 1 + units * n < 2 ^ 64
    below units n low few' = omega (arith, mul-le units n 16 64 low few', small)

-- ---- the code's steps

-- a block is sealed where it stands
pub sealed_step : (volid first units i size number k : ℕ) (used before initial new : List ℕ) → size ≡ data_size units → k ≡ size
    → number ≡ first + units * i → All (λ (count : ℕ). 56 + count ≤ data_size units) used → i < length used
    → before ≡ seal_first volid first units (take i used) initial
    → new ≡ block_text 0x44 units (data_size units) volid number (take (get_or used i 0) (drop 56 (take k (drop (size * i) before))))
    → put_mid (size * i) k before new ≡ seal_first volid first units (take (i + 1) used) initial
sealed_step volid first units i size number k used before initial new size-is k-is number-is small low before-is new-is =
    let count = get_or used i 0 in
    let fits : 56 + count ≤ data_size units = small i 0 low in
    let data' = drop (data_size units * i) initial in
    let same : drop (size * i) before ≡ data' =
    ap (λ (n : ℕ). drop (n * i) before) size-is ∙ ap (drop (data_size units * i)) before-is
    ∙ unsealed volid first units i used initial small (omega (arith, low)) in
    let text : new ≡ block_text 0x44 units (data_size units) volid (first + units * i) (used_text count data') =
    new-is
    ∙ ap (λ (d : List ℕ). block_text 0x44 units (data_size units) volid number (take count (drop 56 (take k d)))) same
    ∙ ap (λ (n : ℕ). block_text 0x44 units (data_size units) volid number (take count (drop 56 (take n data')))) (k-is ∙ size-is)
    ∙ ap (block_text 0x44 units (data_size units) volid number) (used_within count (data_size units) data' fits)
    ∙ ap (λ (n : ℕ). block_text 0x44 units (data_size units) volid n (used_text count data')) number-is in
    let long : length new ≡ k =
    ap length text ∙ length-block_text 0x44 units (data_size units) volid (first + units * i) (used_text count data')
    (omega (arith, fits, length-take count (drop 56 data'))) ∙ sym (k-is ∙ size-is) in
    put_written (size * i) k before new long
    ∙ ap (λ (n : ℕ). written (n * i) new before) size-is
    ∙ ap (λ (t : List ℕ). written (data_size units * i) t before) text
    ∙ ap (written (data_size units * i) (block_text 0x44 units (data_size units) volid (first + units * i) (used_text count data'))) before-is
    ∙ sealed_more volid first units i used initial small low
    ∙ ap (λ (n : ℕ). seal_first volid first units (take n used) initial) (sym (add-one i))
