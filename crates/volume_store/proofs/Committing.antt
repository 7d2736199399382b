-- What a region adds to the committed files of a cartridge.
use Rattle.std.proofs.Common.{◌≡◌, ℕ, suc, ◌+◌, ◌*◌, ◌<◌, ◌≤◌, ◌^◌, List, [], ◌∷◌, ◌++◌, length, map, drop, replicate, get_or, max, refl, sym, ap, ◌∙◌, arith, inl, inr}
use Rattle.std.proofs.lemmas.Bool.{cases_eq}
use Rattle.std.proofs.lemmas.List.{append_assoc, length-append, length-map}
use Rattle.volume_block.specs.Chunks.{ChunkText}
use Rattle.volume_block.specs.Layout.{IsUnits, data_size}
use Rattle.volume_block.specs.Valid.{IsVolid, mark_text, data_text}
use Rattle.volume_block.specs.Region.{IsSealed, AreBlocks, blocks_text, closed_block}
use Rattle.volume_block.proofs.Lengths.{length-mark_text, length-data_text, length-blocks_text}
use Rattle.volume_block.proofs.Forms.{units_range, units_times}
use Rattle.volume_block.specs.declared.label.Label.{Label}
use Rattle.room_disk.specs.Crash.{overlaid, Overlays, GatedTorn}
use Rattle.room_disk.proofs.Overlay.{padded, length-padded, length-overlaid, overlaid-before, letter_whole}
use Rattle.volume_store.specs.Committed.{block_at, data_at, kind_byte_at, Whole, AreDataPlaces, CommittedFile, Closed, FilesFrom, Committed, Labelled}
use Rattle.volume_store.proofs.Files.{closed_inside, closed_byte, volume_then, volume_kept}
use Rattle.volume_store.proofs.Regions.{opened_region}
use Rattle.volume_store.specs.Writes.{added_file, opened, with_file, IsWholeOrAbsent, AddsFile, MayAddFile}
use Rattle.volume_store.proofs.Blocks.{SameBelow, block_behind, byte_behind}

-- data blocks that stand behind so many bytes are data places
pub places_behind : (bytes before rest : List ℕ) (volid first units : ℕ) (blocks : List (List ChunkText))
    → bytes ≡ before ++ blocks_text volid first units blocks ++ rest → length before ≡ 4096 * first
    → IsVolid volid → IsUnits units → 1 ≤ first → first + units * length blocks < 2 ^ 64 → AreBlocks units blocks
    → AreDataPlaces bytes volid units first (map Whole blocks)
places_behind bytes before rest volid first units [] is from volume of-units some last allowed = tt
places_behind bytes before rest volid first units (chunks ∷ blocks) is from volume of-units some last allowed =
    let this = data_text volid first units chunks in
    let next = blocks_text volid (first + units) units blocks in
    let long : length this ≡ data_size units = length-data_text volid first units chunks allowed.0.fit in
    let split : bytes ≡ before ++ this ++ next ++ rest = is ∙ ap (λ front. front ++ rest) (sym (append_assoc before this next)) in
    let here : bytes ≡ before ++ this ++ (next ++ rest) = split ∙ append_assoc (before ++ this) next rest in
    let range = units_range units of-units in (
      record {
        of_volume = volume;
        placed = (some, omega (arith, last, range.0));
        of_units = of-units;
        allowed = allowed.0;
        text = ap (λ whole. data_at units whole first) here ∙ block_behind (data_size units) first before this (next ++ rest) from long;
      },
      places_behind bytes (before ++ this) rest volid (first + units) units blocks split
          (omega (arith, length-append before this, from, long)) volume of-units (omega arith) (omega (arith, last)) allowed.1,
    )

-- zeros begin with a zero
pub first_zero : (count : ℕ) → replicate {A = ℕ} (suc count) 0 ≡ 0 ∷ replicate count 0
first_zero count = refl

-- the blocks of an open region, one by one
regrouped : (before mark blocks closed rest : List ℕ)
    → before ++ (mark ++ blocks ++ closed) ++ rest ≡ before ++ mark ++ (blocks ++ closed ++ rest)
regrouped before mark blocks closed rest = simp append_assoc

regrouped_next : (before mark blocks closed rest : List ℕ)
    → before ++ (mark ++ blocks ++ closed) ++ rest ≡ before ++ mark ++ blocks ++ (closed ++ rest)
regrouped_next before mark blocks closed rest = simp append_assoc

-- a region with its mark open, behind so many bytes, is one file with a closed mark place behind it
pub file_behind : (bytes before rest : List ℕ) (volid mark units : ℕ) (blocks : List (List ChunkText)) (region : List ℕ)
    → bytes ≡ before ++ (mark_text volid mark (length blocks) units ++ blocks_text volid (mark + 1) units blocks ++ closed_block) ++ rest
    → length before ≡ 4096 * mark → IsSealed volid mark units blocks region
    → FilesFrom bytes volid units mark (added_file mark blocks ∷ []) (Closed (mark + units * length blocks + 1))
file_behind bytes before rest volid mark units blocks region is from sealed =
    let open_mark = mark_text volid mark (length blocks) units in
    let data_blocks = blocks_text volid (mark + 1) units blocks in
    let first : bytes ≡ before ++ open_mark ++ (data_blocks ++ closed_block ++ rest) =
    is ∙ regrouped before open_mark data_blocks closed_block rest in
    let second : bytes ≡ before ++ open_mark ++ data_blocks ++ (closed_block ++ rest) =
    is ∙ regrouped_next before open_mark data_blocks closed_block rest in
    let third : bytes ≡ before ++ open_mark ++ data_blocks ++ 0 ∷ (replicate 4095 0 ++ rest) =
    second ∙ ap (λ zeros. before ++ open_mark ++ data_blocks ++ (zeros ++ rest)) (first_zero 4095) in
    let count : length (map Whole blocks) ≡ length blocks = length-map blocks Whole in
    let place : mark + units * length (map Whole blocks) + 1 ≡ mark + units * length blocks + 1 = ap (λ (n : ℕ). mark + units * n + 1) count in
    let mark_long : length open_mark ≡ 4096 = length-mark_text volid mark (length blocks) units in
    let blocks_long : length data_blocks ≡ data_size units * length blocks = length-blocks_text volid (mark + 1) units blocks sealed.allowed in
    let behind : length (before ++ open_mark ++ data_blocks) ≡ 4096 * (mark + units * length (map Whole blocks) + 1) =
    omega (arith, length-append (before ++ open_mark) data_blocks, length-append before open_mark, from, mark_long, blocks_long)
    ∙ ap (λ (n : ℕ). 4096 * n) (sym place) in
    let last : mark + 1 + units * length blocks < 2 ^ 64 = omega (arith, sealed.placed.1, units_times units (length blocks) sealed.of_units sealed.counted.1) in (
      refl,
      (
        sealed.of_volume,
        (sealed.placed.0, omega (arith, sealed.placed.1)),
        sealed.of_units,
        (omega (arith, count, sealed.counted.0), omega (arith, count, sealed.counted.1)),
        ap (λ whole. block_at whole mark) first ∙ block_behind 4096 mark before open_mark (data_blocks ++ closed_block ++ rest) from mark_long
            ∙ ap (λ (n : ℕ). mark_text volid mark n units) (sym count),
      ),
      places_behind bytes (before ++ open_mark) (closed_block ++ rest) volid (mark + 1) units blocks second
          (omega (arith, length-append before open_mark, from, mark_long)) sealed.of_volume sealed.of_units (omega arith) last sealed.allowed,
      (
        sym place,
        rw third (omega (arith, behind, length-append (before ++ open_mark ++ data_blocks) (0 ∷ (replicate 4095 0 ++ rest)))),
        λ opens. (let zero_byte : kind_byte_at bytes (mark + units * length (map Whole blocks) + 1) ≡ 0 =
            ap (λ whole. kind_byte_at whole (mark + units * length (map Whole blocks) + 1)) third
            ∙ byte_behind (4096 * (mark + units * length (map Whole blocks) + 1)) 0 (before ++ open_mark ++ data_blocks) (replicate 4095 0 ++ rest) behind in
            absurd (omega (arith, sym zero_byte ∙ opens))),
      ),
    )

-- a cartridge on which an open region was written at its closed mark place
pub committed_more : (old new region : List ℕ) (label : Label) (files : List CommittedFile) (mark : ℕ) (blocks : List (List ChunkText))
    → Committed old (Labelled label files (Closed mark)) → IsSealed label.volid.0 mark label.units blocks region
    → new ≡ overlaid (4096 * mark) (opened region) old → Committed new (with_file label files mark blocks)
committed_more old new region label files mark blocks held sealed is =
    let at = 4096 * mark in
    let text = opened region in
    let inside : at < length old = closed_inside old label.volid.0 label.units 1 mark files held.1 in
    let split : new ≡ padded at old ++ (mark_text label.volid.0 mark (length blocks) label.units ++ blocks_text label.volid.0 (mark + 1) label.units blocks ++ closed_block) ++ drop (at + length text) old =
    is ∙ ap (λ shown. padded at old ++ shown ++ drop (at + length text) old) (opened_region label.volid.0 mark label.units blocks region sealed) in
    let same : SameBelow at old new = record {
      in_old = omega arith;
      in_new = rw is (omega (arith, length-overlaid at text old));
      bytes = λ k below. rw is (overlaid-before at text old k below);
    } in
    volume_then old new label files (added_file mark blocks ∷ []) mark (Closed (mark + label.units * length blocks + 1)) held same
    (file_behind new (padded at old) (drop (at + length text) old) label.volid.0 mark label.units blocks region split (length-padded at old) sealed)

-- the images of a commit
pub committed_torn : (old new region rest : List ℕ) (label : Label) (files : List CommittedFile) (mark : ℕ) (blocks : List (List ChunkText))
    → Committed old (Labelled label files (Closed mark)) → IsSealed label.volid.0 mark label.units blocks region → opened region ≡ 0x46 ∷ rest
    → GatedTorn (4096 * mark) 0x46 rest old new → IsWholeOrAbsent label files mark blocks new
committed_torn old new region rest label files mark blocks held sealed is (inl torn) =
    let inside : 4096 * mark < length old = closed_inside old label.volid.0 label.units 1 mark files held.1 in
    inl (volume_kept old new label files mark held
    (record {
      in_old = omega arith;
      in_new = omega (arith, torn.no_shorter);
      bytes = λ k below. torn.before k (omega arith) (omega arith);
    })
    (omega (arith, torn.no_shorter))
    (λ opens. closed_byte old label.volid.0 label.units 1 mark files held.1 (sym (torn.before (4096 * mark) (omega arith) inside) ∙ opens)))
committed_torn old new region rest label files mark blocks held sealed is (inr torn) =
    let at = 4096 * mark in
    let whole = overlaid (at + 1) rest old in
    let inside : at < length old = closed_inside old label.volid.0 label.units 1 mark files held.1 in
    let long : length whole ≡ max (length old) (at + 1 + length rest) = length-overlaid (at + 1) rest old in
    elim (cases_eq (get_or new at 0) 0x46) [
      | inl opens ↦ inr (committed_more old new region label files mark blocks held sealed
          (letter_whole at 0x46 rest old new torn opens ∙ ap (λ text. overlaid at text old) (sym is)))
      | inr closed ↦ inl (volume_kept old new label files mark held
          (record {
            in_old = omega arith;
            in_new = omega (arith, torn.no_shorter, long);
            bytes = λ k below. torn.before k below (omega (arith, long)) ∙ overlaid-before (at + 1) rest old k (omega arith);
          })
          (omega (arith, torn.no_shorter, long)) closed)
    ]

-- ---- a commit

pub adds_file : (label : Label) (mark : ℕ) (region rest : List ℕ) → opened region ≡ 0x46 ∷ rest → (old new : List ℕ)
    → Overlays (4096 * mark) (0x46 ∷ rest) old new → AddsFile label mark region old new
adds_file label mark region rest opens old new is =
    let written : new ≡ overlaid (4096 * mark) (opened region) old =
    is ∙ ap (λ text. overlaid (4096 * mark) text old) (sym opens) in
    record {
      written = written;
      added = λ files blocks sealed held. committed_more old new region label files mark blocks held sealed written;
    }

pub may_add_file : (label : Label) (mark : ℕ) (region rest : List ℕ) → opened region ≡ 0x46 ∷ rest → (old new : List ℕ)
    → GatedTorn (4096 * mark) 0x46 rest old new → MayAddFile label mark region old new
may_add_file label mark region rest opens old new torn = λ files blocks sealed held.
    committed_torn old new region rest label files mark blocks held sealed opens torn
