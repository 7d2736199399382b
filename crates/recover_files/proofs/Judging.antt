-- Whether what stands at a block's place is a valid data block.
use Rattle.std.proofs.Common.{◌≡◌, ℕ, ◌+◌, ◌-◌, ◌*◌, ◌<◌, ◌≤◌, List, ◌++◌, length, take, drop, min, refl, sym, ap, subst, ◌∙◌, arith, inl, inr}
use Rattle.std.proofs.lemmas.List.{length-take, length-drop, take-take, take_all, take-append-le}
use Rattle.std.specs.Prelude.{Result, Ok, Err, IfOk, true}
use Rattle.room_base.specs.declared.fault.Failed.{Failed}
use Rattle.volume_block.specs.Chunks.{ChunkText, chunks_text}
use Rattle.volume_block.specs.Layout.{data_size}
use Rattle.volume_block.specs.Valid.{HoldsChunks, ValidBlock, size_of}
use Rattle.volume_block.specs.Why.{TellsSize}
use Rattle.volume_block.specs.declared.block.Block.{Block}
use Rattle.volume_block.specs.declared.block.Block.TheVariants as kinds
use Rattle.volume_block.specs.declared.label.Label.{Label}
use Rattle.volume_block.specs.declared.block.Reason.{Reason}
use Rattle.volume_block.proofs.Lengths.{length-valid}
use Rattle.volume_block.proofs.Sizes.{size_range, tells_own, tells_front, one_size}
use Rattle.volume_store.specs.Committed.{part_at, block_at, data_at}
use Rattle.volume_store.specs.Reads.{BeginsSize, StandsAt, HoldsBlocks, IsBad}
use Rattle.volume_store.proofs.Finding.{one_stands, bad_at}
use Rattle.recover_files.specs.Bytes.{GiveByte, GiveNone}
use Rattle.recover_files.specs.Sections.{HasChunks, IsInvalid, BlockGives, BlockLacks}
use Rattle.recover_files.specs.Stages.{IsRun, JudgesData}
use Rattle.recover_files.specs.declared.run.Run.{Run}

-- ---- the size of a block

part_length : (size : ℕ) (bytes : List ℕ) (number : ℕ) → length (part_at size bytes number) ≡ min size (length bytes - 4096 * number)
unfolding part_at
part_length size bytes number = length-take size (drop (4096 * number) bytes) ∙ ap (min size) (length-drop (4096 * number) bytes)

front_of_part : (size : ℕ) (bytes : List ℕ) (number : ℕ) → 4096 ≤ size → take 4096 (part_at size bytes number) ≡ block_at bytes number
unfolding part_at
front_of_part size bytes number fits = take-take 4096 size (drop (4096 * number) bytes) fits

-- a block that stands has the size that is told there
stands_size : (bytes : List ℕ) (volid number size : ℕ) (block : Block) → BeginsSize (block_at bytes number) size → StandsAt bytes volid number block
    → size_of block ≡ size
stands_size bytes volid number size block (inl short) stands =
    absurd (omega (
      arith,
      short.0,
      part_length 4096 bytes number,
      part_length (size_of block) bytes number,
      length-valid (part_at (size_of block) bytes number) volid number block stands,
      (size_range (part_at (size_of block) bytes number) volid number block stands).0,
    ))
stands_size bytes volid number size block (inr tells) stands =
    let here = part_at (size_of block) bytes number in
    let Tells : List ℕ → Type 0 = λ (front : List ℕ). TellsSize front (size_of block) in
    let own = subst Tells (front_of_part (size_of block) bytes number (size_range here volid number block stands).0)
    (tells_front here (size_of block) (tells_own here volid number block stands)) in
    one_size (block_at bytes number) (size_of block) size own tells

-- a whole block was read
pub part_read : (size number : ℕ) (file read : List ℕ) → length read ≤ size → HoldsBlocks file number size read → read ≡ part_at size file number
unfolding part_at
part_read size number file read short holds =
    sym (take_all size read short) ∙ holds size 0 (omega arith) ∙ ap (λ (n : ℕ). take size (drop (4096 * n) file)) (let same : number + 0 ≡ number = omega arith in same)

-- the bytes that were read have the chunks that stand there
pub holds_here : (file read : List ℕ) (volid number size : ℕ) (chunks : List ChunkText) (units : ℕ) → BeginsSize (block_at file number) size
    → read ≡ part_at size file number → HoldsChunks (data_at units file number) volid number units chunks → HoldsChunks read volid number units chunks
holds_here file read volid number size chunks units begins is holds =
    let stands : StandsAt file volid number (kinds.Data (length (chunks_text chunks)) units) = (chunks, holds, refl) in
    let same : data_size units ≡ size = stands_size file volid number size (kinds.Data (length (chunks_text chunks)) units) begins stands in
    let here : data_at units file number ≡ read = ap (λ (n : ℕ). part_at n file number) same ∙ sym is in
    subst (λ (t : List ℕ). HoldsChunks t volid number units chunks) here holds

-- ---- what is no data block

pub none_is_invalid : (file : List ℕ) (volid number : ℕ) → ((other : Block) → ¬ StandsAt file volid number other) → IsInvalid file volid number
none_is_invalid file volid number none chunks has =
    none (kinds.Data (length (chunks_text chunks)) has.units) (chunks, has.holds, refl)

pub label_is_invalid : (file : List ℕ) (volid number : ℕ) (label : Label) → StandsAt file volid number (kinds.Label label) → IsInvalid file volid number
label_is_invalid file volid number label stands chunks has =
    absurd (cc (one_stands file volid number (kinds.Label label) (kinds.Data (length (chunks_text chunks)) has.units) stands (chunks, has.holds, refl)))

pub mark_is_invalid : (file : List ℕ) (volid number count units : ℕ) → StandsAt file volid number (kinds.Mark count units) → IsInvalid file volid number
mark_is_invalid file volid number count units stands chunks has =
    absurd (cc (one_stands file volid number (kinds.Mark count units) (kinds.Data (length (chunks_text chunks)) has.units) stands (chunks, has.holds, refl)))

pub data_is_valid : (file : List ℕ) (volid number used units : ℕ) → StandsAt file volid number (kinds.Data used units) → ¬ IsInvalid file volid number
data_is_valid file volid number used units stands none = none stands.0 (record { units = units; holds = stands.1 })

pub bad_is_invalid : (file read : List ℕ) (volid number size : ℕ) (why : Reason) → BeginsSize (block_at file number) size → read ≡ part_at size file number
    → IsBad size read volid number why → IsInvalid file volid number
bad_is_invalid file read volid number size why begins is bad =
    none_is_invalid file volid number
    (bad_at file volid number size why begins (subst (λ (t : List ℕ). IsBad size t volid number why) is bad)).invalid

-- what was read is a data block
pub data_read : (file read : List ℕ) (volid number size used units : ℕ) → read ≡ part_at size file number → length read ≡ size
    → ValidBlock read volid number (kinds.Data used units) → (chunks : List ChunkText) × ((units : ℕ) × HoldsChunks read volid number units chunks)
    × HasChunks file volid number chunks
data_read file read volid number size used units is whole valid =
    let same : size ≡ data_size units = sym whole ∙ length-valid read volid number (kinds.Data used units) valid in
    let here : read ≡ data_at units file number = is ∙ ap (λ (n : ℕ). part_at n file number) same in
    (valid.0, (units, valid.1), record { units = units; holds = subst (λ (t : List ℕ). HoldsChunks t volid number units valid.0) here valid.1 })

-- ---- what the bytes of a block give

-- what was read of a block that may be there, with what was behind it
pub part_loaded : (result : Result ℕ Failed) (size room number : ℕ) (file new rest : List ℕ) → room ≡ size → length new ≡ room
    → IfOk result (λ count. count ≤ room)
    → IfOk result (λ count. HoldsBlocks file number room (take count new))
    → IfOk result (λ count. take count (new ++ rest) ≡ part_at size file number)
part_loaded (Ok count) size room number file new rest whole long within read =
    let short : length (take count new) ≤ size = omega (arith, length-take count new, within, long, whole) in
    take-append-le count new rest (omega (arith, within, long))
    ∙ part_read size number file (take count new) short (subst (λ (n : ℕ). HoldsBlocks file number n (take count new)) whole read)
part_loaded (Err failed) size room number file new rest whole long within read = tt

-- What was taken of the bytes of a block, which weren't judged where nothing was taken.
pub run_of_block : (file read : List ℕ) (volid number size ssid copy place : ℕ) (into : List ℕ) (run : Run)
    → BeginsSize (block_at file number) size → read ≡ part_at size file number
    → ((volid number units : ℕ) (chunks : List ChunkText) → HoldsChunks read volid number units chunks
    → IsRun (λ place byte. GiveByte ssid copy place chunks byte) (λ place. GiveNone ssid copy place chunks) place into run)
    → (0 < run.count → JudgesData file volid number read true)
    → IsRun (BlockGives file volid number ssid copy) (BlockLacks file volid number ssid copy) place into run
run_of_block file read volid number size ssid copy place into run begins is taken judged = record {
  given = λ i below.
      (let held = judged (omega (arith, below)) in
      record { chunks = held.0; has = held.2; gives = (taken volid number held.1.0 held.0 held.1.1).given i below });
  clear = λ none i below chunks has.
      (taken volid number has.units chunks (holds_here file read volid number size chunks has.units begins is has.holds)).clear none i below;
}

-- an invalid block gives nothing
pub invalid_lacks : (file : List ℕ) (volid number ssid copy place most : ℕ) (into : List ℕ) → IsInvalid file volid number
    → IsRun (BlockGives file volid number ssid copy) (BlockLacks file volid number ssid copy) place into (record { count = 0; clear = most })
invalid_lacks file volid number ssid copy place most into invalid = record {
  given = λ i below. absurd (omega (arith, below));
  clear = λ none i below chunks has. absurd (invalid chunks has);
}
