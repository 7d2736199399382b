-- What was read of a file, and what it says of its blocks.
use Rattle.std.proofs.Common.{◌≡◌, ◌≢◌, ℕ, ◌+◌, ◌-◌, ◌*◌, ◌<◌, ◌≤◌, List, [], length, take, drop, min, get_or, refl, sym, ap, subst, ◌∙◌, arith, inl, inr}
use Rattle.std.proofs.lemmas.List.{length-take, length-drop, take-append-le, take_min, drop_all, get_or-take, get_or-drop, drop-take, take-take, drop-drop}
use Rattle.std.proofs.lemmas.Grind.{common_steps}
use Rattle.std.specs.Prelude.{Result, Ok, Err, IfOk, ◌++◌}
use Rattle.room_base.specs.declared.fault.Failed.{Failed}
use Rattle.volume_block.specs.Valid.{ValidBlock, size_of}
use Rattle.volume_block.specs.Why.{Why, TellsSize, volid_in}
use Rattle.volume_block.specs.declared.block.Block.{Block}
use Rattle.volume_block.specs.declared.block.Block.TheVariants as kinds
use Rattle.volume_block.specs.declared.block.Reason.{Reason}
use Rattle.volume_block.specs.declared.block.Reason.TheVariants as reasons
use Rattle.volume_block.proofs.Lengths.{length-valid}
use Rattle.volume_block.proofs.Sizes.{size_range, tells_own, tells_front, one_size}
use Rattle.volume_block.proofs.Blocks.{parts_of, label_parts, right_part}
use Rattle.volume_block.proofs.OneBlock.{one_block}
use Rattle.volume_store.specs.Committed.{part_at, block_at, kind_byte_at}
use Rattle.volume_store.specs.Reads.{IsBad, IsBadLabel, IsBadAt, BeginsSize, StandsAt, FindsLabel, Finds}
use Rattle.volume_store.specs.declared.label.Found.{Found}
use Rattle.volume_store.specs.declared.label.Found.TheVariants as found

-- a part of a part of a file
part_of_part : (at size from count : ℕ) (file : List ℕ) → from + count ≤ size
    → take count (drop from (take size (drop at file))) ≡ take count (drop (at + from) file)
part_of_part at size from count file inside =
    let split : size ≡ from + (size - from) = omega (arith, inside) in
    ap (λ (n : ℕ). take count (drop from (take n (drop at file)))) split
    ∙ ap (take count) (drop-take from (size - from) (drop at file))
    ∙ take-take count (size - from) (drop from (drop at file)) (omega (arith, inside))
    ∙ ap (take count) (drop-drop from at file)

-- as many bytes as there are, of those that there is room for
pub front_of : (at count size : ℕ) (file into : List ℕ) → count ≡ min size (length file - at)
    → take count into ≡ take count (drop at file) → take count into ≡ take size (drop at file)
front_of at count size file into is read =
    read ∙ ap (λ (n : ℕ). take n (drop at file)) (is ∙ ap (min size) (sym (length-drop at file))) ∙ take_min size (drop at file)

-- there is nothing behind the end of a file
pub past_all : (at size : ℕ) (file : List ℕ) → length file ≤ at → [] ≡ take size (drop at file)
past_all at size file past = sym (ap (take size) (drop_all at file past) ∙ grind (arith, common_steps))

pub front_is_part : (size number count : ℕ) (file into : List ℕ) → take count into ≡ take size (drop (4096 * number) file)
    → take count into ≡ part_at size file number
unfolding part_at
front_is_part size number count file into is = is

-- a block of what was read
pub block_of_blocks : (first room size k : ℕ) (file read : List ℕ) → read ≡ take room (drop (4096 * first) file) → 4096 * k + size ≤ room
    → part_at size read k ≡ part_at size file (first + k)
unfolding part_at
block_of_blocks first room size k file read is inside =
    ap (λ (bytes : List ℕ). take size (drop (4096 * k) bytes)) is
    ∙ part_of_part (4096 * first) room (4096 * k) size file inside
    ∙ ap (λ (n : ℕ). take size (drop n file)) (let same : 4096 * first + 4096 * k ≡ 4096 * (first + k) = omega arith in same)

-- a block of which bytes are missing isn't valid
pub short_block : (size : ℕ) (block : List ℕ) (volid number : ℕ) → length block < size → IsBad size block volid number reasons.Length
short_block size block volid number short = record {
  first_wrong = inl (short, refl);
  invalid = λ other sized valid. omega (arith, short, sized, length-valid block volid number other valid);
}

pub short_label : (block : List ℕ) → length block < 4096 → IsBadLabel block reasons.Length
short_label block short = record {
  bad = short_block 4096 block (volid_in block) 0 short;
  no_label = λ label valid. omega (arith, short, length-valid block label.volid.0 0 (kinds.Label label) valid);
}

-- a block with a wrong part isn't valid
pub wrong_block : (size : ℕ) (block : List ℕ) (volid number : ℕ) (why : Reason) → length block ≡ size → Why block volid number why
    → IsBad size block volid number why
wrong_block size block volid number why whole is = record {
  first_wrong = inr (whole, is);
  invalid = λ other sized valid. is.wrong (right_part why block volid number other (parts_of block volid number other valid));
}

pub wrong_label : (block : List ℕ) (why : Reason) → length block ≡ 4096 → Why block (volid_in block) 0 why → IsBadLabel block why
wrong_label block why whole is = record {
  bad = wrong_block 4096 block (volid_in block) 0 why whole is;
  no_label = λ label valid.
      is.wrong (right_part why block (volid_in block) 0 (kinds.Label label) (label_parts block (volid_in block) label refl valid));
}

-- what is no block is no mark
pub no_mark : (block : List ℕ) (volid number units : ℕ) (read : Block) → ValidBlock block volid number read
    → ((count : ℕ) → read ≢ kinds.Mark count units) → (count : ℕ) → ¬ ValidBlock block volid number (kinds.Mark count units)
no_mark block volid number units read valid other count mark =
    other count (one_block block volid number volid number read (kinds.Mark count units) valid mark).2

same_units : (one other told units : ℕ) → kinds.Mark one told ≡ kinds.Mark other units → told ≡ units
same_units one other told units same = cc same

-- a mark of other units is none of these
pub other_units : (block : List ℕ) (volid number read told units : ℕ) → ValidBlock block volid number (kinds.Mark read told) → told ≢ units
    → (count : ℕ) → ¬ ValidBlock block volid number (kinds.Mark count units)
other_units block volid number read told units valid other count mark =
    other (same_units read count told units (one_block block volid number volid number (kinds.Mark read told) (kinds.Mark count units) valid mark).2)

-- ---- a block of the size that is told

-- the front of what was read, with what was there behind it
pub part_read : (result : Result ℕ Failed) (size room number : ℕ) (file new rest : List ℕ) → room ≡ size → length new ≡ room
    → IfOk result (λ count. count ≤ room) → IfOk result (λ count. take count new ≡ take room (drop (4096 * number) file))
    → IfOk result (λ count. take count (new ++ rest) ≡ part_at size file number)
unfolding part_at
part_read (Ok count) size room number file new rest whole long within read =
    take-append-le count new rest (omega (arith, within, long)) ∙ read ∙ ap (λ (n : ℕ). take n (drop (4096 * number) file)) whole
part_read (Err failed) size room number file new rest whole long within read = tt

part_length : (size : ℕ) (bytes : List ℕ) (number : ℕ) → length (part_at size bytes number) ≡ min size (length bytes - 4096 * number)
unfolding part_at
part_length size bytes number = length-take size (drop (4096 * number) bytes) ∙ ap (min size) (length-drop (4096 * number) bytes)

front_of_part : (size : ℕ) (bytes : List ℕ) (number : ℕ) → 4096 ≤ size → take 4096 (part_at size bytes number) ≡ block_at bytes number
unfolding part_at
front_of_part size bytes number fits = take-take 4096 size (drop (4096 * number) bytes) fits

-- a block that stands tells its size
stands_tells : (bytes : List ℕ) (volid number : ℕ) (block : Block) → StandsAt bytes volid number block → TellsSize (block_at bytes number) (size_of block)
stands_tells bytes volid number block stands =
    let here = part_at (size_of block) bytes number in
    let Tells : List ℕ → Type 0 = λ (front : List ℕ). TellsSize front (size_of block) in
    subst Tells (front_of_part (size_of block) bytes number (size_range here volid number block stands).0)
    (tells_front here (size_of block) (tells_own here volid number block stands))

stands_size : (bytes : List ℕ) (volid number size : ℕ) (block : Block) → BeginsSize (block_at bytes number) size → StandsAt bytes volid number block
    → size_of block ≡ size
stands_size bytes volid number size block (inl short) stands =
    absurd (omega (
      arith,
      short.0,
      part_length 4096 bytes number,
      part_length (size_of block) bytes number,
      length-valid (part_at (size_of block) bytes number) volid number block stands,
      (size_range (part_at (size_of block) bytes number) volid number block stands).0,
    ))
stands_size bytes volid number size block (inr tells) stands =
    one_size (block_at bytes number) (size_of block) size (stands_tells bytes volid number block stands) tells

-- one block of a volume and number stands at a place at most, whatever its size
pub one_stands : (bytes : List ℕ) (volid number : ℕ) (block other : Block) → StandsAt bytes volid number block
    → StandsAt bytes volid number other → block ≡ other
one_stands bytes volid number block other one two =
    let tells = stands_tells bytes volid number block one in
    let same : size_of other ≡ size_of block = stands_size bytes volid number (size_of block) other (inr tells) two in
    let here = subst (λ (n : ℕ). ValidBlock (part_at n bytes number) volid number other) same two in
    (one_block (part_at (size_of block) bytes number) volid number volid number block other one here).2

pub bad_at : (bytes : List ℕ) (volid number size : ℕ) (why : Reason) → BeginsSize (block_at bytes number) size
    → IsBad size (part_at size bytes number) volid number why → IsBadAt bytes volid number why
bad_at bytes volid number size why begins bad = record {
  size = size;
  told = begins;
  first_wrong = bad.first_wrong;
  invalid = λ other stands.
      let same = stands_size bytes volid number size other begins stands in
      bad.invalid other same (subst (λ (n : ℕ). ValidBlock (part_at n bytes number) volid number other) same stands);
}

-- what was read and judged is as long as the block
pub read_whole : (count size volid number : ℕ) (into : List ℕ) (block : Block) → count ≤ size → length (take count into) ≡ size
    → ValidBlock (take count into) volid number block → (size_of block ≡ size) × (take count into ≡ take (size_of block) into)
read_whole count size volid number into block within long valid =
    let same : size_of block ≡ size = sym (length-valid (take count into) volid number block valid) ∙ long in
    let all : count ≡ size = omega (arith, within, long, length-take count into) in
    (same, ap (λ (n : ℕ). take n into) (all ∙ sym same))

-- what was read and judged stands
pub stands_read : (bytes read : List ℕ) (volid number size : ℕ) (block : Block) → read ≡ part_at size bytes number → length read ≡ size
    → ValidBlock read volid number block → StandsAt bytes volid number block
stands_read bytes read volid number size block is long valid =
    let same : size ≡ size_of block = sym long ∙ length-valid read volid number block valid in
    subst (λ (n : ℕ). ValidBlock (part_at n bytes number) volid number block) same
    (subst (λ (t : List ℕ). ValidBlock t volid number block) is valid)

-- ---- the front of a cartridge

pub first_byte : (number : ℕ) (bytes : List ℕ) → get_or (block_at bytes number) 0 0 ≡ kind_byte_at bytes number
unfolding part_at
first_byte number bytes = get_or-take 4096 (drop (4096 * number) bytes) 0 0 (omega arith) ∙ get_or-drop (4096 * number) bytes 0 0
    ∙ ap (λ (n : ℕ). get_or bytes n 0) (let same : 4096 * number + 0 ≡ 4096 * number = omega arith in same)

-- where a block has no bytes the file has ended
pub block_none : (number : ℕ) (bytes : List ℕ) → length (block_at bytes number) ≡ 0 → length bytes ≤ 4096 * number
unfolding part_at
block_none number bytes none =
    omega (arith, none, length-take 4096 (drop (4096 * number) bytes), length-drop (4096 * number) bytes)

block_length : (bytes : List ℕ) → length (block_at bytes 0) ≡ min 4096 (length bytes)
unfolding part_at
block_length bytes = length-take 4096 (drop 0 bytes)

pub finds : (bytes : List ℕ) (what : Found) → FindsLabel (block_at bytes 0) what → Finds bytes what
finds bytes found.Blank is = omega (arith, is, block_length bytes)
finds bytes found.Closed is = (omega (arith, is.0, block_length bytes), λ opens. is.1 (first_byte 0 bytes ∙ opens))
finds bytes (found.Damaged bad) is = ((sym (first_byte 0 bytes) ∙ is.0, is.1.no_label), is.1)
finds bytes (found.Labelled label) is = is
