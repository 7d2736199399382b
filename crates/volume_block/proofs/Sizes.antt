-- The size of a block, which its front tells.
use Rattle.std.proofs.Common.{◌≡◌, ◌⊎◌, ℕ, ◌≤◌, List, take, drop, slice_index, sym, subst, ◌∙◌, arith, inl, inr}
use Rattle.std.proofs.lemmas.List.{get_or-take, get_or-drop}
use Rattle.byteorder.specs.Endian.{big_number}
use Rattle.volume_block.specs.Layout.{IsUnits, IsSizeOf, form_of, units_told}
use Rattle.volume_block.specs.Valid.{ValidBlock, size_of}
use Rattle.volume_block.specs.Why.{TellsSize, kind_in, units_of, units_in}
use Rattle.volume_block.specs.declared.block.Block.{Block}
use Rattle.volume_block.specs.declared.block.Block.TheVariants as kinds
use Rattle.volume_block.proofs.Blocks.{parts_of, sized_here}
use Rattle.volume_block.proofs.Forms.{units_range}
use Rattle.volume_block.proofs.Lengths.{length-valid}

pub size_range : (bytes : List ℕ) (volid number : ℕ) (block : Block) → ValidBlock bytes volid number block
    → (4096 ≤ size_of block) × (size_of block ≤ 65536)
size_range bytes volid number (kinds.Label label) valid = (omega arith, omega arith)
size_range bytes volid number (kinds.Mark count units) valid = (omega arith, omega arith)
size_range bytes volid number (kinds.Data used units) valid =
    let range = units_range units valid.1.of_units in
    (omega (arith, range.0), omega (arith, range.1))

-- a valid block tells its size
pub tells_own : (bytes : List ℕ) (volid number : ℕ) (block : Block) → ValidBlock bytes volid number block → TellsSize bytes (size_of block)
tells_own bytes volid number block valid =
    let parts = parts_of bytes volid number block valid in
    inl (
      parts.spells.form,
      subst (IsSizeOf (kind_in bytes) (units_in bytes)) (length-valid bytes volid number block valid) (sized_here bytes volid number block parts),
    )

-- the form and the size, by the fields that tell them
abbrev FormOf : ℕ → ℕ → Type 0
FormOf form told =
    IsUnits (units_of form told) × (form ≡ form_of (units_of form told)) × (told ≡ units_told (units_of form told))

abbrev SizeBy : ℕ → ℕ → ℕ → ℕ → Type 0
SizeBy size kind form told =
    (FormOf form told × IsSizeOf kind (units_of form told) size) ⊎ ((¬ FormOf form told) × (size ≡ 4096))

told_in_front : (bytes : List ℕ) → big_number 2 (drop 2 (take 4096 bytes)) ≡ big_number 2 (drop 2 bytes)
told_in_front bytes =
    let first : slice_index (drop 2 (take 4096 bytes)) 0 ≡ slice_index (drop 2 bytes) 0 =
    get_or-drop 2 (take 4096 bytes) 0 0 ∙ get_or-take 4096 bytes 2 0 (omega arith) ∙ sym (get_or-drop 2 bytes 0 0) in
    let second : slice_index (drop 2 (take 4096 bytes)) 1 ≡ slice_index (drop 2 bytes) 1 =
    get_or-drop 2 (take 4096 bytes) 1 0 ∙ get_or-take 4096 bytes 3 0 (omega arith) ∙ sym (get_or-drop 2 bytes 1 0) in
    omega (arith, first, second)

-- the front of a block tells what the block does
pub tells_front : (bytes : List ℕ) (size : ℕ) → TellsSize bytes size → TellsSize (take 4096 bytes) size
tells_front bytes size tells =
    let front = take 4096 bytes in
    let kind : slice_index front 0 ≡ slice_index bytes 0 = get_or-take 4096 bytes 0 0 (omega arith) in
    let form : slice_index front 1 ≡ slice_index bytes 1 = get_or-take 4096 bytes 1 0 (omega arith) in
    subst (λ (k : ℕ). SizeBy size k (slice_index front 1) (big_number 2 (drop 2 front))) (sym kind)
    (subst (λ (f : ℕ). SizeBy size (slice_index bytes 0) f (big_number 2 (drop 2 front))) (sym form)
    (subst (SizeBy size (slice_index bytes 0) (slice_index bytes 1)) (sym (told_in_front bytes)) tells))

one_size_of : (kind units one other : ℕ) → IsSizeOf kind units one → IsSizeOf kind units other → one ≡ other
one_size_of kind units one other (inl a) (inl b) = a.1 ∙ sym b.1
one_size_of kind units one other (inl a) (inr b) = absurd (b.0 a.0)
one_size_of kind units one other (inr a) (inl b) = absurd (a.0 b.0)
one_size_of kind units one other (inr a) (inr b) = a.1 ∙ sym b.1

-- one size is told
pub one_size : (front : List ℕ) (one other : ℕ) → TellsSize front one → TellsSize front other → one ≡ other
one_size front one other (inl a) (inl b) = one_size_of (kind_in front) (units_in front) one other a.1 b.1
one_size front one other (inl a) (inr b) = absurd (b.0 a.0)
one_size front one other (inr a) (inl b) = absurd (a.0 b.0)
one_size front one other (inr a) (inr b) = a.1 ∙ sym b.1
