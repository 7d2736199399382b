-- A block is valid exactly where each of its parts is right, and is one block alone.
use Rattle.std.proofs.Common.{◌≡◌, ◌≢◌, ℕ, ◌+◌, ◌-◌, ◌^◌, ◌<◌, ◌≤◌, List, [], ◌++◌, length, take, drop, replicate, refl, sym, ap, subst, ◌∙◌, arith, inl, inr}
use Rattle.std.proofs.lemmas.List.{length-append, length-take, take-append-drop}
use Rattle.byteorder.specs.Endian.{big_bytes, big_number}
use Rattle.volume_block.specs.Layout.{IsUnits, IsSizeOf, data_size, block_text}
use Rattle.volume_block.specs.Chunks.{chunks_text}
use Rattle.volume_block.specs.Valid.{AreChunks, ValidBlock, label_fields, label_payload}
use Rattle.volume_block.specs.Why.{kind_in, units_in, volid_in, number_in, payload_in, IsKindAt, IsPayload, IsLabelIn, SaysBlock, IsRight, AreRightBelow}
use Rattle.volume_block.specs.declared.label.Label.{Label}
use Rattle.volume_block.specs.declared.block.Block.{Block}
use Rattle.volume_block.specs.declared.block.Block.TheVariants as kinds
use Rattle.volume_block.specs.declared.block.Reason.{Reason}
use Rattle.volume_block.specs.declared.block.Reason.TheVariants as reasons
use Rattle.volume_block.proofs.Heads.{reads_4}
use Rattle.volume_block.proofs.Labels.{SpellsLabel, spells_label}
use Rattle.volume_block.proofs.Parts.{IsBytes, spelled}
use Rattle.volume_block.proofs.Spelled.{Spells, spells_block, spells_data}
use Rattle.volume_block.proofs.Forms.{one_unit, one_unit_of_mark, units_of_data}

-- ---- from a valid block to its parts

pub record HasParts (bytes : List ℕ) (volid number : ℕ) (block : Block) : Type 0 where
  pub kind : ℕ
  pub units : ℕ
  pub size : ℕ
  pub payload : List ℕ
  pub spells : Spells bytes kind units size volid number payload
  pub sized : IsSizeOf kind units size
  pub says : SaysBlock kind units volid payload block
  pub at : IsKindAt kind number
  pub volid_some : 1 ≤ volid

pub parts_of : (bytes : List ℕ) (volid number : ℕ) (block : Block) → ValidBlock bytes volid number block → HasParts bytes volid number block
parts_of bytes volid number (kinds.Label label) valid =
    let units = label.units in
    let fits : 56 + length (label_payload label) ≤ 4096 =
    omega (arith, length-append (label_fields label) (take label.pool_length label.pool), length-take label.pool_length label.pool, valid.0.pool_length.1) in
    let text : bytes ≡ block_text 0x4C units 4096 volid number (label_payload label) =
    valid.3 ∙ ap (λ (v : ℕ). block_text 0x4C units 4096 v 0 (label_payload label)) (sym valid.1)
    ∙ ap (λ (n : ℕ). block_text 0x4C units 4096 volid n (label_payload label)) (sym valid.2) in
    record {
      kind = 0x4C;
      units = units;
      size = 4096;
      payload = label_payload label;
      spells = spells_block bytes 0x4C units 4096 volid number (label_payload label) valid.0.units fits (omega arith)
          (omega (arith, valid.1, valid.0.volid.1)) (omega (arith, valid.2)) text;
      sized = inr (λ is. omega (arith, is), refl);
      says = (refl, (valid.0, refl, sym valid.1, refl));
      at = inl (valid.2, refl);
      volid_some = omega (arith, valid.1, valid.0.volid.0);
    }
parts_of bytes volid number (kinds.Mark count units) valid = record {
  kind = 0x46;
  units = units;
  size = 4096;
  payload = big_bytes 4 count;
  spells = spells_block bytes 0x46 units 4096 volid number (big_bytes 4 count) valid.2 (omega arith) (omega arith) valid.0.1 valid.1.1 valid.4;
  sized = inr (λ is. omega (arith, is), refl);
  says = (refl, refl, (valid.3, refl));
  at = inr (valid.1.0, inl refl);
  volid_some = valid.0.0;
}
parts_of bytes volid number (kinds.Data used units) valid =
    let chunks = valid.0 in
    let held = valid.1 in
    record {
      kind = 0x44;
      units = units;
      size = data_size units;
      payload = chunks_text chunks;
      spells = spells_data bytes volid number units chunks held;
      sized = inl (refl, refl);
      says = (refl, refl, valid.2, (chunks, (held.allowed, refl)));
      at = inr (held.placed.0, inr refl);
      volid_some = held.of_volume.0;
    }

is_payload : (kind units volid : ℕ) (payload : List ℕ) (block : Block) → SaysBlock kind units volid payload block → IsPayload kind units volid payload
is_payload kind units volid payload (kinds.Label label) says = inl (says.0, (label, says.1))
is_payload kind units volid payload (kinds.Mark count told) says = inr (inl (says.0, (count, says.2)))
is_payload kind units volid payload (kinds.Data used told) says = inr (inr (says.0, says.3))

pub says_here : (bytes : List ℕ) (volid number : ℕ) (block : Block) → HasParts bytes volid number block
    → SaysBlock (kind_in bytes) (units_in bytes) volid (payload_in bytes) block
says_here bytes volid number block parts =
    subst (λ (k : ℕ). SaysBlock k (units_in bytes) volid (payload_in bytes) block) (sym parts.spells.kind_read)
    (subst (λ (u : ℕ). SaysBlock parts.kind u volid (payload_in bytes) block) (sym parts.spells.units_read)
    (subst (λ (t : List ℕ). SaysBlock parts.kind parts.units volid t block) (sym parts.spells.payload_read) parts.says))

pub sized_here : (bytes : List ℕ) (volid number : ℕ) (block : Block) → HasParts bytes volid number block
    → IsSizeOf (kind_in bytes) (units_in bytes) (length bytes)
sized_here bytes volid number block parts =
    subst (λ (k : ℕ). IsSizeOf k (units_in bytes) (length bytes)) (sym parts.spells.kind_read)
    (subst (λ (u : ℕ). IsSizeOf parts.kind u (length bytes)) (sym parts.spells.units_read)
    (subst (IsSizeOf parts.kind parts.units) (sym parts.spells.whole) parts.sized))

pub right_part : (part : Reason) (bytes : List ℕ) (volid number : ℕ) (block : Block) → HasParts bytes volid number block → IsRight part bytes volid number
right_part reasons.Kind bytes volid number block parts = subst (λ (k : ℕ). IsKindAt k number) (sym parts.spells.kind_read) parts.at
right_part reasons.Form bytes volid number block parts = parts.spells.form
right_part reasons.Volid bytes volid number block parts = (parts.spells.volid_read, parts.volid_some)
right_part reasons.Number bytes volid number block parts = parts.spells.number_read
right_part reasons.Length bytes volid number block parts = (sized_here bytes volid number block parts, parts.spells.padded)
right_part reasons.Digest bytes volid number block parts = parts.spells.digest
right_part reasons.Payload bytes volid number block parts =
    is_payload (kind_in bytes) (units_in bytes) volid (payload_in bytes) block (says_here bytes volid number block parts)

-- ---- one block alone

same_pool : (one other : List ℕ) (count size : ℕ) → take count one ≡ take count other → drop count one ≡ replicate size 0 → drop count other ≡ replicate size 0 → one ≡ other
same_pool one other count size names ones others =
    sym (take-append-drop count one)
    ∙ ap (λ (t : List ℕ). t ++ drop count one) names
    ∙ ap (λ (t : List ℕ). take count other ++ t) (ones ∙ sym others)
    ∙ take-append-drop count other

of_fields : ℕ → ℕ → ℕ → ℕ → ℕ → List ℕ → ℕ → Label
of_fields volid cart capacity made pool_length pool units =
    record { volid = record { 0 = volid }; cart = record { 0 = cart }; capacity = capacity; made = record { 0 = made }; pool_length = pool_length; pool = pool; units = units }

has_fields : (label : Label) → of_fields label.volid.0 label.cart.0 label.capacity label.made.0 label.pool_length label.pool label.units ≡ label
unfolding of_fields
has_fields label = refl

same_fields : (v w c d a b m n l k u t : ℕ) (p q : List ℕ) → v ≡ w → c ≡ d → a ≡ b → m ≡ n → l ≡ k → p ≡ q → u ≡ t
    → of_fields v c a m l p u ≡ of_fields w d b n k q t
same_fields v w c d a b m n l k u t p q volid cart capacity made count pool units = cc

pub equal_labels : (one other : Label) → one.volid.0 ≡ other.volid.0 → one.cart.0 ≡ other.cart.0 → one.capacity ≡ other.capacity
    → one.made.0 ≡ other.made.0 → one.pool_length ≡ other.pool_length → one.pool ≡ other.pool → one.units ≡ other.units → one ≡ other
equal_labels one other volid-is cart-is capacity-is made-is length-is pool-is units-is =
    sym (has_fields one) ∙ same_fields _ _ _ _ _ _ _ _ _ _ _ _ _ _ volid-is cart-is capacity-is made-is length-is pool-is units-is ∙ has_fields other

pub same_label : (units volid : ℕ) (payload : List ℕ) (one other : Label) → IsLabelIn units volid payload one → IsLabelIn units volid payload other → one ≡ other
same_label units volid payload one other ones others =
    let a = subst (λ (t : List ℕ). SpellsLabel t one) (sym ones.3) (spells_label one ones.0) in
    let b = subst (λ (t : List ℕ). SpellsLabel t other) (sym others.3) (spells_label other others.0) in
    let length-is : one.pool_length ≡ other.pool_length = sym a.pool_length ∙ b.pool_length in
    let name-is : take one.pool_length one.pool ≡ take one.pool_length other.pool =
    sym a.name ∙ b.name ∙ ap (λ (n : ℕ). take n other.pool) (sym length-is) in
    let other-zeros : drop one.pool_length other.pool ≡ replicate (64 - one.pool_length) 0 =
    ap (λ (n : ℕ). drop n other.pool) length-is ∙ others.0.zeros ∙ ap (λ (n : ℕ). replicate (64 - n) 0) (sym length-is) in
    let pool-is = same_pool one.pool other.pool one.pool_length (64 - one.pool_length) name-is ones.0.zeros other-zeros in
    equal_labels one other (ones.2 ∙ sym others.2) (sym a.cart ∙ b.cart) (sym a.capacity ∙ b.capacity) (sym a.made ∙ b.made) length-is pool-is (ones.1 ∙ sym others.1)

pub same_block : (kind units volid : ℕ) (payload : List ℕ) (one other : Block) → SaysBlock kind units volid payload one
    → SaysBlock kind units volid payload other → one ≡ other
same_block kind units volid payload (kinds.Label one) (kinds.Label other) ones others = ap kinds.Label (same_label units volid payload one other ones.1 others.1)
same_block kind units volid payload (kinds.Label one) (kinds.Mark count told) ones others = absurd (omega (arith, ones.0, others.0))
same_block kind units volid payload (kinds.Label one) (kinds.Data used told) ones others = absurd (omega (arith, ones.0, others.0))
same_block kind units volid payload (kinds.Mark count told) (kinds.Label other) ones others = absurd (omega (arith, ones.0, others.0))
same_block kind units volid payload (kinds.Mark one told) (kinds.Mark other tells) ones others =
    let same : one ≡ other = sym (reads_4 one [] (omega (arith, ones.2.0.1))) ∙ ap (λ (t : List ℕ). big_number 4 t) (sym ones.2.1 ∙ others.2.1)
    ∙ reads_4 other [] (omega (arith, others.2.0.1)) in
    ap (λ (n : ℕ). kinds.Mark n told) same ∙ ap (kinds.Mark other) (ones.1 ∙ sym others.1)
same_block kind units volid payload (kinds.Mark count told) (kinds.Data used tells) ones others = absurd (omega (arith, ones.0, others.0))
same_block kind units volid payload (kinds.Data used told) (kinds.Label other) ones others = absurd (omega (arith, ones.0, others.0))
same_block kind units volid payload (kinds.Data used told) (kinds.Mark count tells) ones others = absurd (omega (arith, ones.0, others.0))
same_block kind units volid payload (kinds.Data one told) (kinds.Data other tells) ones others =
    ap (λ (n : ℕ). kinds.Data n told) (ones.2 ∙ sym others.2) ∙ ap (kinds.Data other) (ones.1 ∙ sym others.1)

-- ---- from right parts to a valid block

label_at : (kind number : ℕ) → IsKindAt kind number → kind ≡ 0x4C → number ≡ 0
label_at kind number (inl label) is = label.0
label_at kind number (inr (some, inl mark)) is = absurd (omega (arith, mark, is))
label_at kind number (inr (some, inr chunks)) is = absurd (omega (arith, chunks, is))

other_at : (kind number : ℕ) → IsKindAt kind number → kind ≢ 0x4C → 1 ≤ number
other_at kind number (inl label) is = absurd (is label.1)
other_at kind number (inr other) is = other.0

valid_text : (bytes text : List ℕ) (volid number kind units size : ℕ) (block : Block) → volid < 2 ^ 64 → number < 2 ^ 64 → 1 ≤ volid → IsKindAt kind number
    → IsUnits units → IsSizeOf kind units size → bytes ≡ block_text kind units size volid number text → SaysBlock kind units volid text block
    → ValidBlock bytes volid number block
valid_text bytes text volid number kind units size (kinds.Label label) volid-fits number-fits some at of-units sized spelled says =
    let first = label_at kind number at says.0 in (
      says.1.0,
      sym says.1.2,
      first,
      spelled
          ∙ ap (λ (k : ℕ). block_text k units size volid number text) says.0
          ∙ ap (λ (s : ℕ). block_text 0x4C units s volid number text) (one_unit kind units size sized says.0)
          ∙ ap (λ (u : ℕ). block_text 0x4C u 4096 volid number text) (sym says.1.1)
          ∙ ap (λ (v : ℕ). block_text 0x4C label.units 4096 v number text) (sym says.1.2)
          ∙ ap (λ (n : ℕ). block_text 0x4C label.units 4096 label.volid.0 n text) first
          ∙ ap (λ (t : List ℕ). block_text 0x4C label.units 4096 label.volid.0 0 t) says.1.3,
    )
valid_text bytes text volid number kind units size (kinds.Mark count told) volid-fits number-fits some at of-units sized spelled says = (
  (some, volid-fits),
  (other_at kind number at (λ is. omega (arith, is, says.0)), number-fits),
  subst IsUnits (sym says.1) of-units,
  says.2.0,
  spelled
      ∙ ap (λ (k : ℕ). block_text k units size volid number text) says.0
      ∙ ap (λ (s : ℕ). block_text 0x46 units s volid number text) (one_unit_of_mark kind units size sized says.0)
      ∙ ap (λ (u : ℕ). block_text 0x46 u 4096 volid number text) (sym says.1)
      ∙ ap (λ (t : List ℕ). block_text 0x46 told 4096 volid number t) says.2.1,
)
valid_text bytes text volid number kind units size (kinds.Data used told) volid-fits number-fits some at of-units sized spelled says =
    let chunks = says.3.0 in (
      chunks,
      record {
        of_volume = (some, volid-fits);
        placed = (other_at kind number at (λ is. omega (arith, is, says.0)), number-fits);
        of_units = subst IsUnits (sym says.1) of-units;
        allowed = subst (λ (u : ℕ). AreChunks u chunks) (sym says.1) says.3.1.0;
        text = spelled
            ∙ ap (λ (k : ℕ). block_text k units size volid number text) says.0
            ∙ ap (λ (s : ℕ). block_text 0x44 units s volid number text) (units_of_data kind units size sized says.0)
            ∙ ap (λ (u : ℕ). block_text 0x44 u (data_size u) volid number text) (sym says.1)
            ∙ ap (λ (t : List ℕ). block_text 0x44 told (data_size told) volid number t) says.3.1.1;
      },
      says.2 ∙ ap length says.3.1.1,
    )

pub valid_block : (bytes : List ℕ) (volid number : ℕ) (block : Block) → IsBytes bytes → volid < 2 ^ 64 → number < 2 ^ 64
    → AreRightBelow 6 bytes volid number → SaysBlock (kind_in bytes) (units_in bytes) volid (payload_in bytes) block → ValidBlock bytes volid number block
valid_block bytes volid number block fits volid-fits number-fits right says =
    let form = right reasons.Form (omega arith) in
    let volume = right reasons.Volid (omega arith) in
    let whole = right reasons.Length (omega arith) in
    let text : bytes ≡ block_text (kind_in bytes) (units_in bytes) (length bytes) volid number (payload_in bytes) =
    spelled bytes fits form whole.1 (right reasons.Digest (omega arith))
    ∙ ap (λ (v : ℕ). block_text (kind_in bytes) (units_in bytes) (length bytes) v (number_in bytes) (payload_in bytes)) volume.0
    ∙ ap (λ (n : ℕ). block_text (kind_in bytes) (units_in bytes) (length bytes) volid n (payload_in bytes)) (right reasons.Number (omega arith)) in
    valid_text bytes (payload_in bytes) volid number (kind_in bytes) (units_in bytes) (length bytes) block volid-fits number-fits volume.1
    (right reasons.Kind (omega arith)) form.0 whole.0 text says

-- ---- a label whose volid is read

label_kind : (kind : ℕ) → IsKindAt kind 0 → kind ≡ 0x4C
label_kind kind (inl label) = label.1
label_kind kind (inr other) = absurd (omega (arith, other.0))

pub no_label : (kind units volid : ℕ) (payload : List ℕ) → IsKindAt kind 0 → ((label : Label) → ¬ IsLabelIn units volid payload label)
    → ¬ IsPayload kind units volid payload
no_label kind units volid payload at none (inl label) = none label.1.0 label.1.1
no_label kind units volid payload at none (inr (inl mark)) = absurd (omega (arith, label_kind kind at, mark.0))
no_label kind units volid payload at none (inr (inr chunks)) = absurd (omega (arith, label_kind kind at, chunks.0))

pub label_parts : (bytes : List ℕ) (volid : ℕ) (label : Label) → volid ≡ volid_in bytes
    → ValidBlock bytes label.volid.0 0 (kinds.Label label) → HasParts bytes volid 0 (kinds.Label label)
label_parts bytes volid label read valid =
    let parts = parts_of bytes label.volid.0 0 (kinds.Label label) valid in
    let Parts : ℕ → Type 0 = λ (v : ℕ). HasParts bytes v 0 (kinds.Label label) in
    subst Parts (sym (read ∙ parts.spells.volid_read)) parts

pub valid_label : (bytes : List ℕ) (volid : ℕ) (label : Label) → IsBytes bytes → volid < 2 ^ 64
    → AreRightBelow 6 bytes volid 0 → IsLabelIn (units_in bytes) volid (payload_in bytes) label → ValidBlock bytes label.volid.0 0 (kinds.Label label)
valid_label bytes volid label fits volid-fits right is =
    let kind = label_kind (kind_in bytes) (right reasons.Kind (omega arith)) in
    let valid = valid_block bytes volid 0 (kinds.Label label) fits volid-fits (omega arith) right (kind, is) in
    (valid.0, refl, refl, valid.3)
