-- Why bytes are no valid block: the first part that is wrong.
use Rattle.std.specs.Prelude.{◌≡◌, ◌⊎◌, ℕ, zero, suc, ◌+◌, ◌-◌, ◌≤◌, ◌<◌, List, ◌++◌, length, take}
use Rattle.std.specs.Prelude.{drop, replicate, slice_index}
use Rattle.byteorder.specs.Endian.{big_number}
use Rattle.sha2.specs.Sha256.{sha256}
use Rattle.volume_block.specs.Layout.{IsUnits, IsSizeOf, form_of, units_told}
use Rattle.volume_block.specs.Valid.{IsLabel, label_payload, IsCount, AreChunks}
use Rattle.volume_block.specs.Chunks.{ChunkText, chunks_text}
use Rattle.byteorder.specs.Endian.{big_bytes}
use Rattle.volume_block.specs.declared.label.Label.{Label}
use Rattle.volume_block.specs.declared.block.Block.{Block}
use Rattle.volume_block.specs.declared.block.Block.TheVariants as kinds
use Rattle.volume_block.specs.declared.block.Reason.{Reason}
use Rattle.volume_block.specs.declared.block.Reason.TheVariants as reasons

-- the fields, as they stand in the bytes
abbrev pub kind_in : List ℕ → ℕ
kind_in bytes = slice_index bytes 0

-- the units, which one form alone tells
abbrev pub units_of : ℕ → ℕ → ℕ
units_of (suc zero) told = 1
units_of form told = told

abbrev pub units_in : List ℕ → ℕ
units_in bytes = units_of (slice_index bytes 1) (big_number 2 (drop 2 bytes))

abbrev pub used_in : List ℕ → ℕ
used_in bytes = big_number 4 (drop 4 bytes)

abbrev pub volid_in : List ℕ → ℕ
volid_in bytes = big_number 8 (drop 8 bytes)

abbrev pub number_in : List ℕ → ℕ
number_in bytes = big_number 8 (drop 16 bytes)

abbrev pub payload_in : List ℕ → List ℕ
payload_in bytes = take (used_in bytes) (drop 56 bytes)

-- the label stands at number 0, marks and data blocks at others
abbrev pub IsKindAt : ℕ → ℕ → Type 0
IsKindAt kind number =
    ((number ≡ 0) × (kind ≡ 0x4C)) ⊎ ((1 ≤ number) × ((kind ≡ 0x46) ⊎ (kind ≡ 0x44)))

-- the bytes 1 to 3 are those of a number of units
abbrev pub HasForm : List ℕ → Type 0
HasForm bytes =
    IsUnits (units_in bytes) × (slice_index bytes 1 ≡ form_of (units_in bytes))
    × (big_number 2 (drop 2 bytes) ≡ units_told (units_in bytes))

-- the payload has room, and zeros stand behind it
abbrev pub IsPadded : List ℕ → Type 0
IsPadded bytes =
    (56 + used_in bytes ≤ length bytes)
    × (drop (56 + used_in bytes) bytes ≡ replicate (length bytes - 56 - used_in bytes) 0)

-- the block has the size of its kind and units
abbrev pub HasLength : List ℕ → Type 0
HasLength bytes = IsSizeOf (kind_in bytes) (units_in bytes) (length bytes) × IsPadded bytes

-- the size that the front of a block tells: 4,096 where its form is none
abbrev pub TellsSize : List ℕ → ℕ → Type 0
TellsSize front size = (HasForm front × IsSizeOf (kind_in front) (units_in front) size)
    ⊎ ((¬ HasForm front) × (size ≡ 4096))

-- the digest is that of the bytes before and behind it
abbrev pub HasDigest : List ℕ → Type 0
HasDigest bytes = take 32 (drop 24 bytes) ≡ sha256 (take 24 bytes ++ drop 56 bytes)

-- the payload of a label, of a mark, of a data block
abbrev pub IsLabelIn : ℕ → ℕ → List ℕ → Label → Type 0
IsLabelIn units volid payload label =
    IsLabel label × (label.units ≡ units) × (label.volid.0 ≡ volid)
    × (payload ≡ label_payload label)

abbrev pub IsCountIn : List ℕ → ℕ → Type 0
IsCountIn payload count = IsCount count × (payload ≡ big_bytes 4 count)

abbrev pub AreChunksIn : ℕ → List ℕ → List ChunkText → Type 0
AreChunksIn units payload chunks = AreChunks units chunks × (payload ≡ chunks_text chunks)

-- a pool's name has the length that is told, and has room
abbrev pub FitsPool : ℕ → List ℕ → Type 0
FitsPool pool_length name = (length name ≡ pool_length) × (pool_length ≤ 64)

-- a payload of this kind, in a volume of so many units
abbrev pub IsPayload : ℕ → ℕ → ℕ → List ℕ → Type 0
IsPayload kind units volid payload =
    ((kind ≡ 0x4C) × ((label : Label) × IsLabelIn units volid payload label))
    ⊎ ((kind ≡ 0x46) × ((count : ℕ) × IsCountIn payload count))
    ⊎ ((kind ≡ 0x44) × ((chunks : List ChunkText) × AreChunksIn units payload chunks))

-- this part of a block is right, for this volume and number
abbrev pub IsRight : Reason → List ℕ → ℕ → ℕ → Type 0
IsRight reasons.Kind bytes volid number = IsKindAt (kind_in bytes) number
IsRight reasons.Form bytes volid number = HasForm bytes
IsRight reasons.Volid bytes volid number = (volid_in bytes ≡ volid) × (1 ≤ volid)
IsRight reasons.Number bytes volid number = number_in bytes ≡ number
IsRight reasons.Length bytes volid number = HasLength bytes
IsRight reasons.Digest bytes volid number = HasDigest bytes
IsRight reasons.Payload bytes volid number =
    IsPayload (kind_in bytes) (units_in bytes) volid (payload_in bytes)

-- the place of a part in the order in which they are judged
abbrev pub rank_of : Reason → ℕ
rank_of reasons.Kind = 0
rank_of reasons.Form = 1
rank_of reasons.Volid = 2
rank_of reasons.Number = 3
rank_of reasons.Length = 4
rank_of reasons.Digest = 5
rank_of reasons.Payload = 6

-- every part before this place in the order is right
abbrev pub AreRightBelow : ℕ → List ℕ → ℕ → ℕ → Type 0
AreRightBelow rank bytes volid number =
    (part : Reason) → rank_of part < rank → IsRight part bytes volid number

-- the first part that is wrong
pub record Why (bytes : List ℕ) (volid number : ℕ) (why : Reason) : Type 0 where
  pub wrong : ¬ (IsRight why bytes volid number)
  pub first : AreRightBelow (rank_of why) bytes volid number

-- what a payload of this kind says, in a volume of so many units
abbrev pub SaysBlock : ℕ → ℕ → ℕ → List ℕ → Block → Type 0
SaysBlock kind units volid payload (kinds.Label label) =
    (kind ≡ 0x4C) × IsLabelIn units volid payload label
SaysBlock kind units volid payload (kinds.Mark count told) =
    (kind ≡ 0x46) × (told ≡ units) × IsCountIn payload count
SaysBlock kind units volid payload (kinds.Data used told) =
    (kind ≡ 0x44) × (told ≡ units) × (used ≡ length payload)
    × ((chunks : List ChunkText) × AreChunksIn units payload chunks)
