-- What is read from bytes that a block's fields spell.
use Rattle.std.proofs.Common.{◌≡◌, ℕ, ◌+◌, ◌-◌, ◌^◌, ◌<◌, ◌≤◌, List, ◌++◌, length, take, drop, replicate, refl, sym, ap, subst, ◌∙◌, arith}
use Rattle.std.proofs.lemmas.List.{length-append, length-replicate, drop-drop, take_at, drop_at}
use Rattle.byteorder.specs.Endian.{big_bytes, big_number}
use Rattle.sha2.specs.Sha256.{sha256}
use Rattle.sha2.proofs.Facts256.{length-sha256}
use Rattle.volume_block.specs.Layout.{IsUnits, data_size, units_told, head_text, padded_payload, block_text}
use Rattle.volume_block.specs.Chunks.{ChunkText, chunks_text}
use Rattle.volume_block.specs.Valid.{HoldsChunks}
use Rattle.volume_block.specs.Why.{kind_in, units_in, used_in, volid_in, number_in, payload_in, HasForm, IsPadded, HasDigest}
use Rattle.volume_block.proofs.Heads.{reads_2, reads_4, reads_8}
use Rattle.volume_block.proofs.Forms.{units_range, told_below, tells_units, tells_form}

-- the parts of bytes that are a block with these fields
pub record Spells (bytes : List ℕ) (kind units size volid number : ℕ) (payload : List ℕ) : Type 0 where
  pub kind_read : kind_in bytes ≡ kind
  pub units_read : units_in bytes ≡ units
  pub form : HasForm bytes
  pub volid_read : volid_in bytes ≡ volid
  pub number_read : number_in bytes ≡ number
  pub used_read : used_in bytes ≡ length payload
  pub payload_read : payload_in bytes ≡ payload
  pub whole : length bytes ≡ size
  pub padded : IsPadded bytes
  pub digest : HasDigest bytes

-- the same of a head, a digest of 32 bytes and the rest
spells_parts : (kind units size volid number used : ℕ) (digest payload rest : List ℕ) → IsUnits units → 56 + used ≤ size → size ≤ 65536
    → volid < 2 ^ 64 → number < 2 ^ 64
    → length digest ≡ 32 → digest ≡ sha256 (head_text kind units used volid number ++ rest) → length payload ≡ used
    → rest ≡ payload ++ replicate (size - 56 - used) 0
    → Spells ((head_text kind units used volid number ++ digest) ++ rest) kind units size volid number payload
spells_parts kind units size volid number used digest payload rest of-units fits small volid-fits number-fits sized is count padding =
    let head = head_text kind units used volid number in
    let bytes = (head ++ digest) ++ rest in
    let told : big_number 2 (drop 2 bytes) ≡ units_told units =
    reads_2 (units_told units) ((big_bytes 4 used ++ big_bytes 8 volid ++ big_bytes 8 number ++ digest) ++ rest) (told_below units of-units) in
    let used-is : used_in bytes ≡ used = reads_4 used ((big_bytes 8 volid ++ big_bytes 8 number ++ digest) ++ rest) (omega arith) in
    let behind : drop 56 bytes ≡ rest = drop_at (head ++ digest) rest 56 (length-append head digest ∙ omega (arith, sized)) in
    let zeros = replicate (size - 56 - used) 0 in
    let long : length rest ≡ size - 56 = ap length padding ∙ length-append payload zeros ∙ omega (arith, length-replicate {A = ℕ} (size - 56 - used) 0) in
    let whole : length bytes ≡ size = length-append (head ++ digest) rest ∙ omega (arith, length-append head digest, sized, long) in
    let Padded : ℕ → ℕ → Type 0 = λ (s n : ℕ). (56 + n ≤ s) × (drop (56 + n) bytes ≡ replicate (s - 56 - n) 0) in
    record {
      kind_read = refl;
      units_read = tells_units bytes units of-units refl told;
      form = tells_form bytes units of-units refl told;
      volid_read = reads_8 volid ((big_bytes 8 number ++ digest) ++ rest) volid-fits;
      number_read = reads_8 number (digest ++ rest) number-fits;
      used_read = used-is ∙ sym count;
      payload_read = ap (λ (n : ℕ). take n (drop 56 bytes)) used-is ∙ ap (take used) (behind ∙ padding) ∙ take_at payload zeros used count;
      whole = whole;
      padded = subst (λ (s : ℕ). Padded s (used_in bytes)) (sym whole)
          (subst (Padded size) (sym used-is) (fits, sym (drop-drop used 56 bytes) ∙ ap (drop used) (behind ∙ padding) ∙ drop_at payload zeros used count));
      digest = take_at digest rest 32 sized ∙ is ∙ ap (λ (t : List ℕ). sha256 (head ++ t)) (sym behind);
    }

pub spells_block : (bytes : List ℕ) (kind units size volid number : ℕ) (payload : List ℕ) → IsUnits units → 56 + length payload ≤ size → size ≤ 65536
    → volid < 2 ^ 64 → number < 2 ^ 64
    → bytes ≡ block_text kind units size volid number payload → Spells bytes kind units size volid number payload
unfolding block_text
spells_block bytes kind units size volid number payload of-units fits small volid-fits number-fits spelled =
    let head = head_text kind units (length payload) volid number in
    let rest = padded_payload size payload in
    subst (λ (t : List ℕ). Spells t kind units size volid number payload) (sym spelled)
    (spells_parts kind units size volid number (length payload) (sha256 (head ++ rest)) payload rest of-units fits small volid-fits number-fits
    (length-sha256 (head ++ rest)) refl refl refl)

-- a data block with these chunks
pub spells_data : (bytes : List ℕ) (volid number units : ℕ) (chunks : List ChunkText) → HoldsChunks bytes volid number units chunks
    → Spells bytes 0x44 units (data_size units) volid number (chunks_text chunks)
spells_data bytes volid number units chunks held =
    spells_block bytes 0x44 units (data_size units) volid number (chunks_text chunks) held.of_units held.allowed.fit
    (omega (arith, (units_range units held.of_units).1)) held.of_volume.1 held.placed.1 held.text
