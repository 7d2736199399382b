-- Whether bytes are a data block, a label or a mark is decided: what they say is read, and spelled again.
use Rattle.std.proofs.Common.{◌≡◌, ℕ, zero, suc, ◌+◌, ◌-◌, ◌^◌, ◌<◌, ◌≤◌, true, List, [], ◌∷◌, ◌++◌, length, take, drop, replicate, slice_index, All, refl, sym, ap, subst, ◌∙◌, arith}
use Rattle.std.proofs.lemmas.List.{length-append, length-drop, take-append-drop}
use Rattle.std.proofs.lemmas.List.Elements.{All-nil, All-cons, All-head, All-tail}
use Rattle.std.proofs.lemmas.Str.{IsUtf8-from_is_utf8, is_utf8-from_IsUtf8}
use Rattle.std.proofs.Math.Bool.{Bool-discrete}
use Rattle.std.proofs.Math.Decide.{ℕ_discrete, dec_le}
use Rattle.std.specs.Str.{IsUtf8, is_utf8}
use Rattle.byteorder.specs.Endian.{big_number}
use Rattle.room_base.specs.Text.{IsPrintable, IsName}
use Rattle.room_base.specs.Numbers.{max_moment}
use Rattle.volume_block.specs.Chunks.{ChunkText, IsChunk, chunk_text, chunks_text}
use Rattle.volume_block.specs.Layout.{IsUnits, data_size}
use Rattle.volume_block.specs.Valid.{least_capacity, HoldsChunks, ValidBlock, IsVolid, IsNumber, IsCount, IsLabel, label_payload, label_text, mark_text, data_text}
use Rattle.volume_block.specs.Why.{units_in, volid_in, payload_in}
use Rattle.volume_block.specs.declared.label.Label.{Label}
use Rattle.volume_block.specs.declared.block.Block.TheVariants as kinds
use Rattle.volume_block.proofs.Blocks.{parts_of, says_here, equal_labels}
use Rattle.volume_block.proofs.Lengths.{length-chunk_text}
use Rattle.volume_block.proofs.Heads.{Reads, chunk_at, reads_4, reads_chunk}
use Rattle.volume_block.proofs.Labels.{spells_label}
use Rattle.volume_block.proofs.Spelled.{spells_data}
use Rattle.volume_block.proofs.Forms.{is_units, units_range}
use Rattle.volume_block.proofs.OneBlock.{equal_chunks, same_front, same_chunks}

both : {P Q : Type 0} → Dec P → Dec Q → Dec (P × Q)
both (yes p) (yes q) = yes (p, q)
both (yes p) (no q) = no (λ pair. q pair.1)
both (no p) q = no (λ pair. p pair.0)

same_head : (x y : ℕ) (xs ys : List ℕ) → x ∷ xs ≡ y ∷ ys → x ≡ y
same_head x y xs ys same = cc same

same_rest : (x y : ℕ) (xs ys : List ℕ) → x ∷ xs ≡ y ∷ ys → xs ≡ ys
same_rest x y xs ys same = cc same

same_cons : (x y : ℕ) (xs ys : List ℕ) → Dec (x ≡ y) → Dec (xs ≡ ys) → Dec (x ∷ xs ≡ y ∷ ys)
same_cons x y xs ys (yes p) (yes q) = yes (ap (λ h. h ∷ xs) p ∙ ap (λ t. y ∷ t) q)
same_cons x y xs ys (yes p) (no q) = no (λ same. q (same_rest x y xs ys same))
same_cons x y xs ys (no p) q = no (λ same. p (same_head x y xs ys same))

same_list : (xs ys : List ℕ) → Dec (xs ≡ ys)
same_list [] [] = yes refl
same_list [] (y ∷ ys) = no (λ same. absurd (omega (arith, ap length same)))
same_list (x ∷ xs) [] = no (λ same. absurd (omega (arith, ap length same)))
same_list (x ∷ xs) (y ∷ ys) = same_cons x y xs ys (ℕ_discrete x y) (same_list xs ys)

-- ---- chunks

chunk_of : (chunk : ChunkText) → Dec (((1 ≤ chunk.ssid) × (chunk.ssid < 2 ^ 64)) × (((1 ≤ chunk.copy) × (chunk.copy < 2 ^ 32))
    × ((1 ≤ length chunk.bytes) × (chunk.offset + length chunk.bytes ≤ 2 ^ 36)))) → Dec (IsChunk chunk)
chunk_of chunk (yes is) = yes (record { ssid = is.0; copy = is.1.0; some = is.1.1.0; ends = is.1.1.1 })
chunk_of chunk (no not) = no (λ is. not (is.ssid, (is.copy, (is.some, is.ends))))

is_chunk : (chunk : ChunkText) → Dec (IsChunk chunk)
is_chunk chunk =
    let fields = both (both (dec_le 1 chunk.ssid) (dec_le (suc chunk.ssid) (2 ^ 64)))
    (both (both (dec_le 1 chunk.copy) (dec_le (suc chunk.copy) (2 ^ 32)))
    (both (dec_le 1 (length chunk.bytes)) (dec_le (chunk.offset + length chunk.bytes) (2 ^ 36)))) in
    chunk_of chunk fields

-- a chunk is at the front of these bytes
abbrev IsFront : List ℕ → ChunkText → Type 0
IsFront text chunk = IsChunk chunk × (text ≡ chunk_text chunk ++ drop (24 + length chunk.bytes) text)

-- the bytes are chunks one behind the other
abbrev AreIn : List ℕ → Type 0
AreIn text = (chunks : List ChunkText) × (All IsChunk chunks × (text ≡ chunks_text chunks))

-- a chunk at the front is the one that is read there
is_read : (text : List ℕ) (chunk : ChunkText) (tail : List ℕ) → length text ≤ 2 ^ 32 → IsChunk chunk → text ≡ chunk_text chunk ++ tail
    → IsFront text (chunk_at text)
is_read text chunk tail fits allowed spelled =
    let long : 24 + length chunk.bytes ≤ length text = omega (arith, ap length spelled, length-append (chunk_text chunk) tail, length-chunk_text chunk) in
    let reads = subst (λ (t : List ℕ). Reads t chunk tail) (sym spelled) (reads_chunk chunk tail allowed (omega arith)) in
    let same : chunk_at text ≡ chunk = equal_chunks (chunk_at text) chunk reads.ssid reads.copy reads.offset
    (ap (λ (n : ℕ). take n (drop 24 text)) reads.count ∙ reads.bytes) in
    let spelled-here : text ≡ chunk_text chunk ++ drop (24 + length chunk.bytes) text = spelled ∙ ap (λ (t : List ℕ). chunk_text chunk ++ t) (sym reads.behind) in
    subst (IsFront text) (sym same) (allowed, spelled-here)

behind_front : (text : List ℕ) → length text ≤ 2 ^ 32 → 1 ≤ length text → IsFront text (chunk_at text) → (chunks : List ChunkText) → All IsChunk chunks
    → text ≡ chunks_text chunks → AreIn (drop (24 + length (chunk_at text).bytes) text)
behind_front text fits some front [] each spelled = absurd (omega (arith, some, ap length spelled))
behind_front text fits some front (chunk ∷ chunks) each spelled =
    let same = same_front text (chunk_at text) chunk (drop (24 + length (chunk_at text).bytes) text) (chunks_text chunks) fits front.0
    (All-head IsChunk chunk chunks each) front.1 spelled in
    (chunks, (All-tail IsChunk chunk chunks each, same.1))

front_of : (text : List ℕ) → length text ≤ 2 ^ 32 → 1 ≤ length text → (chunks : List ChunkText) → All IsChunk chunks
    → text ≡ chunks_text chunks → IsFront text (chunk_at text)
front_of text fits some [] each spelled = absurd (omega (arith, some, ap length spelled))
front_of text fits some (chunk ∷ chunks) each spelled = is_read text chunk (chunks_text chunks) fits (All-head IsChunk chunk chunks each) spelled

more_chunks : (text : List ℕ) → length text ≤ 2 ^ 32 → 1 ≤ length text → Dec (IsFront text (chunk_at text))
    → Dec (AreIn (drop (24 + length (chunk_at text).bytes) text)) → Dec (AreIn text)
more_chunks text fits some (yes front) (yes rest) = yes (
  chunk_at text ∷ rest.0,
  (
    All-cons IsChunk (chunk_at text) rest.0 front.0 rest.1.0,
    front.1 ∙ ap (λ (t : List ℕ). chunk_text (chunk_at text) ++ t) rest.1.1,
  ),
)
more_chunks text fits some (yes front) (no rest) = no (λ are. rest (behind_front text fits some front are.0 are.1.0 are.1.1))
more_chunks text fits some (no front) rest = no (λ are. front (front_of text fits some are.0 are.1.0 are.1.1))

are_in : (fuel : ℕ) (text : List ℕ) → length text ≤ fuel → length text ≤ 2 ^ 32 → Dec (AreIn text)
are_in fuel [] long fits = yes ([], (All-nil IsChunk, refl))
are_in zero (byte ∷ text) long fits = absurd (omega (arith, long))
are_in (suc fuel) (byte ∷ text) long fits =
    let whole = byte ∷ text in
    let chunk = chunk_at whole in
    let size = 24 + length chunk.bytes in
    let shorter : length (drop size whole) ≤ fuel = omega (arith, length-drop size whole, long) in
    more_chunks whole fits (omega arith) (both (is_chunk chunk) (same_list whole (chunk_text chunk ++ drop size whole)))
    (are_in fuel (drop size whole) shorter (omega (arith, length-drop size whole, fits)))

-- ---- a data block

abbrev IsData : List ℕ → ℕ → ℕ → ℕ → Type 0
IsData bytes volid number units = (chunks : List ChunkText) × HoldsChunks bytes volid number units chunks

-- the block's fields are in their ranges
abbrev AreFields : List ℕ → ℕ → ℕ → ℕ → Type 0
AreFields bytes volid number units =
    ((1 ≤ volid) × (volid < 2 ^ 64)) × (((1 ≤ number) × (number < 2 ^ 64)) × (IsUnits units × (56 + length (payload_in bytes) ≤ data_size units)))

short_payload : (bytes : List ℕ) (volid number units : ℕ) → AreFields bytes volid number units → length (payload_in bytes) ≤ 2 ^ 32
short_payload bytes volid number units fields = omega (arith, fields.1.1.1, (units_range units fields.1.1.0).1)

read_of : (bytes : List ℕ) (volid number units : ℕ) (chunks : List ChunkText) → HoldsChunks bytes volid number units chunks → payload_in bytes ≡ chunks_text chunks
read_of bytes volid number units chunks held = (spells_data bytes volid number units chunks held).payload_read

fields_of : (bytes : List ℕ) (volid number units : ℕ) → IsData bytes volid number units → AreFields bytes volid number units
fields_of bytes volid number units data_block =
    let held = data_block.1 in
    (held.of_volume, (held.placed, (held.of_units, omega (arith, held.allowed.fit, ap length (read_of bytes volid number units data_block.0 held)))))

data_of : (bytes : List ℕ) (volid number units : ℕ) → AreFields bytes volid number units → (chunks : List ChunkText) → All IsChunk chunks
    → payload_in bytes ≡ chunks_text chunks → Dec (bytes ≡ data_text volid number units chunks) → Dec (IsData bytes volid number units)
data_of bytes volid number units fields [] each spelled same =
    no (λ data_block. data_block.1.allowed.some (sym (same_chunks [] data_block.0 (omega arith) each data_block.1.allowed.each
    (sym spelled ∙ read_of bytes volid number units data_block.0 data_block.1))))
data_of bytes volid number units fields (chunk ∷ chunks) each spelled (yes text) = yes (
  chunk ∷ chunks,
  record {
    of_volume = fields.0;
    placed = fields.1.0;
    of_units = fields.1.1.0;
    allowed = record {
      some = λ none. absurd (cc none);
      fit = omega (arith, fields.1.1.1, ap length spelled);
      each = each;
    };
    text = text;
  },
)
data_of bytes volid number units fields (chunk ∷ chunks) each spelled (no text) =
    no (λ data_block.
    let same = same_chunks (chunk ∷ chunks) data_block.0 (omega (arith, short_payload bytes volid number units fields, ap length spelled)) each data_block.1.allowed.each
    (sym spelled ∙ read_of bytes volid number units data_block.0 data_block.1) in
    text (data_block.1.text ∙ ap (data_text volid number units) (sym same)))

with_payload : (bytes : List ℕ) (volid number units : ℕ) → AreFields bytes volid number units → Dec (AreIn (payload_in bytes)) → Dec (IsData bytes volid number units)
with_payload bytes volid number units fields (yes are) =
    data_of bytes volid number units fields are.0 are.1.0 are.1.1 (same_list bytes (data_text volid number units are.0))
with_payload bytes volid number units fields (no none) =
    no (λ data_block. none (data_block.0, (data_block.1.allowed.each, read_of bytes volid number units data_block.0 data_block.1)))

with_fields : (bytes : List ℕ) (volid number units : ℕ) → Dec (AreFields bytes volid number units) → Dec (IsData bytes volid number units)
with_fields bytes volid number units (yes fields) =
    with_payload bytes volid number units fields
    (are_in (length (payload_in bytes)) (payload_in bytes) (omega arith) (short_payload bytes volid number units fields))
with_fields bytes volid number units (no none) = no (λ data_block. none (fields_of bytes volid number units data_block))

-- bytes are a data block of this volume, number and units, or they aren't
pub is_data : (bytes : List ℕ) (volid number units : ℕ) → Dec ((chunks : List ChunkText) × HoldsChunks bytes volid number units chunks)
is_data bytes volid number units = with_fields bytes volid number units
    (both (both (dec_le 1 volid) (dec_le (suc volid) (2 ^ 64)))
    (both (both (dec_le 1 number) (dec_le (suc number) (2 ^ 64)))
    (both (is_units units) (dec_le (56 + length (payload_in bytes)) (data_size units)))))

-- ---- names

printable : (byte : ℕ) → Dec (byte ≡ 0x7F) → Dec (0x20 ≤ byte) → Dec (IsPrintable byte)
printable byte (yes delete) from = no (λ is. is.1 delete)
printable byte (no other) (yes from) = yes (from, other)
printable byte (no other) (no below) = no (λ is. below is.0)

all_printable_then : (byte : ℕ) (bytes : List ℕ) → Dec (IsPrintable byte) → Dec (All IsPrintable bytes) → Dec (All IsPrintable (byte ∷ bytes))
all_printable_then byte bytes (yes is) (yes are) = yes (All-cons IsPrintable byte bytes is are)
all_printable_then byte bytes (yes is) (no not) = no (λ are. not (All-tail IsPrintable byte bytes are))
all_printable_then byte bytes (no not) rest = no (λ are. not (All-head IsPrintable byte bytes are))

all_printable : (bytes : List ℕ) → Dec (All IsPrintable bytes)
all_printable [] = yes (All-nil IsPrintable)
all_printable (byte ∷ bytes) = all_printable_then byte bytes (printable byte (ℕ_discrete byte 0x7F) (dec_le 0x20 byte)) (all_printable bytes)

utf8_of : (bytes : List ℕ) → Dec (is_utf8 bytes ≡ true) → Dec (IsUtf8 bytes)
utf8_of bytes (yes is) = yes (IsUtf8-from_is_utf8 bytes is)
utf8_of bytes (no not) = no (λ is. not (is_utf8-from_IsUtf8 bytes is))

is_name : (bytes : List ℕ) → Dec (IsName bytes)
is_name bytes = both (utf8_of bytes (Bool-discrete (is_utf8 bytes) true)) (all_printable bytes)

-- ---- labels

abbrev Ranges : Label → Type 0
Ranges label = ((1 ≤ label.volid.0) × (label.volid.0 < 2 ^ 64)) × (((1 ≤ label.cart.0) × (label.cart.0 ≤ 256))
    × (((least_capacity label.units ≤ label.capacity) × (label.capacity ≤ 1000000)) × ((label.made.0 ≤ max_moment) × IsUnits label.units)))

abbrev HasPool : Label → Type 0
HasPool label = ((1 ≤ label.pool_length) × (label.pool_length ≤ 64)) × ((length label.pool ≡ 64)
    × (IsName (take label.pool_length label.pool) × (drop label.pool_length label.pool ≡ replicate (64 - label.pool_length) 0)))

ranges : (label : Label) → Dec (Ranges label)
ranges label =
    both (both (dec_le 1 label.volid.0) (dec_le (suc label.volid.0) (2 ^ 64)))
    (both (both (dec_le 1 label.cart.0) (dec_le label.cart.0 256))
    (both (both (dec_le (least_capacity label.units) label.capacity) (dec_le label.capacity 1000000))
    (both (dec_le label.made.0 max_moment) (is_units label.units))))

has_pool : (label : Label) → Dec (HasPool label)
has_pool label =
    both (both (dec_le 1 label.pool_length) (dec_le label.pool_length 64))
    (both (ℕ_discrete (length label.pool) 64)
    (both (is_name (take label.pool_length label.pool)) (same_list (drop label.pool_length label.pool) (replicate (64 - label.pool_length) 0))))

allowed_of : (label : Label) → Dec (Ranges label) → Dec (HasPool label) → Dec (IsLabel label)
allowed_of label (yes is) (yes pool) = yes (record {
  volid = is.0;
  cart = is.1.0;
  units = is.1.1.1.1;
  capacity = is.1.1.0;
  made = is.1.1.1.0;
  pool_length = pool.0;
  room = pool.1.0;
  pool = pool.1.1.0;
  zeros = pool.1.1.1;
})
allowed_of label (yes is) (no not) = no (λ allowed. not (allowed.pool_length, (allowed.room, (allowed.pool, allowed.zeros))))
allowed_of label (no not) pool = no (λ allowed. not (allowed.volid, (allowed.cart, (allowed.capacity, (allowed.made, allowed.units)))))

-- the label whose fields stand in a payload
abbrev label_of : ℕ → ℕ → List ℕ → Label
label_of units volid payload = record {
  volid = record { 0 = volid };
  cart = record { 0 = big_number 4 payload };
  capacity = big_number 4 (drop 4 payload);
  made = record { 0 = big_number 8 (drop 8 payload) };
  pool_length = slice_index payload 16;
  pool = drop 17 payload ++ replicate (64 - slice_index payload 16) 0;
  units = units;
}

reads_label : (label : Label) → IsLabel label → label_of label.units label.volid.0 (label_payload label) ≡ label
reads_label label allowed =
    let reads = spells_label label allowed in
    equal_labels (label_of label.units label.volid.0 (label_payload label)) label refl reads.cart reads.capacity reads.made reads.pool_length
    (ap (λ (n : ℕ). drop 17 (label_payload label) ++ replicate (64 - n) 0) reads.pool_length
    ∙ ap (λ (name : List ℕ). name ++ replicate (64 - label.pool_length) 0) reads.name
    ∙ ap (λ (zeros : List ℕ). take label.pool_length label.pool ++ zeros) (sym allowed.zeros)
    ∙ take-append-drop label.pool_length label.pool)
    refl

abbrev IsLabelBlock : List ℕ → Label → Type 0
IsLabelBlock block label = ValidBlock block label.volid.0 0 (kinds.Label label)

label_read : (block : List ℕ) (label : Label) → IsLabelBlock block label → label_of (units_in block) (volid_in block) (payload_in block) ≡ label
label_read block label valid =
    let parts = parts_of block label.volid.0 0 (kinds.Label label) valid in
    let says = says_here block label.volid.0 0 (kinds.Label label) parts in
    ap (λ (units : ℕ). label_of units (volid_in block) (payload_in block)) (sym says.1.1)
    ∙ ap (λ (volid : ℕ). label_of label.units volid (payload_in block)) parts.spells.volid_read
    ∙ ap (label_of label.units label.volid.0) says.1.3
    ∙ reads_label label valid.0

label_found : (block : List ℕ) (read : Label) → ((label : Label) → IsLabelBlock block label → read ≡ label)
    → Dec (IsLabel read) → Dec (block ≡ label_text read) → Dec ((label : Label) × IsLabelBlock block label)
label_found block read only (yes allowed) (yes text) = yes (read, (allowed, refl, refl, text))
label_found block read only (yes allowed) (no other) =
    no (λ found. other (found.1.3 ∙ ap label_text (sym (only found.0 found.1))))
label_found block read only (no not) text = no (λ found. not (subst IsLabel (sym (only found.0 found.1)) found.1.0))

-- bytes are a label, or they aren't
pub is_label : (block : List ℕ) → Dec ((label : Label) × ValidBlock block label.volid.0 0 (kinds.Label label))
is_label block =
    let read = label_of (units_in block) (volid_in block) (payload_in block) in
    label_found block read (label_read block) (allowed_of read (ranges read) (has_pool read)) (same_list block (label_text read))

-- ---- marks

count_read : (block : List ℕ) (volid mark count units : ℕ) → ValidBlock block volid mark (kinds.Mark count units) → big_number 4 (payload_in block) ≡ count
count_read block volid mark count units valid =
    let says = says_here block volid mark (kinds.Mark count units) (parts_of block volid mark (kinds.Mark count units) valid) in
    ap (big_number 4) says.2.1 ∙ reads_4 count [] (omega (arith, valid.3.1))

-- the numbers of a mark are in their ranges
abbrev AreAllowed : ℕ → ℕ → ℕ → ℕ → Type 0
AreAllowed volid mark units count = (IsVolid volid) × ((IsNumber mark) × ((IsUnits units) × (IsCount count)))

mark_found : (block : List ℕ) (volid mark units read : ℕ) → ((count : ℕ) → ValidBlock block volid mark (kinds.Mark count units) → read ≡ count)
    → Dec (AreAllowed volid mark units read) → Dec (block ≡ mark_text volid mark read units)
    → Dec ((count : ℕ) × ValidBlock block volid mark (kinds.Mark count units))
mark_found block volid mark units read only (yes are) (yes text) = yes (read, (are.0, are.1.0, are.1.1.0, are.1.1.1, text))
mark_found block volid mark units read only (yes are) (no other) =
    no (λ found. other (found.1.4 ∙ ap (λ (count : ℕ). mark_text volid mark count units) (sym (only found.0 found.1))))
mark_found block volid mark units read only (no not) text =
    no (λ found. not (found.1.0, (found.1.1, (found.1.2, subst IsCount (sym (only found.0 found.1)) found.1.3))))

-- bytes are a mark of this volume, number and units, or they aren't
pub is_mark : (block : List ℕ) (volid mark units : ℕ) → Dec ((count : ℕ) × ValidBlock block volid mark (kinds.Mark count units))
is_mark block volid mark units =
    let read = big_number 4 (payload_in block) in
    mark_found block volid mark units read (λ count. count_read block volid mark count units)
    (both (both (dec_le 1 volid) (dec_le (suc volid) (2 ^ 64)))
    (both (both (dec_le 1 mark) (dec_le (suc mark) (2 ^ 64))) (both (is_units units) (both (dec_le 1 read) (dec_le read 64)))))
    (same_list block (mark_text volid mark read units))
