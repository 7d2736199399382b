-- A label is read from its payload, and is the only one that the payload spells.
use Rattle.std.proofs.Common.{◌≡◌, ℕ, ◌-◌, ◌≤◌, List, ◌∷◌, ◌++◌, length, take, drop, replicate, slice_index, refl, sym, ap, subst, ◌∙◌, arith}
use Rattle.std.proofs.lemmas.List.{length-append, length-drop, length-replicate, drop-replicate, take-append-drop, take_at, drop_at, drop_more, take_rest}
use Rattle.std.proofs.Math.Seq.{take-add}
use Rattle.byteorder.specs.Endian.{big_bytes, big_number}
use Rattle.room_base.specs.Text.{IsName}
use Rattle.volume_block.specs.Layout.{IsUnits}
use Rattle.volume_block.specs.Valid.{IsVolid, IsLabel, HasRanges, label_payload}
use Rattle.volume_block.specs.Why.{FitsPool, IsLabelIn}
use Rattle.room_base.specs.declared.numbers.Volid.{Volid}
use Rattle.volume_block.specs.declared.label.Label.{Label}
use Rattle.volume_block.proofs.Heads.{reads_4, reads_8}
use Rattle.volume_block.proofs.Parts.{IsBytes, IsBytes-drop, bytes_of_4, bytes_of_8}

-- zeros of which the front is written over
pub padded_with : (size count : ℕ) (name written : List ℕ) → written ≡ name → length name ≡ count → count ≤ size
    → written ++ drop (length name) (replicate size 0) ≡ name ++ replicate (size - count) 0
padded_with size count name written same told fits =
    ap (λ (t : List ℕ). t ++ drop (length name) (replicate size 0)) same
    ∙ ap (λ (t : List ℕ). name ++ t) (drop-replicate {X = ℕ} (length name) size 0 ∙ ap (λ (n : ℕ). replicate (size - n) 0) told)

-- the label's fields are those in the payload
pub record IsReadLabel (payload : List ℕ) (label : Label) : Type 0 where
  pub cart : label.cart.0 ≡ big_number 4 payload
  pub capacity : label.capacity ≡ big_number 4 (drop 4 payload)
  pub made : label.made.0 ≡ big_number 8 (drop 8 payload)
  pub pool_length : label.pool_length ≡ slice_index payload 16
  pub fits : FitsPool label.pool_length (drop 17 payload)
  pub pool : label.pool ≡ drop 17 payload ++ replicate (64 - label.pool_length) 0

name_is : (payload : List ℕ) (label : Label) → IsReadLabel payload label → take label.pool_length label.pool ≡ drop 17 payload
name_is payload label read =
    ap (take label.pool_length) read.pool ∙ take_at (drop 17 payload) (replicate (64 - label.pool_length) 0) label.pool_length read.fits.0

fields_in : (payload : List ℕ) → take 16 payload ≡ take 4 payload ++ take 4 (drop 4 payload) ++ take 8 (drop 8 payload)
fields_in payload =
    take-add 8 8 payload ∙ ap (λ (t : List ℕ). t ++ take 8 (drop 8 payload)) (take-add 4 4 payload)

fields_are : (payload : List ℕ) (label : Label) → IsBytes payload → 17 ≤ length payload → IsReadLabel payload label
    → take 16 payload ≡ big_bytes 4 label.cart.0 ++ big_bytes 4 label.capacity ++ big_bytes 8 label.made.0
fields_are payload label bytes long read =
    let cart = ap (big_bytes 4) read.cart ∙ bytes_of_4 payload (omega arith) bytes in
    let capacity = ap (big_bytes 4) read.capacity ∙ bytes_of_4 (drop 4 payload) (omega (arith, length-drop 4 payload)) (IsBytes-drop 4 payload bytes) in
    let made = ap (big_bytes 8) read.made ∙ bytes_of_8 (drop 8 payload) (omega (arith, length-drop 8 payload)) (IsBytes-drop 8 payload bytes) in
    fields_in payload
    ∙ ap (λ (t : List ℕ). t ++ take 4 (drop 4 payload) ++ take 8 (drop 8 payload)) (sym cart)
    ∙ ap (λ (t : List ℕ). big_bytes 4 label.cart.0 ++ t ++ take 8 (drop 8 payload)) (sym capacity)
    ∙ ap (λ (t : List ℕ). big_bytes 4 label.cart.0 ++ big_bytes 4 label.capacity ++ t) (sym made)

spelled_label : (payload : List ℕ) (label : Label) → IsBytes payload → 17 ≤ length payload → IsReadLabel payload label → payload ≡ label_payload label
spelled_label payload label bytes long read =
    let fields = big_bytes 4 label.cart.0 ++ big_bytes 4 label.capacity ++ big_bytes 8 label.made.0 in
    sym (take-append-drop 16 payload)
    ∙ ap (λ (t : List ℕ). t ++ drop 16 payload) (fields_are payload label bytes long read)
    ∙ ap (λ (t : List ℕ). fields ++ t) (drop_more payload 16 0 (omega arith))
    ∙ ap (λ (n : ℕ). fields ++ (n ∷ drop 17 payload)) (sym read.pool_length)
    ∙ ap (λ (t : List ℕ). fields ++ (label.pool_length ∷ t)) (sym (name_is payload label read))

pub is_label_in : (payload : List ℕ) (label : Label) → IsBytes payload → 17 ≤ length payload → IsUnits label.units → IsVolid label.volid.0
    → IsReadLabel payload label → HasRanges label → IsLabelIn label.units label.volid.0 payload label
is_label_in payload label bytes long units volid read ranges =
    let name = drop 17 payload in
    let zeros = replicate (64 - label.pool_length) 0 in (
      record {
        volid = volid;
        cart = ranges.0;
        units = units;
        capacity = ranges.1;
        made = ranges.2;
        pool_length = (ranges.3, read.fits.1);
        room = ap length read.pool ∙ length-append name zeros ∙ omega (arith, length-replicate {A = ℕ} (64 - label.pool_length) 0, read.fits.0, read.fits.1);
        pool = ranges.4;
        zeros = ap (drop label.pool_length) read.pool ∙ drop_at name zeros label.pool_length read.fits.0;
      },
      refl,
      refl,
      spelled_label payload label bytes long read,
    )

-- what is read where the payload spells a label
pub record SpellsLabel (payload : List ℕ) (label : Label) : Type 0 where
  pub cart : big_number 4 payload ≡ label.cart.0
  pub capacity : big_number 4 (drop 4 payload) ≡ label.capacity
  pub made : big_number 8 (drop 8 payload) ≡ label.made.0
  pub pool_length : slice_index payload 16 ≡ label.pool_length
  pub name : drop 17 payload ≡ take label.pool_length label.pool

pub spells_label : (label : Label) → IsLabel label → SpellsLabel (label_payload label) label
spells_label label allowed =
    let rest = label.pool_length ∷ take label.pool_length label.pool in
    record {
      cart = reads_4 label.cart.0 (big_bytes 4 label.capacity ++ big_bytes 8 label.made.0 ++ rest) (omega (arith, allowed.cart.1));
      capacity = reads_4 label.capacity (big_bytes 8 label.made.0 ++ rest) (omega (arith, allowed.capacity.1));
      made = reads_8 label.made.0 rest (omega (arith, allowed.made));
      pool_length = refl;
      name = refl;
    }

pub spelled_has_ranges : (units volid : ℕ) (payload : List ℕ) (label other : Label) → IsReadLabel payload label → label.units ≡ units
    → IsLabelIn units volid payload other → HasRanges label
spelled_has_ranges units volid payload label other read told is =
    let spells = subst (λ (t : List ℕ). SpellsLabel t other) (sym is.3) (spells_label other is.0) in (
      omega (arith, read.cart, spells.cart, is.0.cart.0, is.0.cart.1),
      omega (arith, read.capacity, spells.capacity, is.0.capacity.0, is.0.capacity.1, told, is.1),
      omega (arith, read.made, spells.made, is.0.made),
      omega (arith, read.pool_length, spells.pool_length, is.0.pool_length.0),
      subst IsName (sym (name_is payload label read ∙ spells.name)) is.0.pool,
    )

-- the label that is made of what is read
abbrev pub made_of : ℕ → Volid → ℕ → ℕ → ℕ → ℕ → List ℕ → Label
made_of units volid cart capacity made pool_length pool =
    record { volid = volid; cart = record { 0 = cart }; capacity = capacity; made = record { 0 = made }; pool_length = pool_length; pool = pool; units = units }

pub read_label : (units : ℕ) (payload : List ℕ) (volid : Volid) (cart capacity made pool_length : ℕ) (pool : List ℕ)
    → cart ≡ big_number 4 payload
    → capacity ≡ big_number 4 (take (length payload - 4) (drop 4 payload))
    → made ≡ big_number 8 (take (length payload - 8) (drop 8 payload))
    → pool_length ≡ slice_index payload 16
    → FitsPool pool_length (take (length payload - 17) (drop 17 payload))
    → pool ≡ take (length payload - 17) (drop 17 payload) ++ replicate (64 - pool_length) 0
    → IsReadLabel payload (made_of units volid cart capacity made pool_length pool)
read_label units payload volid cart capacity made pool_length pool cart-is capacity-is made-is pool_length-is fits pool-is = record {
  cart = cart-is;
  capacity = capacity-is ∙ ap (big_number 4) (take_rest payload 4);
  made = made-is ∙ ap (big_number 8) (take_rest payload 8);
  pool_length = pool_length-is;
  fits = subst (FitsPool pool_length) (take_rest payload 17) fits;
  pool = pool-is ∙ ap (λ (t : List ℕ). t ++ replicate (64 - pool_length) 0) (take_rest payload 17);
}
