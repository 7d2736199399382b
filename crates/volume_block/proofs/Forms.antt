-- The units of a volume's data blocks: each of them in turn, and how a block's form tells them.
use Rattle.std.proofs.Common.{◌≡◌, ◌⊎◌, ℕ, ◌*◌, ◌^◌, ◌<◌, ◌≤◌, List, drop, slice_index, refl, sym, ap, subst, ◌∙◌, arith, inl, inr}
use Rattle.std.proofs.Math.Decide.{ℕ_discrete}
use Rattle.byteorder.specs.Endian.{big_number}
use Rattle.volume_block.specs.Layout.{IsUnits, IsSizeOf, data_size, form_of, units_told}
use Rattle.volume_block.specs.Why.{units_of, units_in, HasForm}

pub each_units : (P : ℕ → Type 0) → P 1 → P 2 → P 4 → P 8 → P 16 → (units : ℕ) → IsUnits units → P units
each_units P one two four eight sixteen units (inl is) = subst P (sym is) one
each_units P one two four eight sixteen units (inr (inl is)) = subst P (sym is) two
each_units P one two four eight sixteen units (inr (inr (inl is))) = subst P (sym is) four
each_units P one two four eight sixteen units (inr (inr (inr (inl is)))) = subst P (sym is) eight
each_units P one two four eight sixteen units (inr (inr (inr (inr is)))) = subst P (sym is) sixteen

pub units_range : (units : ℕ) → IsUnits units → (1 ≤ units) × (units ≤ 16)
units_range units is = (
  each_units (λ (u : ℕ). 1 ≤ u) (omega arith) (omega arith) (omega arith) (omega arith) (omega arith) units is,
  each_units (λ (u : ℕ). u ≤ 16) (omega arith) (omega arith) (omega arith) (omega arith) (omega arith) units is,
)

-- the most units of a file's data blocks
pub units_times : (units count : ℕ) → IsUnits units → count ≤ 64 → units * count ≤ 1024
units_times units count is few =
    each_units (λ (u : ℕ). u * count ≤ 1024) (omega arith) (omega arith) (omega arith) (omega arith) (omega arith) units is

told_units : (units : ℕ) → IsUnits units → units_of (form_of units) (units_told units) ≡ units
told_units units is = each_units (λ (u : ℕ). units_of (form_of u) (units_told u) ≡ u) refl refl refl refl refl units is

pub told_below : (units : ℕ) → IsUnits units → units_told units < 2 ^ 16
told_below units is =
    each_units (λ (u : ℕ). units_told u < 2 ^ 16) (omega arith) (omega arith) (omega arith) (omega arith) (omega arith) units is

-- the units are those that the form tells
pub tells_units : (bytes : List ℕ) (units : ℕ) → IsUnits units → slice_index bytes 1 ≡ form_of units
    → big_number 2 (drop 2 bytes) ≡ units_told units → units_in bytes ≡ units
tells_units bytes units is form told =
    ap (λ (f : ℕ). units_of f (big_number 2 (drop 2 bytes))) form ∙ ap (units_of (form_of units)) told ∙ told_units units is

pub tells_form : (bytes : List ℕ) (units : ℕ) → IsUnits units → slice_index bytes 1 ≡ form_of units
    → big_number 2 (drop 2 bytes) ≡ units_told units → HasForm bytes
tells_form bytes units is form told =
    let same : units_in bytes ≡ units = tells_units bytes units is form told in
    (subst IsUnits (sym same) is, form ∙ ap form_of (sym same), told ∙ ap units_told (sym same))

-- the size of a block that isn't a data block
pub one_unit : (kind units size : ℕ) → IsSizeOf kind units size → kind ≡ 0x4C → size ≡ 4096
one_unit kind units size (inl chunks) is = absurd (omega (arith, chunks.0, is))
one_unit kind units size (inr other) is = other.1

pub one_unit_of_mark : (kind units size : ℕ) → IsSizeOf kind units size → kind ≡ 0x46 → size ≡ 4096
one_unit_of_mark kind units size (inl chunks) is = absurd (omega (arith, chunks.0, is))
one_unit_of_mark kind units size (inr other) is = other.1

pub units_of_data : (kind units size : ℕ) → IsSizeOf kind units size → kind ≡ 0x44 → size ≡ data_size units
units_of_data kind units size (inl chunks) is = chunks.1
units_of_data kind units size (inr other) is = absurd (other.0 is)

pub size_within : (kind units size : ℕ) → IsUnits units → IsSizeOf kind units size → (4096 ≤ size) × (size ≤ 65536)
size_within kind units size is (inl chunks) =
    let range = units_range units is in
    (omega (arith, chunks.1, range.0), omega (arith, chunks.1, range.1))
size_within kind units size is (inr other) = (omega (arith, other.1), omega (arith, other.1))

-- ---- a number is one of units, or it isn't

either : {P Q : Type 0} → Dec P → Dec Q → Dec (P ⊎ Q)
either (yes p) q = yes (inl p)
either (no p) (yes q) = yes (inr q)
either (no p) (no q) = no (λ is. elim is [ inl a ↦ p a | inr b ↦ q b ])

pub is_units : (units : ℕ) → Dec (IsUnits units)
is_units units =
    either (ℕ_discrete units 1)
    (either (ℕ_discrete units 2) (either (ℕ_discrete units 4) (either (ℕ_discrete units 8) (ℕ_discrete units 16))))
