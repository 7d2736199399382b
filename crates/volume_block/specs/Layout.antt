-- The bytes that every block has, whatever its kind.
use Rattle.std.specs.Prelude.{◌≡◌, ◌≢◌, ◌⊎◌, ℕ, zero, suc, ◌-◌, ◌*◌, List, [], ◌∷◌, ◌++◌, length}
use Rattle.std.specs.Prelude.{replicate}
use Rattle.byteorder.specs.Endian.{big_bytes}
use Rattle.sha2.specs.Sha256.{sha256}

-- A volume's blocks are numbered by units of 4,096 bytes. Its data blocks have so many of them.
abbrev pub IsUnits : ℕ → Type 0
IsUnits units = (units ≡ 1) ⊎ ((units ≡ 2) ⊎ ((units ≡ 4) ⊎ ((units ≡ 8) ⊎ (units ≡ 16))))

-- the bytes of a data block of so many units
abbrev pub data_size : ℕ → ℕ
data_size units = 4096 * units

-- the bytes of a block: a data block has its units, a label and a mark have one
abbrev pub IsSizeOf : ℕ → ℕ → ℕ → Type 0
IsSizeOf kind units size =
    ((kind ≡ 0x44) × (size ≡ data_size units)) ⊎ ((kind ≢ 0x44) × (size ≡ 4096))

-- form 1 is that of one unit, form 2 that of more
abbrev pub form_of : ℕ → ℕ
form_of (suc zero) = 1
form_of units = 2

-- what the bytes 2 and 3 tell: nothing in form 1, the units in form 2
abbrev pub units_told : ℕ → ℕ
units_told (suc zero) = 0
units_told units = units

-- the bytes 0 to 3
abbrev pub form_text : ℕ → ℕ → List ℕ
form_text kind units = (kind ∷ form_of units ∷ []) ++ big_bytes 2 (units_told units)

-- the bytes 4 to 23
abbrev pub fields_text : ℕ → ℕ → ℕ → List ℕ
fields_text used volid number = big_bytes 4 used ++ big_bytes 8 volid ++ big_bytes 8 number

-- the bytes 0 to 23
abbrev pub head_text : ℕ → ℕ → ℕ → ℕ → ℕ → List ℕ
head_text kind units used volid number =
    form_text kind units ++ fields_text used volid number

-- a payload with the zeros behind it, in a block of so many bytes
abbrev pub padded_payload : ℕ → List ℕ → List ℕ
padded_payload size payload = payload ++ replicate (size - 56 - length payload) 0

-- bytes of a head and of a padded payload, with their digest between them
abbrev pub with_digest : List ℕ → List ℕ → List ℕ
with_digest head payload = head ++ sha256 (head ++ payload) ++ payload

-- a whole block of so many bytes: its head, its digest, its payload
unfoldable pub block_text : ℕ → ℕ → ℕ → ℕ → ℕ → List ℕ → List ℕ
block_text kind units size volid number payload =
    with_digest (head_text kind units (length payload) volid number) (padded_payload size payload)

-- a block whose kind byte is written as closed
abbrev pub closed : List ℕ → List ℕ
closed [] = []
closed (kind ∷ rest) = 0 ∷ rest
