-- How the files of a journal are spelled.
use Rattle.std.specs.Prelude.{◌≡◌, ◌⊎◌, ℕ, ◌≤◌, ◌<◌, ◌^◌, List, [], ◌∷◌, ◌++◌, length}
use Rattle.byteorder.specs.Endian.{big_bytes}
use Rattle.sha2.specs.Sha256.{sha256}

-- what the head of a file says: its form, its generation, and the number of the last change that
-- the snapshot holds
pub record Head : Type 0 where
  pub form : ℕ
  pub generation : ℕ
  pub number : ℕ

-- the fields of a form are in their ranges
abbrev pub HasForm : ℕ → ℕ → Type 0
HasForm form generation =
    ((form ≡ 1) × (generation < 2 ^ 63)) ⊎ ((form ≡ 2) × (generation < 2 ^ 64))

pub record IsHead (head : Head) : Type 0 where
  pub form : HasForm head.form head.generation
  pub first : 1 ≤ head.generation
  pub number : head.number < 2 ^ 64

-- the bytes 1 to 31 of a file, whose snapshot has that length
abbrev pub head_text : Head → ℕ → List ℕ
head_text head size =
    (head.form ∷ 0 ∷ 0 ∷ 0 ∷ 0 ∷ 0 ∷ 0 ∷ []) ++ big_bytes 8 head.generation
    ++ big_bytes 8 head.number ++ big_bytes 8 size

-- what stands behind the gate of a file, up to its first entry
unfoldable pub front_text : Head → List ℕ → List ℕ
front_text head snapshot =
    let fields = head_text head (length snapshot) in
    fields ++ sha256 (fields ++ snapshot) ++ snapshot

-- what the digest of an entry is of
abbrev pub entry_fields : ℕ → List ℕ → List ℕ
entry_fields number payload = big_bytes 8 number ++ big_bytes 4 (length payload) ++ payload

-- what stands behind the gate of an entry
unfoldable pub entry_text : ℕ → List ℕ → List ℕ
entry_text number payload =
    entry_fields number payload ++ sha256 (entry_fields number payload)

-- the number and the length are in their ranges
pub record IsEntry (number : ℕ) (payload : List ℕ) : Type 0 where
  pub counted : number < 2 ^ 64
  pub short : length payload < 2 ^ 32
