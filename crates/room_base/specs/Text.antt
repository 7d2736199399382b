-- What bytes are a name or a path.
use Rattle.std.specs.Prelude.{◌≡◌, ◌≢◌, ◌≤◌, ◌<◌, ℕ, List, length, slice_get, Result, Ok, Err, Some}
use Rattle.std.specs.Prelude.{All}
use Rattle.std.specs.Str.{IsUtf8}
use Rattle.room_base.specs.declared.name.NameFault.{NameFault}
use Rattle.room_base.specs.declared.name.NameFault.TheVariants.{Length, NotText, Memory}

-- there are bytes, and at most so many
abbrev pub HasLength : ℕ → List ℕ → Type 0
HasLength most bytes = (0 < length bytes) × (length bytes ≤ most)

-- a byte that is no control character of ASCII
abbrev pub IsPrintable : ℕ → Type 0
IsPrintable byte = (0x20 ≤ byte) × (byte ≢ 0x7F)

-- a name's text
abbrev pub IsName : List ℕ → Type 0
IsName bytes = IsUtf8 bytes × All IsPrintable bytes

-- a path's text begins with a slash
abbrev pub IsPathText : List ℕ → Type 0
IsPathText bytes = IsUtf8 bytes × (slice_get bytes 0 ≡ Some 0x2F)

-- A text is read exactly where it has a length and a form that are allowed. The length is judged
-- first.
abbrev pub ReadsText : (List ℕ → Type 0) → (List ℕ → Type 0) → List ℕ → Result (List ℕ) NameFault
    → Type 0
ReadsText IsSized IsText bytes (Ok name) = (name ≡ bytes) × IsSized bytes × IsText bytes
ReadsText IsSized IsText bytes (Err Length) = ¬ (IsSized bytes)
ReadsText IsSized IsText bytes (Err NotText) = IsSized bytes × ¬ (IsText bytes)
ReadsText IsSized IsText bytes (Err Memory) = Unit {0}
