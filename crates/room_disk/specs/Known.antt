-- What is known of a folder's files.
use Rattle.std.specs.Prelude.{◌≡◌, ℕ, List, Some, slice_get}
use Rattle.room_disk.specs.declared.file_state.FileState.{FileState}
use Rattle.room_disk.specs.declared.file_state.FileState.TheVariants.{Unknown, Absent, Lost}
use Rattle.room_disk.specs.declared.file_state.NameState.{NameState}
use Rattle.room_disk.specs.declared.file_state.NameState.TheVariants as names

-- the folder hasn't the file
abbrev pub IsKnownAbsent : List FileState → ℕ → Type 0
IsKnownAbsent states file = slice_get states file ≡ Some Absent

-- a sync of the file failed
abbrev pub IsLost : List FileState → ℕ → Type 0
IsLost states file = slice_get states file ≡ Some Lost

-- the file is neither
abbrev pub IsFree : List FileState → ℕ → Type 0
IsFree states file = slice_get states file ≡ Some Unknown

-- a file that was lost stays so
abbrev pub KeepsLost : List FileState → List FileState → Type 0
KeepsLost old new = (file : ℕ) → IsLost old file → IsLost new file

-- a sync of the names failed
abbrev pub AreNamesLost : NameState → Type 0
AreNamesLost state = state ≡ names.Lost

-- names that were lost stay so
abbrev pub KeepsNamesLost : NameState → NameState → Type 0
KeepsNamesLost old new = AreNamesLost old → AreNamesLost new
