-- The words of the program.
use Rattle.std.specs.Prelude.{◌≡◌, ◌≢◌, ◌⊎◌, ℕ, ◌≤◌, ◌<◌, ◌^◌, List, [], ◌∷◌, codes, Result, Ok}
use Rattle.std.specs.Prelude.{Err}
use Rattle.std.specs.Fmt.{decimal}
use Rattle.room_disk.specs.declared.folder_lock.Access.{Access}
use Rattle.room_disk.specs.declared.folder_lock.Access.TheVariants as accesses
use Rattle.volume_store.specs.Writes.{IsCart}
use Rattle.room_run.specs.declared.status.Status.{Status}
use Rattle.room_run.specs.declared.status.Status.TheVariants as status
use Rattle.room_run.specs.declared.words.Command.{Command}
use Rattle.room_run.specs.declared.words.Command.TheVariants as commands

-- the word is the number of a cartridge, in digits without a leading zero
abbrev pub IsCartWord : List ℕ → ℕ → Type 0
IsCartWord word cart = IsCart cart × (word ≡ decimal cart)

abbrev pub IsNoCartWord : List ℕ → Type 0
IsNoCartWord word = (cart : ℕ) → IsCartWord word cart → ⊥

-- the word is the number of a file, in digits without a leading zero
abbrev pub IsFileWord : List ℕ → ℕ → Type 0
IsFileWord word number = (1 ≤ number) × (number < 2 ^ 64) × (word ≡ decimal number)

abbrev pub IsNoFileWord : List ℕ → Type 0
IsNoFileWord word = (number : ℕ) → IsFileWord word number → ⊥

-- the words are `put` and a cartridge, or `get`, a cartridge and a file, or `desk` alone
abbrev pub ArePut : List (List ℕ) → ℕ → Type 0
ArePut words cart = IsCart cart × (words ≡ codes "put" ∷ decimal cart ∷ [])

abbrev pub AreGet : List (List ℕ) → ℕ → ℕ → Type 0
AreGet words cart number =
    IsCart cart × ((1 ≤ number) × (number < 2 ^ 64))
    × (words ≡ codes "get" ∷ decimal cart ∷ decimal number ∷ [])

abbrev pub AreDesk : List (List ℕ) → Type 0
AreDesk words = words ≡ codes "desk" ∷ []

-- the first word behind `put` that doesn't fit, or the empty text where one is missing
abbrev pub PutMisfit : List (List ℕ) → List ℕ → Type 0
PutMisfit [] word = word ≡ []
PutMisfit (cart ∷ []) word = IsNoCartWord cart × (word ≡ cart)
PutMisfit (cart ∷ more ∷ rest) word =
    (IsNoCartWord cart × (word ≡ cart)) ⊎ (((number : ℕ) × IsCartWord cart number) × (word ≡ more))

-- the same behind `get` and a cartridge
abbrev pub FileMisfit : List (List ℕ) → List ℕ → Type 0
FileMisfit [] word = word ≡ []
FileMisfit (file ∷ []) word = IsNoFileWord file × (word ≡ file)
FileMisfit (file ∷ more ∷ rest) word =
    (IsNoFileWord file × (word ≡ file)) ⊎ (((number : ℕ) × IsFileWord file number) × (word ≡ more))

-- the same behind `get`
abbrev pub GetMisfit : List (List ℕ) → List ℕ → Type 0
GetMisfit [] word = word ≡ []
GetMisfit (cart ∷ rest) word =
    (IsNoCartWord cart × (word ≡ cart))
    ⊎ (((number : ℕ) × IsCartWord cart number) × FileMisfit rest word)

-- the first word behind `desk`: none is to stand there
abbrev pub DeskMisfit : List (List ℕ) → List ℕ → Type 0
DeskMisfit [] word = ⊥
DeskMisfit (more ∷ rest) word = word ≡ more

-- the first word that doesn't fit, or the empty text where one is missing
abbrev pub Misfit : List (List ℕ) → List ℕ → Type 0
Misfit [] word = word ≡ []
Misfit (command ∷ rest) word =
    ((command ≢ codes "put") × (command ≢ codes "get") × (command ≢ codes "desk")
    × (word ≡ command))
    ⊎ ((command ≡ codes "put") × PutMisfit rest word)
    ⊎ ((command ≡ codes "get") × GetMisfit rest word)
    ⊎ ((command ≡ codes "desk") × DeskMisfit rest word)

-- reading the words gives the command that they are, or the word that doesn't fit
abbrev pub ReadsWords : List (List ℕ) → Result Command Status → Type 0
ReadsWords words (Ok (commands.Put cart)) = ArePut words cart.0
ReadsWords words (Ok (commands.Get cart number)) = AreGet words cart.0 number
ReadsWords words (Ok commands.Desk) = AreDesk words
ReadsWords words (Err (status.Usage word)) = Misfit words word
ReadsWords words (Err status.Memory) = Unit {0}
ReadsWords words (Err other) = ⊥

-- the same behind `put`
abbrev pub ReadsPut : List (List ℕ) → Result Command Status → Type 0
ReadsPut words (Ok (commands.Put cart)) = IsCart cart.0 × (words ≡ decimal cart.0 ∷ [])
ReadsPut words (Ok other) = ⊥
ReadsPut words (Err (status.Usage word)) = PutMisfit words word
ReadsPut words (Err status.Memory) = Unit {0}
ReadsPut words (Err other) = ⊥

-- the same behind `get`
abbrev pub ReadsGet : List (List ℕ) → Result Command Status → Type 0
ReadsGet words (Ok (commands.Get cart number)) =
    IsCart cart.0 × ((1 ≤ number) × (number < 2 ^ 64))
    × (words ≡ decimal cart.0 ∷ decimal number ∷ [])
ReadsGet words (Ok other) = ⊥
ReadsGet words (Err (status.Usage word)) = GetMisfit words word
ReadsGet words (Err status.Memory) = Unit {0}
ReadsGet words (Err other) = ⊥

-- the same behind `get` and a cartridge
abbrev pub ReadsFile : ℕ → List (List ℕ) → Result Command Status → Type 0
ReadsFile cart words (Ok (commands.Get named number)) =
    (named.0 ≡ cart) × ((1 ≤ number) × (number < 2 ^ 64)) × (words ≡ decimal number ∷ [])
ReadsFile cart words (Ok other) = ⊥
ReadsFile cart words (Err (status.Usage word)) = FileMisfit words word
ReadsFile cart words (Err status.Memory) = Unit {0}
ReadsFile cart words (Err other) = ⊥

-- the same behind `desk`
abbrev pub ReadsDesk : List (List ℕ) → Result Command Status → Type 0
ReadsDesk words (Ok commands.Desk) = words ≡ []
ReadsDesk words (Ok other) = ⊥
ReadsDesk words (Err (status.Usage word)) = DeskMisfit words word
ReadsDesk words (Err status.Memory) = Unit {0}
ReadsDesk words (Err other) = ⊥

-- the status for a word that doesn't fit, or want of memory
abbrev pub IsMisfit : List ℕ → Status → Type 0
IsMisfit word (status.Usage shown) = shown ≡ word
IsMisfit word status.Memory = Unit {0}
IsMisfit word other = ⊥

-- what a command does with the files of the folder
abbrev pub access_of : Command → Access
access_of (commands.Put cart) = accesses.Writes
access_of (commands.Get cart number) = accesses.Reads
access_of commands.Desk = accesses.Writes
