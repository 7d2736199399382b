-- Raw cartridges, which hold files of bytes and no save sets.
use Rattle.std.specs.Prelude.{◌≡◌, ◌⊎◌, ℕ, ◌+◌, ◌*◌, ◌<◌, ◌^◌, List, ◌∷◌, ◌++◌, length, map}
use Rattle.std.specs.Prelude.{replicate}
use Rattle.volume_block.specs.Chunks.{ChunkText, all_chunks, JoinFrom, joined}
use Rattle.volume_block.specs.Valid.{IsRaw}
use Rattle.volume_block.specs.declared.label.Label.{Label}
use Rattle.volume_store.specs.Committed.{DataPlace, Whole, Damaged, CommittedFile, Closed, Stop}
use Rattle.volume_store.specs.Committed.{BadLabel, Labelled, Committed, HasLabel}

-- the label of a raw cartridge: volume 2^63 + cart, pool `Raw`, capacity 1,000,000, one unit
abbrev pub raw_label : ℕ → ℕ → Label
raw_label cart made = record {
  volid = record { 0 = 2 ^ 63 + cart };
  cart = record { 0 = cart };
  capacity = 1000000;
  made = record { 0 = made };
  pool_length = 3;
  pool = 0x52 ∷ 0x61 ∷ 0x77 ∷ replicate 61 0;
  units = 1;
}

-- a raw cartridge with these files, which end at a closed mark place
abbrev pub IsRawCartridge : List ℕ → Label → List CommittedFile → ℕ → Type 0
IsRawCartridge disk label files mark =
    IsRaw label × Committed disk (Labelled label files (Closed mark))

-- data blocks whose chunks, in their order, are a save set's first copy and join to these bytes
abbrev pub JoinTo : ℕ → List (List ChunkText) → List ℕ → Type 0
JoinTo ssid blocks bytes = JoinFrom ssid 1 0 (all_chunks blocks) bytes

-- a committed file whose data blocks are all whole and join to these bytes
abbrev pub FileHolds : ℕ → CommittedFile → List ℕ → Type 0
FileHolds ssid file bytes =
    (blocks : List (List ChunkText)) × (file.places ≡ map Whole blocks) × JoinTo ssid blocks bytes

-- a committed file whose data blocks are all whole, with the bytes of its chunks
abbrev pub HasBytes : CommittedFile → List ℕ → Type 0
HasBytes file bytes =
    (blocks : List (List ChunkText)) × (file.places ≡ map Whole blocks)
    × (bytes ≡ joined (all_chunks blocks))

-- the first damaged data block of a file, each of whose data blocks has so many units
abbrev pub IsFirstDamaged : ℕ → CommittedFile → ℕ → Type 0
IsFirstDamaged units file block = (blocks : List (List ChunkText)) × ((rest : List DataPlace)
    × (file.places ≡ map Whole blocks ++ Damaged ∷ rest) × (block ≡ file.mark + 1 + units * length blocks))

-- a file of a raw cartridge, by its number, counted from 1
pub record IsFileOn (disk : List ℕ) (number : ℕ) (label : Label)
    (file : CommittedFile) : Type 0 where
  pub before : List CommittedFile
  pub after : List CommittedFile
  pub mark : ℕ
  pub on : IsRawCartridge disk label (before ++ file ∷ after) mark
  pub counted : length before + 1 ≡ number

-- the file with this number has these bytes
abbrev pub GivesFile : List ℕ → ℕ → List ℕ → Type 0
GivesFile disk number bytes =
    (label : Label)
    × ((file : CommittedFile) × IsFileOn disk number label file × HasBytes file bytes)

-- the file with this number has a damaged data block, and this is the first
abbrev pub IsDamagedIn : List ℕ → ℕ → ℕ → ℕ → Type 0
IsDamagedIn disk number volid block = (label : Label) × ((file : CommittedFile)
    × IsFileOn disk number label file × (volid ≡ label.volid.0) × IsFirstDamaged label.units file block)

-- there is no file with this number
abbrev pub LacksFile : List ℕ → ℕ → Type 0
LacksFile disk number =
    (label : Label)
    × ((files : List CommittedFile)
    × ((mark : ℕ) × IsRawCartridge disk label files mark × (length files < number)))

-- the label is damaged, volume 0 and block 0, or a mark of a raw cartridge is
abbrev pub IsDamagedAt : List ℕ → ℕ → ℕ → Type 0
IsDamagedAt disk volid block = ((volid ≡ 0) × (block ≡ 0) × Committed disk BadLabel)
    ⊎ ((label : Label)
    × ((files : List CommittedFile) × IsRaw label × (volid ≡ label.volid.0)
    × Committed disk (Labelled label files (Stop block))))

-- the label isn't raw
abbrev pub IsStrange : List ℕ → Label → Type 0
IsStrange disk label = HasLabel disk label × ¬ (IsRaw label)
