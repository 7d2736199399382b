-- What labelling and committing write.
use Rattle.std.specs.Prelude.{◌≡◌, ◌⊎◌, ℕ, ◌+◌, ◌*◌, ◌≤◌, List, [], ◌∷◌, ◌++◌, length, map, drop}
use Rattle.volume_block.specs.Chunks.{ChunkText}
use Rattle.volume_block.specs.Valid.{label_text}
use Rattle.volume_block.specs.Region.{closed_block, IsSealed}
use Rattle.volume_block.specs.declared.label.Label.{Label}
use Rattle.room_disk.specs.Crash.{overlaid}
use Rattle.volume_store.specs.Committed.{Whole, CommittedFile, Closed, Contents, Unlabelled}
use Rattle.volume_store.specs.Committed.{Labelled, Committed}
use Rattle.volume_store.specs.Reads.{IsClosed}

-- the file of a cartridge
abbrev pub cart_file : ℕ → ℕ
cart_file cart = cart + 1

-- there is such a cartridge
abbrev pub IsCart : ℕ → Type 0
IsCart cart = (1 ≤ cart) × (cart ≤ 256)

-- a region whose mark is open
abbrev pub opened : List ℕ → List ℕ
opened [] = []
opened (kind ∷ rest) = 0x46 ∷ rest

-- the file that a commit of these blocks adds
abbrev pub added_file : ℕ → List (List ChunkText) → CommittedFile
added_file mark blocks = record { mark = mark; places = map Whole blocks }

-- a cartridge with that file behind the others
abbrev pub with_file : Label → List CommittedFile → ℕ → List (List ChunkText) → Contents
with_file label files mark blocks =
    Labelled label (files ++ added_file mark blocks ∷ [])
    (Closed (mark + label.units * length blocks + 1))

-- the cartridge has the old files, or these and the one that is committed
abbrev pub IsWholeOrAbsent : Label → List CommittedFile → ℕ → List (List ChunkText) → List ℕ
    → Type 0
IsWholeOrAbsent label files mark blocks bytes =
    Committed bytes (Labelled label files (Closed mark))
    ⊎ Committed bytes (with_file label files mark blocks)

-- A commit of the region at the mark place: the bytes of the cartridge after it, and that of a
-- volume with this label whose files end there, the region is one more.
pub record AddsFile (label : Label) (mark : ℕ) (region old new : List ℕ) : Type 0 where
  pub written : new ≡ overlaid (4096 * mark) (opened region) old
  pub added : (files : List CommittedFile) (blocks : List (List ChunkText))
      → IsSealed label.volid.0 mark label.units blocks region
      → Committed old (Labelled label files (Closed mark))
      → Committed new (with_file label files mark blocks)

-- what a commit that may have been cut short leaves: the old files, or these and the new one
abbrev pub MayAddFile : Label → ℕ → List ℕ → List ℕ → List ℕ → Type 0
MayAddFile label mark region old new = (files : List CommittedFile) (blocks : List (List ChunkText))
    → IsSealed label.volid.0 mark label.units blocks region
    → Committed old (Labelled label files (Closed mark))
    → IsWholeOrAbsent label files mark blocks new

-- a cartridge with a new label, and what stood behind its first two blocks
abbrev pub labelled : Label → List ℕ → List ℕ
labelled label old = (label_text label ++ closed_block) ++ drop 8192 old

-- a cartridge with this label and no file
abbrev pub without_files : Label → Contents
without_files label = Labelled label [] (Closed 1)

-- while a cartridge is labelled it is as it was, or has no label, or has the new label and no file
abbrev pub IsBeingLabelled : Label → List ℕ → List ℕ → Type 0
IsBeingLabelled label old bytes =
    (bytes ≡ old) ⊎ Committed bytes Unlabelled ⊎ Committed bytes (without_files label)

-- while a closed cartridge gets its label it has none, or has the new label and no file
abbrev pub IsOpening : Label → List ℕ → List ℕ → Type 0
IsOpening label old bytes =
    IsClosed old → Committed bytes Unlabelled ⊎ Committed bytes (without_files label)

-- the cartridge got this label, and has no file
pub record Relabels (label : Label) (old new : List ℕ) : Type 0 where
  pub bytes : new ≡ labelled label old
  pub empty : Committed new (without_files label)
