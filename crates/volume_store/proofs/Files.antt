-- The committed files of a cartridge, under changes of its bytes.
use Rattle.std.proofs.Common.{◌≡◌, ◌≢◌, ℕ, ◌+◌, ◌*◌, ◌<◌, ◌≤◌, List, [], ◌∷◌, ◌++◌, length, refl, sym, subst, arith}
use Rattle.std.proofs.lemmas.List.{append-nil}
use Rattle.volume_block.specs.Layout.{data_size}
use Rattle.volume_block.specs.Valid.{ValidBlock, HoldsChunks}
use Rattle.volume_block.specs.declared.label.Label.{Label}
use Rattle.volume_block.specs.declared.block.Block.TheVariants as kinds
use Rattle.volume_store.specs.Committed.{data_at, kind_byte_at, DataPlace, Whole, Damaged, IsDataPlace, AreDataPlaces, CommittedFile, End, Closed, FilesFrom, HasLabel, Committed, Labelled}
use Rattle.volume_store.proofs.Blocks.{SameBelow, block_same}

-- the end isn't before the first mark place
pub ends_behind : (bytes : List ℕ) (volid units mark place : ℕ) (files : List CommittedFile)
    → FilesFrom bytes volid units mark files (Closed place) → mark ≤ place
ends_behind bytes volid units mark place [] ends = omega (arith, ends.0)
ends_behind bytes volid units mark place (file ∷ files) held =
    omega (arith, ends_behind bytes volid units (mark + units * length file.places + 1) place files held.3)

-- a closed end stands in the file, and its kind byte isn't open
pub closed_inside : (bytes : List ℕ) (volid units mark place : ℕ) (files : List CommittedFile)
    → FilesFrom bytes volid units mark files (Closed place) → 4096 * place < length bytes
closed_inside bytes volid units mark place [] ends = rw ends.0 ends.1
closed_inside bytes volid units mark place (file ∷ files) held =
    closed_inside bytes volid units (mark + units * length file.places + 1) place files held.3

pub closed_byte : (bytes : List ℕ) (volid units mark place : ℕ) (files : List CommittedFile)
    → FilesFrom bytes volid units mark files (Closed place) → kind_byte_at bytes place ≢ 0x46
closed_byte bytes volid units mark place [] ends =
    let P : ℕ → Type 0 = λ at. kind_byte_at bytes at ≢ 0x46 in subst P (sym ends.0) ends.2
closed_byte bytes volid units mark place (file ∷ files) held =
    closed_byte bytes volid units (mark + units * length file.places + 1) place files held.3

place_same : (old new : List ℕ) (volid units number : ℕ) (place : DataPlace) → data_at units new number ≡ data_at units old number
    → IsDataPlace old volid units number place → IsDataPlace new volid units number place
place_same old new volid units number (Whole chunks) same held =
    let P : List ℕ → Type 0 = λ block. HoldsChunks block volid number units chunks in subst P (sym same) held
place_same old new volid units number Damaged same damaged = λ chunks held.
    damaged chunks (let P : List ℕ → Type 0 = λ block. HoldsChunks block volid number units chunks in subst P same held)

pub places_same : (limit : ℕ) (old new : List ℕ) (volid units first : ℕ) (places : List DataPlace) → SameBelow limit old new
    → 4096 * (first + units * length places) ≤ limit → AreDataPlaces old volid units first places → AreDataPlaces new volid units first places
places_same limit old new volid units first [] same ends held = tt
places_same limit old new volid units first (place ∷ places) same ends held = (
  place_same old new volid units first place (block_same (data_size units) limit first old new same (omega arith)) held.0,
  places_same limit old new volid units (first + units) places same (omega arith) held.1,
)

-- files before a closed mark place stay, whatever follows there
pub files_then : (old new : List ℕ) (volid units mark place : ℕ) (files more : List CommittedFile) (end : End)
    → FilesFrom old volid units mark files (Closed place) → SameBelow (4096 * place) old new
    → FilesFrom new volid units place more end → FilesFrom new volid units mark (files ++ more) end
files_then old new volid units mark place [] more end ends same held =
    let P : ℕ → Type 0 = λ at. FilesFrom new volid units at more end in subst P ends.0 held
files_then old new volid units mark place (file ∷ files) more end before same held =
    let next : mark + units * length file.places + 1 ≤ place = ends_behind old volid units (mark + units * length file.places + 1) place files before.3 in
    let P : List ℕ → Type 0 = λ block. ValidBlock block volid mark (kinds.Mark (length file.places) units) in (
      before.0,
      subst P (sym (block_same 4096 (4096 * place) mark old new same (omega arith))) before.1,
      places_same (4096 * place) old new volid units (mark + 1) file.places same (omega arith) before.2,
      files_then old new volid units (mark + units * length file.places + 1) place files more end before.3 same held,
    )

label_same : (limit : ℕ) (old new : List ℕ) (label : Label) → SameBelow limit old new → 4096 ≤ limit
    → HasLabel old label → HasLabel new label
label_same limit old new label same ends held =
    let P : List ℕ → Type 0 = λ block. ValidBlock block label.volid.0 0 (kinds.Label label) in
    subst P (sym (block_same 4096 limit 0 old new same (omega arith))) held

-- a cartridge whose bytes before a closed mark place stay, and other files from there on
pub volume_then : (old new : List ℕ) (label : Label) (files more : List CommittedFile) (mark : ℕ) (end : End)
    → Committed old (Labelled label files (Closed mark)) → SameBelow (4096 * mark) old new
    → FilesFrom new label.volid.0 label.units mark more end → Committed new (Labelled label (files ++ more) end)
volume_then old new label files more mark end held same next =
    let behind : 1 ≤ mark = ends_behind old label.volid.0 label.units 1 mark files held.1 in (
      label_same (4096 * mark) old new label same (omega arith) held.0,
      files_then old new label.volid.0 label.units 1 mark files more end held.1 same next,
    )

-- the same files, where the mark place is still closed
pub volume_kept : (old new : List ℕ) (label : Label) (files : List CommittedFile) (mark : ℕ)
    → Committed old (Labelled label files (Closed mark)) → SameBelow (4096 * mark) old new
    → 4096 * mark < length new → kind_byte_at new mark ≢ 0x46 → Committed new (Labelled label files (Closed mark))
volume_kept old new label files mark held same long closed =
    let P : List CommittedFile → Type 0 = λ all. Committed new (Labelled label all (Closed mark)) in
    subst P (append-nil files) (volume_then old new label files [] mark (Closed mark) held same (refl, long, closed))
