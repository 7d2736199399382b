-- What a journal in memory knows of its files, and what its calls write.
use Rattle.std.specs.Prelude.{◌≡◌, ◌≢◌, ◌⊎◌, ℕ, ◌+◌, ◌-◌, ◌<◌, ◌≤◌, ◌^◌, List, [], ◌∷◌, ◌++◌}
use Rattle.std.specs.Prelude.{Option, Some, None, Result, OnOk, OnErr, slice_index, IsSome, IsTrue}
use Rattle.std.specs.Prelude.{length}
use Rattle.room_base.specs.Faults.{Rose}
use Rattle.room_base.specs.Outside.{Told}
use Rattle.room_disk.specs.Disk.{DiskView, Image, Leaves, OthersThan, OthersLeft, Settled}
use Rattle.cat_journal.specs.declared.current.CurrentFile.{CurrentFile}
use Rattle.cat_journal.specs.Layout.{Head, HasForm, front_text}
use Rattle.cat_journal.specs.Contents.{Contents, with_payload, last_number, gate_of, is_part}
use Rattle.cat_journal.specs.Contents.{number_after, Holds}
use Rattle.cat_journal.specs.Meaning.{Means, Unopened, Stands}

-- `last` is the number of the last change, and `spare` the length of an entry's bytes that there is
-- memory for
pub record JournalView : Type 0 where
  pub current : Option CurrentFile
  pub last : ℕ
  pub spare : ℕ

-- what is known of a current file is in its range
pub record IsFile (current : CurrentFile) : Type 0 where
  pub file : current.file ≤ 1
  pub form : HasForm current.form current.generation
  pub first : 1 ≤ current.generation
  pub gate : current.gate + 1 < 2 ^ 64

abbrev pub IsKnown : Option CurrentFile → Type 0
IsKnown None = Unit {0}
IsKnown (Some current) = IsFile current

abbrev pub IsOpen : JournalView → Type 0
IsOpen journal = IsSome journal.current

-- the current file; where none is open, the one that is written first
abbrev pub file_of : Option CurrentFile → ℕ
file_of None = 0
file_of (Some current) = current.file

-- the form of the current file, and of the one that is written first
abbrev pub form_of : Option CurrentFile → ℕ
form_of None = 2
form_of (Some current) = current.form

-- the payload is that of a part
abbrev pub IsPart : JournalView → List ℕ → Type 0
IsPart journal payload = IsTrue (is_part (form_of journal.current) payload)

-- ---- the files

-- the contents are those that the journal knows, and end at its gate
pub record EndAt (current : CurrentFile) (last : ℕ) (contents : Contents) : Type 0 where
  pub form : current.form ≡ contents.head.form
  pub generation : current.generation ≡ contents.head.generation
  pub gate : current.gate ≡ gate_of contents
  pub number : last ≡ last_number contents

abbrev pub IsAt : Option CurrentFile → ℕ → Contents → Type 0
IsAt None last contents = ⊥
IsAt (Some current) last contents = EndAt current last contents

-- the journal is that of these contents
abbrev pub KnowsContents : JournalView → Contents → Type 0
KnowsContents journal contents = IsAt journal.current journal.last contents

-- the two files are those that the journal knows
abbrev pub StandOn : Option CurrentFile → ℕ → Image → Type 0
StandOn None last files = Means files Unopened
StandOn (Some current) last files = (contents : Contents) × EndAt current last contents
    × Means files (Stands current.file contents)

abbrev pub KnowsFiles : JournalView → Image → Type 0
KnowsFiles journal files = StandOn journal.current journal.last files

-- ---- one entry more

-- the gate behind an entry of that length
abbrev pub behind_entry : Option CurrentFile → ℕ → Option CurrentFile
behind_entry None size = None
behind_entry (Some current) size = Some (record current { gate = current.gate + (45 + size) })

-- the journal behind one entry more
abbrev pub behind_payload : JournalView → List ℕ → JournalView
behind_payload journal payload = record journal {
  current = behind_entry journal.current (length payload);
  last = number_after (form_of journal.current) journal.last payload;
}

-- a file of the journal has one entry more
abbrev pub AddsEntry : JournalView → List ℕ → List ℕ → List ℕ → Type 0
AddsEntry journal payload old new = (contents : Contents) → KnowsContents journal contents
    → Holds old contents → Holds new (with_payload contents payload)

-- it has the old entries, or these and one more
abbrev pub MayAddEntry : JournalView → List ℕ → List ℕ → List ℕ → Type 0
MayAddEntry journal payload old new = (contents : Contents) → KnowsContents journal contents
    → Holds old contents → Holds new contents ⊎ Holds new (with_payload contents payload)

-- ---- a new file

-- the file that is written next
abbrev pub next_file : Option CurrentFile → ℕ
next_file None = 0
next_file (Some current) = 1 - current.file

abbrev pub next_generation : Option CurrentFile → ℕ
next_generation None = 1
next_generation (Some current) = current.generation + 1

-- no generation comes behind the current one
abbrev pub IsLast : JournalView → Type 0
IsLast journal = next_generation journal.current ≡ 2 ^ 64

-- every new file has form 2
abbrev pub new_head : ℕ → ℕ → Head
new_head generation number = record { form = 2; generation = generation; number = number }

abbrev pub next_head : JournalView → Head
next_head journal = new_head (next_generation journal.current) journal.last

-- a new file behind its gate, with no entry
abbrev pub new_text : Head → List ℕ → List ℕ
new_text head snapshot = front_text head snapshot ++ 0 ∷ []

-- the journal in a file whose snapshot has that length
abbrev pub in_new_file : ℕ → ℕ → JournalView → ℕ → JournalView
in_new_file file generation journal size = record journal {
  current = Some (record { file = file; form = 2; generation = generation; gate = 64 + size });
}

abbrev pub turned_over : JournalView → ℕ → JournalView
turned_over journal size =
    in_new_file (next_file journal.current) (next_generation journal.current) journal size

-- ---- a journal that is made anew

abbrev pub first_head : ℕ → Head
first_head number = new_head 1 number

abbrev pub IsJournalFile : ℕ → Type 0
IsJournalFile file = (file ≡ 0) ⊎ (file ≡ 1)

abbrev pub IsShut : List ℕ → Type 0
IsShut bytes = slice_index bytes 0 ≢ 0x4A

-- the files 0 and 1 are as they might have been left before, or file 0 is closed, or both are, or
-- file 0 is the new one and file 1 is closed
abbrev pub AreBeingMadeAnew : List ℕ → DiskView → Image → Type 0
AreBeingMadeAnew text before image =
    (before.leaves 0 (image 0) × before.leaves 1 (image 1))
    ⊎ (IsShut (image 0) × before.leaves 1 (image 1))
    ⊎ (IsShut (image 0) × IsShut (image 1))
    ⊎ ((image 0 ≡ 0x4A ∷ text) × IsShut (image 1))

pub record IsMakingAnew (text : List ℕ) (before : DiskView) (image : Image) : Type 0 where
  pub files : AreBeingMadeAnew text before image
  pub others : OthersLeft IsJournalFile before image

-- the files 0 and 1 are closed, and then file 0 is written
pub record MakesAnew {T E : Type 0} (text : List ℕ) (before now : DiskView)
    (answer : Result T E) : Type 0 where
  pub later : (file : ℕ) → before.faults file ≤ now.faults file
  pub cause : OnErr answer (Rose (before.faults 0) (now.faults 0)
      ⊎ Rose (before.faults 1) (now.faults 1))
  pub tells : now.tells ≡ before.tells
  pub others : Told before.tells (OthersThan IsJournalFile before now)
  pub settled : Told before.tells (OnOk answer (Settled now 0 × Settled now 1))
  pub whole : Told before.tells
      (OnOk answer ((now.reads 0 ≡ 0x4A ∷ text) × IsShut (now.reads 1)))
  pub moments : Told before.tells (Leaves before now (IsMakingAnew text before))
