-- What opening a journal finds.
use Rattle.std.specs.Prelude.{◌≡◌, ◌⊎◌, ℕ, ◌+◌, ◌≤◌, List, [], length, Option, Some, None}
use Rattle.std.specs.Prelude.{Result, Ok, Err, IfErr}
use Rattle.room_base.specs.Faults.{Rose}
use Rattle.room_disk.specs.Disk.{DiskView, Image}
use Rattle.cat_journal.specs.Layout.{Head}
use Rattle.cat_journal.specs.Contents.{Contents, gate_of, last_number, last_of}
use Rattle.cat_journal.specs.Meaning.{HasFront, Begins, Bad, Means, CurrentMeans, Unopened}
use Rattle.cat_journal.specs.Meaning.{Damaged, Stands}
use Rattle.cat_journal.specs.Entries.{entries_of, payloads_of}
use Rattle.cat_journal.specs.Heads.{head_of}
use Rattle.cat_journal.specs.Journal.{JournalView, IsJournalFile}
use Rattle.cat_journal.specs.declared.current.CurrentFile.{CurrentFile}
use Rattle.cat_journal.specs.declared.front.FileHead.{FileHead}
use Rattle.cat_journal.specs.declared.opening.Opened.{Opened}
use Rattle.cat_journal.specs.declared.opening.OpenFault.{OpenFault}
use Rattle.cat_journal.specs.declared.opening.OpenFault.TheVariants as faults
use Rattle.cat_journal.specs.declared.reading.ReadFault.{ReadFault}
use Rattle.cat_journal.specs.declared.reading.ReadFault.TheVariants as reads

-- ---- faults

abbrev pub open_fault : ReadFault → OpenFault
open_fault (reads.Failed file) = faults.Failed file
open_fault reads.Memory = faults.Memory

abbrev pub IsCause : DiskView → DiskView → OpenFault → Type 0
IsCause old new (faults.Failed file) = IsJournalFile file × Rose (old.faults file) (new.faults file)
IsCause old new other = Unit {0}

-- no count falls, and where the disk is said to have failed, the count of that file rose
pub record OpenCause {T : Type 0} (old new : DiskView) (answer : Result T OpenFault) : Type 0 where
  pub later : (file : ℕ) → old.faults file ≤ new.faults file
  pub cause : IfErr answer (IsCause old new)

-- ---- what is found

-- a journal that stands behind these contents
abbrev pub at_contents : ℕ → Contents → JournalView
at_contents file contents = record {
  current = Some (record {
    file = file;
    form = contents.head.form;
    generation = contents.head.generation;
    gate = gate_of contents;
  });
  last = last_number contents;
  spare = 0;
}

-- the contents are given out, and the journal stands behind them
pub record GivesContents (file : ℕ) (contents : Contents) (opened : Opened) : Type 0 where
  pub number : opened.number ≡ contents.head.number
  pub snapshot : opened.snapshot ≡ contents.snapshot
  pub entries : opened.entries
      ≡ entries_of contents.head.form contents.head.number (64 + length contents.snapshot)
      contents.payloads
  pub journal : opened.journal ≡ at_contents file contents

pub record GivesNothing (opened : Opened) : Type 0 where
  pub number : opened.number ≡ 0
  pub snapshot : opened.snapshot ≡ []
  pub entries : opened.entries ≡ []
  pub journal : opened.journal ≡ record { current = None; last = 0; spare = 0 }

-- the journal stands in this file, behind the entries that are given out
pub record OpensJournal (file : ℕ) (opened : Opened) : Type 0 where
  pub current : CurrentFile
  pub is : opened.journal.current ≡ Some current
  pub this : current.file ≡ file
  pub last : opened.journal.last
      ≡ last_of current.form opened.number (payloads_of opened.entries)

-- what is known of what is given out, also of a disk that tells nothing
abbrev pub GivesJournal : Opened → Option ℕ → Type 0
GivesJournal opened None = GivesNothing opened
GivesJournal opened (Some file) = OpensJournal file opened

-- what is given out of a file, or where none is open
abbrev pub Gives : Image → Opened → Option ℕ → Type 0
Gives files opened None = Means files Unopened × GivesNothing opened
Gives files opened (Some file) = (contents : Contents) × Means files (Stands file contents)
    × GivesContents file contents opened

-- a damage is answered just where it is the meaning of the files
abbrev pub Opens : Image → Result Opened OpenFault → Type 0
Opens files (Ok opened) = Gives files opened opened.file
Opens files (Err (faults.Damaged file place)) = Means files (Damaged file place)
Opens files (Err (faults.Failed file)) = Unit {0}
Opens files (Err faults.Memory) = Unit {0}

-- ---- one file

abbrev pub IsBadFile : ℕ → List ℕ → OpenFault → Type 0
IsBadFile file bytes (faults.Damaged which place) =
    (which ≡ file) × (place ≡ 0) × Begins bytes Bad
IsBadFile file bytes other = Unit {0}

abbrev pub FindsFront : ℕ → List ℕ → FileHead → Result (List ℕ) OpenFault → Type 0
FindsFront file bytes head (Ok snapshot) = HasFront bytes (head_of head) snapshot
FindsFront file bytes head (Err fault) = IsBadFile file bytes fault

abbrev pub ChecksFront : {T : Type 0} → ℕ → List ℕ → FileHead → Result T OpenFault → Type 0
ChecksFront file bytes head (Ok _) =
    (snapshot : List ℕ) × HasFront bytes (head_of head) snapshot
ChecksFront file bytes head (Err fault) = IsBadFile file bytes fault

abbrev pub OpensFile : ℕ → List ℕ → Head → List ℕ → Result Opened OpenFault → Type 0
OpensFile file bytes head snapshot (Ok opened) = (contents : Contents)
    × CurrentMeans file bytes head snapshot (Stands file contents)
    × GivesContents file contents opened × (opened.file ≡ Some file)
OpensFile file bytes head snapshot (Err (faults.Damaged which place)) =
    CurrentMeans file bytes head snapshot (Damaged which place)
OpensFile file bytes head snapshot (Err (faults.Failed which)) = Unit {0}
OpensFile file bytes head snapshot (Err faults.Memory) = Unit {0}

-- the file is bad, or is the current one and opened
abbrev pub OpensAlone : ℕ → List ℕ → Head → Result Opened OpenFault → Type 0
OpensAlone file bytes head (Ok opened) = (snapshot : List ℕ) × HasFront bytes head snapshot
    × OpensFile file bytes head snapshot (Ok opened)
OpensAlone file bytes head (Err fault) = IsBadFile file bytes fault
    ⊎ ((snapshot : List ℕ) × HasFront bytes head snapshot
    × OpensFile file bytes head snapshot (Err fault))
