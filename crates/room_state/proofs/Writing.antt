-- What is written of an entry.
use Rattle.std.proofs.Common.{◌≡◌, List, ℕ, subst}
use Rattle.std.specs.Prelude.{Result}
use Rattle.room_disk.specs.Disk.{DiskView}
use Rattle.room_disk.specs.Writing.{WritesFile}
use Rattle.cat_journal.specs.Journal.{JournalView, AddsEntry, MayAddEntry, file_of}

-- the entry is that of the text
pub wrote_text : {T E : Type 0} (answer : Result T E) (journal : JournalView) (text entry : List ℕ) (before now : DiskView) → text ≡ entry
    → WritesFile {T = T} {E = E} (file_of journal.current) (AddsEntry journal text) (MayAddEntry journal text) before now answer
    → WritesFile {T = T} {E = E} (file_of journal.current) (AddsEntry journal entry) (MayAddEntry journal entry) before now answer
wrote_text {T} {E} answer journal text entry before now is wrote =
    let P : List ℕ → Type 0 = λ bytes. WritesFile {T = T} {E = E} (file_of journal.current) (AddsEntry journal bytes) (MayAddEntry journal bytes) before now answer in
    subst P is wrote
