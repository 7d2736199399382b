-- What the files of a journal are at every image of a call that writes one of them.
use Rattle.std.specs.Prelude.{◌⊎◌, ℕ, List, []}
use Rattle.room_disk.specs.Disk.{DiskView, Image, OthersLeft, Settled}
use Rattle.cat_journal.specs.Contents.{Contents, contents_of, with_payload}
use Rattle.cat_journal.specs.Meaning.{Means, Stands}
use Rattle.cat_journal.specs.Journal.{JournalView, KnowsContents, KnowsFiles, file_of, next_file}
use Rattle.cat_journal.specs.Journal.{next_head, IsJournalFile}

-- the two files are the journal with these contents, and nothing is pending on them
pub record HasContents (journal : JournalView) (contents : Contents)
    (disk : DiskView) : Type 0 where
  pub knows : KnowsContents journal contents
  pub means : Means disk.reads (Stands (file_of journal.current) contents)
  pub first : Settled disk 0
  pub second : Settled disk 1

-- the same, of a journal that need not be open
pub record IsJournal (journal : JournalView) (disk : DiskView) : Type 0 where
  pub knows : KnowsFiles journal disk.reads
  pub first : Settled disk 0
  pub second : Settled disk 1

-- the two files are the old entries, or these and one more; each other file is as it was left
pub record IsEntryImage (journal : JournalView) (contents : Contents) (payload : List ℕ)
    (before : DiskView) (image : Image) : Type 0 where
  pub files : Means image (Stands (file_of journal.current) contents)
      ⊎ Means image (Stands (file_of journal.current) (with_payload contents payload))
  pub others : OthersLeft IsJournalFile before image

-- the two files are the old journal, or the new snapshot alone
pub record IsTurnedImage (journal : JournalView) (snapshot : List ℕ)
    (before : DiskView) (image : Image) : Type 0 where
  pub files : KnowsFiles journal image
      ⊎ Means image (Stands (next_file journal.current)
      (contents_of (next_head journal) snapshot []))
  pub others : OthersLeft IsJournalFile before image
