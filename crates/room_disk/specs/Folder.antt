-- What is told of a folder, and what the calls on its files do.
use Rattle.std.specs.Prelude.{◌≡◌, ◌+◌, ◌-◌, ◌/◌, ◌%◌, ◌<◌, ◌≤◌, ℕ, Bool, List, [], ◌∷◌, ◌++◌}
use Rattle.std.specs.Prelude.{IsTrue}
use Rattle.std.specs.Prelude.{codes, length, min, take, drop, nat_lt, if◌then◌else◌}
use Rattle.std.specs.Fmt.{decimal}
use Rattle.room_disk.specs.Disk.{DiskView, IsDisk, Images, Leaves, Others, Quiet, Settled}
use Rattle.room_disk.specs.Writing.{ComesOf}

-- the name of a file: `journal.0`, `journal.1`, `cart.001` to `cart.256`
abbrev pub file_name : ℕ → List ℕ
file_name file =
    if nat_lt file 2 then codes "journal." ++ decimal file
    else codes "cart." ++ (decimal ((file - 1) / 100)
    ++ (decimal ((file - 1) / 10 % 10) ++ decimal ((file - 1) % 10)))

pub record FolderView : Type 1 where
  -- the files, each under the number that its name stands for
  pub disk : DiskView
  -- whether all that was written to a file is on the disk
  pub has_bytes : ℕ → Bool
  -- whether the names of all files are on the disk
  pub has_names : Bool

-- the files read as before, no image was added, and what is on the disk stays there
pub record KeepsFiles (old new : FolderView) : Type 0 where
  pub quiet : Quiet old.disk new.disk
  pub bytes : (file : ℕ) → IsTrue (old.has_bytes file) → IsTrue (new.has_bytes file)
  pub names : IsTrue old.has_names → IsTrue new.has_names

-- a file alone is changed, which a crash may leave as the step says
pub record ChangesDisk (file : ℕ) (Step : List ℕ → List ℕ → Type 0)
    (old new : DiskView) : Type 0 where
  pub others : Others file old new
  pub torn : (bytes : List ℕ) → new.leaves file bytes → ComesOf Step old file bytes
  pub moments : Leaves old new (Images new)

-- the same of a folder, in which the names that are on the disk stay there
pub record ChangesOne (file : ℕ) (Step : List ℕ → List ℕ → Type 0)
    (old new : FolderView) : Type 0 where
  pub disk : ChangesDisk file Step old.disk new.disk
  pub names : IsTrue old.has_names → IsTrue new.has_names

-- the file is empty, and a crash leaves it so
pub record IsAbsent (disk : DiskView) (file : ℕ) : Type 0 where
  pub reads : disk.reads file ≡ []
  pub settled : Settled disk file

-- some first bytes of what stands from a place on were read, and nothing behind them was touched
pub record HasRead (bytes : List ℕ) (at : ℕ) (old new : List ℕ) (count : ℕ) : Type 0 where
  pub within : count ≤ length bytes - at
  pub given : take count new ≡ take count (drop at bytes)
  pub rest : drop count new ≡ drop count old

-- some of them: none only where nothing stands there
pub record ReadsSome (bytes : List ℕ) (at : ℕ) (old new : List ℕ) (count : ℕ) : Type 0 where
  pub read : HasRead bytes at old new count
  pub ended : 0 < length old → count ≡ 0 → length bytes ≤ at

-- all of them, as far as there is room
pub record ReadsAll (bytes : List ℕ) (at : ℕ) (old new : List ℕ) (count : ℕ) : Type 0 where
  pub all : count ≡ min (length old) (length bytes - at)
  pub read : HasRead bytes at old new count

-- a disk, with these counts of faults
abbrev pub counted_disk : Bool → (ℕ → ℕ) → DiskView → DiskView
counted_disk tells faults disk = record {
  tells = tells;
  reads = disk.reads;
  leaves = disk.leaves;
  moment = disk.moment;
  since = disk.since;
  faults = faults;
}

pub counted_is_disk : (tells : Bool) (faults : ℕ → ℕ) (disk : DiskView) → IsDisk disk
    → IsDisk (counted_disk tells faults disk)
counted_is_disk tells faults disk is_disk = record {
  counts_now = is_disk.counts_now;
  only_now = is_disk.only_now;
  reads_one = is_disk.reads_one;
}
