-- A disk that tells nothing but its counts of faults.
use Rattle.std.specs.Prelude.{ℕ, [], false, IsTrue}
use Rattle.room_disk.specs.Disk.{DiskView, IsDisk}
use Rattle.room_disk.specs.Folder.{FolderView}

abbrev pub untold_disk : (ℕ → ℕ) → DiskView
untold_disk faults = record {
  tells = false;
  reads = λ file. [];
  leaves = λ file bytes. Unit {0};
  moment = 0;
  since = λ moment image. Unit {0};
  faults = faults;
}

pub untold_is_disk : (faults : ℕ → ℕ) → IsDisk (untold_disk faults)
untold_is_disk faults = record {
  counts_now = λ moment image le images. tt;
  only_now = λ image left file. tt;
  reads_one = λ file. tt;
}

-- a folder that tells nothing
abbrev pub untold_folder : FolderView
untold_folder = record {
  disk = untold_disk (λ file. 0);
  has_bytes = λ file. false;
  has_names = false;
}

-- nothing is known to be on the disk
pub untold_settles : (P : Type 0) → IsTrue false → P
untold_settles P is = absurd (cc)
