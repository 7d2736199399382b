-- A disk on which nothing was ever done.
use Rattle.std.specs.Prelude.{◌≡◌, ℕ, [], IsTrue}
use Rattle.room_disk.specs.Disk.{DiskView, Image, Settled}

pub record IsBlank (disk : DiskView) : Type 0 where
  pub tells : IsTrue disk.tells
  pub reads : (file : ℕ) → disk.reads file ≡ []
  pub settled : (file : ℕ) → Settled disk file
  pub since : (moment : ℕ) (image : Image) → disk.since moment image → (file : ℕ) → image file ≡ []
  pub faults : (file : ℕ) → disk.faults file ≡ 0
