-- What the journal's files reopen as over a whole run of a desk, where all that a crash might have
-- left before it reopens as one catalogue.
use Rattle.std.specs.Prelude.{◌≡◌, List}
use Rattle.room_disk.specs.Disk.{DiskView, EachSince, Image, Images}
use Rattle.room_catalog.specs.Held.{CatalogueLists, catalogue_of}
use Rattle.room_effects.specs.View.{RoomView}
use Rattle.journal_files.specs.Files.{ReplaysTo}
use Rattle.room_turns.specs.Runs.{Passage, left_open, trail_of}
use Rattle.room_turns.specs.Served.{ReopensInRun, ReopensNow, made_by}

-- all that a crash may leave now reopens as this catalogue
abbrev pub AllReopenAs : DiskView → CatalogueLists → Type 0
AllReopenAs disk entry = (image : Image) → Images disk image → ReplaysTo image entry

-- The calls are a run from a first room, with the catalogue at entry, to a last one. What a crash
-- leaves at any moment since the start reopens as the catalogue at entry after the first so many
-- changes of the trail, or after those before a fault of the journal and the entry that failed there.
-- What a crash leaves at the end reopens as the last catalogue, which is that after the whole trail;
-- or, where a fault of the journal closed the room, as that with the entry that failed.
pub record Headline (passages : List Passage) (entry : CatalogueLists) (first last : RoomView)
    (before now : DiskView) : Type 0 where
  pub at_entry : catalogue_of first.catalogue ≡ catalogue_of entry
  pub moments : EachSince now before.moment (ReopensInRun passages first)
  pub whole : catalogue_of last.catalogue ≡ made_by (trail_of passages first) first.catalogue
  pub ended : (image : Image) → Images now image
      → ReopensNow last.is_open (left_open passages first) last.catalogue image
