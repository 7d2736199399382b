-- What a run of calls leaves on the disk: what the journal's files reopen as, at each moment and at
-- the end.
use Rattle.std.specs.Prelude.{◌≡◌, ◌⊎◌, ℕ, ◌≤◌, Bool, true, false, List, ◌∷◌, ◌++◌, length, take}
use Rattle.room_base.specs.Outside.{Told}
use Rattle.room_disk.specs.Disk.{DiskView, Image, Images, Leaves}
use Rattle.catalog_change.specs.Catalogues.{Catalogue}
use Rattle.catalog_spelling.specs.Changes.{Stamped}
use Rattle.room_catalog.specs.Held.{CatalogueLists, catalogue_of}
use Rattle.room_effects.specs.View.{IsRoom, RoomView}
use Rattle.room_effects.specs.Running.{Ready, catalogue_behind, nothing_known, risen_by, trail}
use Rattle.journal_files.specs.Files.{ReplaysTo}
use Rattle.room_turns.specs.Runs.{
  AreAnswered,
  Passage,
  behind_all,
  failures_in,
  left_open,
  trail_of,
}

-- ---- what files reopen as

-- the files reopen as this catalogue, whatever parts of an index wait
pub record ReopensAs (catalogue : Catalogue) (files : Image) : Type 0 where
  pub reopened : CatalogueLists
  pub replays : ReplaysTo files reopened
  pub is : catalogue_of reopened ≡ catalogue

-- the catalogue behind changes
abbrev pub made_by : List Stamped → CatalogueLists → Catalogue
made_by changes lists = catalogue_of (catalogue_behind changes lists)

-- the files reopen as the catalogue behind the first so many of these changes
pub record ReopensBehind (changes : List Stamped) (lists : CatalogueLists) (files : Image)
    : Type 0 where
  pub count : ℕ
  pub within : count ≤ length changes
  pub reopens : ReopensAs (made_by (take count changes) lists) files

-- The files reopen as the catalogue behind the passages before one and all that this one entered,
-- an entry that failed among it.
pub record ReopensInFault (passages : List Passage) (room : RoomView) (files : Image)
    : Type 0 where
  pub before : List Passage
  pub one : Passage
  pub more : List Passage
  pub parts : passages ≡ before ++ one ∷ more
  pub reopens : ReopensAs (made_by
      (trail_of before room ++ trail one.deeds (behind_all before room)) room.catalogue) files

-- The files reopen as the catalogue behind the first so many changes of the trail, or behind those
-- before a fault of the journal and the entry that failed there.
abbrev pub ReopensInRun : List Passage → RoomView → Image → Type 0
ReopensInRun passages room files =
    ReopensBehind (trail_of passages room) room.catalogue files
    ⊎ ReopensInFault passages room files

-- The files reopen as the catalogue of an open room; where a fault of the journal closed the room,
-- as its catalogue or as that behind the entry that failed.
abbrev pub ReopensNow : Bool → List Stamped → CatalogueLists → Image → Type 0
ReopensNow true entry lists files = ReplaysTo files lists
ReopensNow false entry lists files = ReopensBehind entry lists files

-- ---- runs

-- A room is ready to serve: nothing is pending on the files that it knows, and each image of the
-- disk reopens as its catalogue.
pub record IsServable (room : RoomView) (disk : DiskView) : Type 0 where
  pub ready : Ready nothing_known room disk
  pub reopens : (image : Image) → Images disk image → ReplaysTo image room.catalogue

-- the room behind passages has the catalogue behind their trail
abbrev pub IsBehind : List Passage → RoomView → Type 0
IsBehind passages room = catalogue_of (behind_all passages room).catalogue
    ≡ made_by (trail_of passages room) room.catalogue

-- what a run leaves of a disk that tells its contents
pub record Leads (passages : List Passage) (old new : RoomView) (before now : DiskView)
    : Type 0 where
  pub ready : Ready nothing_known new now
  pub catalogue : catalogue_of new.catalogue ≡ made_by (trail_of passages old) old.catalogue
  -- so it is behind each front of the passages, each reopening among them
  pub along : (first more : List Passage) → passages ≡ first ++ more → IsBehind first old
  pub images : (image : Image) → Images now image
      → ReopensNow new.is_open (left_open passages old) new.catalogue image
  pub moments : Leaves before now (ReopensInRun passages old)

-- Calls were answered one after the other, and the room was reopened behind faults of its journal.
pub record Served (passages : List Passage) (old new : RoomView) (before now : DiskView)
    : Type 0 where
  pub answered : AreAnswered passages old
  pub is : IsRoom new
  pub room : new ≡ behind_all passages old
  pub tells : now.tells ≡ before.tells
  pub faults : (file : ℕ)
      → risen_by (failures_in file passages old) (before.faults file) ≤ now.faults file
  pub told : Told before.tells (IsServable old before → Leads passages old new before now)
