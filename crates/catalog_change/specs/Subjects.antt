-- What changes are about: each subject has a function of its own that copies them.
use Rattle.catalog_change.specs.declared.change.Change.{Change}
use Rattle.catalog_change.specs.declared.change.Change.TheVariants.{
  Defined,
  Dropped,
  Loaded,
  Ejected,
  Labelled,
  Begun,
  Finished,
  Aborted,
  Amended,
  Deleted,
  Purged,
  CopyBegun,
  CopyDone,
  IndexPart,
  FinishedParts,
}

pub data Subject : Type 0 where
  -- what an operator sets up
  Resources : Subject
  -- slots, and the labels of cartridges
  Media : Subject
  -- save sets, where none of them becomes complete
  Sets : Subject
  -- a save set that becomes complete
  CompleteSets : Subject
  -- copies of a save set
  Copies : Subject

abbrev pub subject_of : Change → Subject
subject_of (Defined resources) = Resources
subject_of (Dropped kind name) = Resources
subject_of (Loaded slot cart) = Media
subject_of (Ejected slot) = Media
subject_of (Labelled volid cart pool capacity was) = Media
subject_of (Begun head) = Sets
subject_of (Finished ssid files bytes digest sections index) = CompleteSets
subject_of (Aborted ssid) = Sets
subject_of (Amended ssid browse retain hold) = Sets
subject_of (Deleted ssid) = Sets
subject_of (Purged ssids) = Sets
subject_of (CopyBegun ssid copy) = Copies
subject_of (CopyDone ssid copy sections removed) = Copies
subject_of (IndexPart ssid part index) = Sets
subject_of (FinishedParts ssid files bytes digest sections) = CompleteSets
