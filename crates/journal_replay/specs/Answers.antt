-- What replaying answers.
use Rattle.std.specs.Prelude.{◌≡◌, ◌⊎◌, ℕ, ◌≤◌, Bool, true, false, List, ◌∷◌, ◌++◌}
use Rattle.std.specs.Prelude.{Result, Ok, Err, IfErr}
use Rattle.room_base.specs.Faults.{Rose}
use Rattle.room_base.specs.declared.fault.Memory.{Memory}
use Rattle.room_disk.specs.Disk.{DiskView, Image}
use Rattle.cat_journal.specs.Entries.{payloads_of}
use Rattle.cat_journal.specs.Journal.{IsJournalFile}
use Rattle.cat_journal.specs.declared.entry_list.Entry.{Entry}
use Rattle.cat_journal.specs.declared.opening.OpenFault.{OpenFault}
use Rattle.cat_journal.specs.declared.opening.OpenFault.TheVariants as opens
use Rattle.catalog_spelling.specs.Changes.{Stamped}
use Rattle.room_catalog.specs.Held.{CatalogueLists, HeldCatalogue}
use Rattle.room_catalog.specs.Invariant.{IsHeld}
use Rattle.room_effects.specs.View.{IsJournalOf}
use Rattle.room_effects.specs.Replaying.{Follows, Replays, lists_behind}
use Rattle.journal_files.specs.Files.{GivesNone, IsDamaged, IsFirst, IsStray, ReplaysTo}
use Rattle.journal_replay.specs.declared.fault.ReplayFault.{ReplayFault}
use Rattle.journal_replay.specs.declared.fault.ReplayFault.TheVariants as faults
use Rattle.journal_replay.specs.declared.replaying.Replayed.{Replayed}

-- ---- faults

abbrev pub replay_fault : OpenFault → ReplayFault
replay_fault (opens.Damaged file place) = faults.Damaged file place
replay_fault (opens.Failed file) = faults.Failed file
replay_fault opens.Memory = faults.Memory

abbrev pub IsCause : DiskView → DiskView → ReplayFault → Type 0
IsCause old new (faults.Failed file) = IsJournalFile file × Rose (old.faults file) (new.faults file)
IsCause old new _ = Unit {0}

-- no count falls, and where a call on a file is said to have failed, the count of that file rose
pub record ReplayCause {T : Type 0} (old new : DiskView) (answer : Result T ReplayFault)
    : Type 0 where
  pub later : (file : ℕ) → old.faults file ≤ new.faults file
  pub cause : IfErr answer (IsCause old new)

-- no call failed
abbrev pub IsNoFailure : ReplayFault → Type 0
IsNoFailure (faults.Failed file) = ⊥
IsNoFailure _ = Unit {0}

-- ---- the whole

-- what is known of the answer, also of a disk that tells nothing
pub record IsSound (replayed : Replayed) : Type 0 where
  pub held : IsHeld replayed.catalogue.lists
  pub journal : IsJournalOf replayed.catalogue.lists (record replayed.journal { spare = 0 })

-- the catalogue that is answered is what the files replay to, or they are damaged where it is said
abbrev pub CatalogueOf : Image → Result HeldCatalogue ReplayFault → Type 0
CatalogueOf files (Ok held) = ReplaysTo files held.lists
CatalogueOf files (Err (faults.Damaged file place)) = IsDamaged files file place
CatalogueOf files (Err (faults.Failed file)) = Unit {0}
CatalogueOf files (Err faults.Memory) = Unit {0}

-- the same of a journal with the catalogue
abbrev pub AnswersOf : Image → Result Replayed ReplayFault → Type 0
AnswersOf files (Ok replayed) = ReplaysTo files replayed.catalogue.lists
AnswersOf files (Err (faults.Damaged file place)) = IsDamaged files file place
AnswersOf files (Err (faults.Failed file)) = Unit {0}
AnswersOf files (Err faults.Memory) = Unit {0}

-- ---- the current file

-- the catalogue of its snapshot, or that there is none
abbrev pub GivesFirst : ℕ → ℕ → List ℕ → Result HeldCatalogue ReplayFault → Type 0
GivesFirst file number snapshot (Ok held) = IsFirst number snapshot held.lists
GivesFirst file number snapshot (Err (faults.Damaged which place)) =
    (which ≡ file) × (place ≡ 0) × GivesNone number snapshot
GivesFirst file number snapshot (Err (faults.Failed which)) = ⊥
GivesFirst file number snapshot (Err faults.Memory) = Unit {0}

-- an entry was applied, or it tells no change
abbrev pub TellsChange : ℕ → List ℕ → CatalogueLists → CatalogueLists → Result Bool Memory
    → Type 0
TellsChange form payload old new (Ok true) =
    (one : Stamped) × Follows form payload old one × (new ≡ lists_behind one old)
TellsChange form payload old new (Ok false) = IsStray form payload old
TellsChange form payload old new (Err _) = Unit {0}

-- the entries before one replay, it tells no change behind them, and it stands at this place
pub record StraysAmong (form : ℕ) (entries : List Entry) (first : CatalogueLists) (place : ℕ)
    : Type 0 where
  pub before : List Entry
  pub stray : Entry
  pub more : List Entry
  pub parts : entries ≡ before ++ stray ∷ more
  pub lists : CatalogueLists
  pub replays : Replays form (payloads_of before) first lists
  pub is : IsStray form stray.bytes lists
  pub placed : place ≡ stray.place

-- the entries were applied, or one of them tells no change
abbrev pub ReplaysEntries : {T : Type 0} → ℕ → ℕ → List Entry → CatalogueLists → CatalogueLists
    → Result T ReplayFault → Type 0
ReplaysEntries file form entries old new (Ok _) = Replays form (payloads_of entries) old new
ReplaysEntries file form entries old new (Err (faults.Damaged which place)) =
    (which ≡ file) × StraysAmong form entries old place
ReplaysEntries file form entries old new (Err (faults.Failed which)) = ⊥
ReplaysEntries file form entries old new (Err faults.Memory) = Unit {0}

-- what a file with this snapshot, under a head with this number, and with these entries replays to
abbrev pub ReplaysFile : ℕ → ℕ → ℕ → List ℕ → List Entry → Result HeldCatalogue ReplayFault
    → Type 0
ReplaysFile file form number snapshot entries (Ok held) = (first : CatalogueLists)
    × IsFirst number snapshot first × Replays form (payloads_of entries) first held.lists
ReplaysFile file form number snapshot entries (Err (faults.Damaged which place)) = (which ≡ file)
    × (((place ≡ 0) × GivesNone number snapshot)
    ⊎ ((first : CatalogueLists) × IsFirst number snapshot first
    × StraysAmong form entries first place))
ReplaysFile file form number snapshot entries (Err (faults.Failed which)) = ⊥
ReplaysFile file form number snapshot entries (Err faults.Memory) = Unit {0}
