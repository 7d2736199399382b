-- How the program ends, command by command and answer by answer: why the answer comes, what was
-- taken of the input and of the clock, what was printed, what stands on the disk, and what a crash
-- at any moment of the run leaves.
use Rattle.std.specs.Prelude.{◌≡◌, ◌⊎◌, ℕ, ◌≤◌, ◌<◌, List, [], ◌++◌, length, drop, codes}
use Rattle.std.specs.Fmt.{decimal}
use Rattle.room_base.specs.Faults.{Rose}
use Rattle.room_base.specs.Outside.{SourceView, SinkView, ClockView, Told, AddsFront, later_moments}
use Rattle.room_base.specs.declared.refusal.Refusal.TheVariants as refusals
use Rattle.room_disk.specs.Disk.{DiskView, Quiet, Others, Settled, Leaves, OnFile}
use Rattle.volume_block.specs.declared.label.Label.{Label}
use Rattle.volume_store.specs.Committed.{Committed, Unlabelled}
use Rattle.volume_store.specs.Writes.{cart_file}
use Rattle.room_run.specs.Raw.{GivesFile, IsDamagedIn, LacksFile, IsDamagedAt, IsStrange}
use Rattle.room_run.specs.Put.{HasSize, HasOneFileMore, IsPut, IsOccupied, IsFull, kept_line}
use Rattle.desk.specs.Runs.{Around, DeskRuns, around}
use Rattle.desk.specs.declared.end.DeskEnd.{DeskEnd}
use Rattle.room_run.specs.Desk.{desk_status}
use Rattle.room_run.specs.Words.{ArePut, AreGet, AreDesk, Misfit}
use Rattle.room_run.specs.declared.status.Status.{Status}
use Rattle.room_run.specs.declared.status.Status.TheVariants as status

-- what a run works on
pub record World : Type 1 where
  pub input : SourceView
  pub out : SinkView
  pub disk : DiskView
  pub clock : ClockView

abbrev pub world : SourceView → SinkView → DiskView → ClockView → World
world input out disk clock = record { input = input; out = out; disk = disk; clock = clock }

-- no count of faults falls
pub record Later (before now : World) : Type 0 where
  pub input : before.input.faults ≤ now.input.faults
  pub out : before.out.faults ≤ now.out.faults
  pub disk : (file : ℕ) → before.disk.faults file ≤ now.disk.faults file
  pub clock : before.clock.faults ≤ now.clock.faults

-- ---- what stays as it was

abbrev pub InputStays : World → World → Type 0
InputStays before now = Told before.input.tells (now.input.left ≡ before.input.left)

abbrev pub OutStays : World → World → Type 0
OutStays before now = Told before.out.tells (now.out.written ≡ before.out.written)

abbrev pub DiskStays : World → World → Type 0
DiskStays before now = Told before.disk.tells (Quiet before.disk now.disk)

abbrev pub ClockStays : World → World → Type 0
ClockStays before now = Told before.clock.tells (now.clock.moments ≡ before.clock.moments)

-- everything stays, but for the counts of faults
pub record Stays (before now : World) : Type 0 where
  pub input : InputStays before now
  pub out : OutStays before now
  pub disk : DiskStays before now
  pub clock : ClockStays before now

-- everything but the input stays
pub record OnlyTakes (before now : World) : Type 0 where
  pub out : OutStays before now
  pub disk : DiskStays before now
  pub clock : ClockStays before now

-- everything but the output stays
pub record OnlyPrints (before now : World) : Type 0 where
  pub input : InputStays before now
  pub disk : DiskStays before now
  pub clock : ClockStays before now

-- ---- the cartridge

-- P holds of the bytes that the cartridge had
abbrev pub OnCartridge : ℕ → World → (List ℕ → Type 0) → Type 0
OnCartridge cart before P = Told before.disk.tells (P (before.disk.reads (cart_file cart)))

-- the count of the cartridge's file rose
abbrev pub DiskRose : ℕ → World → World → Type 0
DiskRose cart before now =
    Rose (before.disk.faults (cart_file cart)) (now.disk.faults (cart_file cart))

-- ---- put

-- the bytes of the input, where it tells them
abbrev pub AreInput : World → List ℕ → Type 0
AreInput before bytes = Told before.input.tells (bytes ≡ before.input.left)

-- all of the input was taken, and it can be a file
abbrev pub TakesAll : World → World → Type 0
TakesAll before now =
    Told before.input.tells (HasSize before.input.left × (now.input.left ≡ []))

-- one byte more was taken than a file may have
abbrev pub TakesTooMany : World → World → Type 0
TakesTooMany before now = Told before.input.tells
    ((257024 < length before.input.left) × (now.input.left ≡ drop 257025 before.input.left))

-- the clock was asked once, for the label of a cartridge that has none, once the input was judged
pub record IsAsked (cart : ℕ) (before now : World) : Type 0 where
  pub once : now.clock.moments ≡ later_moments before.clock.moments
  pub judged : Told before.input.tells (HasSize before.input.left)
  pub free : OnCartridge cart before (λ bytes. ¬ (IsOccupied bytes))

abbrev pub MayAsk : ℕ → World → World → Type 0
MayAsk cart before now = Told before.clock.tells
    ((now.clock.moments ≡ before.clock.moments) ⊎ IsAsked cart before now)

-- The cartridge was written on: of the input all was taken, of the clock no more than the moment of
-- a new label, and at each moment a crash leaves the cartridge as `IsPut` says, and each other file
-- as it was.
pub record WritesOn (cart : ℕ) (before now : World) : Type 0 where
  pub taken : TakesAll before now
  pub asked : MayAsk cart before now
  pub others : Told before.disk.tells (Others (cart_file cart) before.disk now.disk)
  pub moments : Told before.disk.tells ((bytes : List ℕ) × AreInput before bytes
      × Leaves before.disk now.disk (OnFile (cart_file cart)
      (IsPut before.clock cart bytes (before.disk.reads (cart_file cart))) before.disk))

-- the input is a file of the cartridge, with this number, and stays there at every crash
pub record Keeps (cart : ℕ) (before now : World) (bytes : List ℕ) (number : ℕ) : Type 0 where
  pub input : AreInput before bytes
  pub stands : OnCartridge cart before (λ old. HasOneFileMore before.clock cart bytes old number
      (now.disk.reads (cart_file cart)))
  pub settled : Told before.disk.tells (Settled now.disk (cart_file cart))

-- the input is kept, and of the line that says so this was printed
abbrev pub KeepsAndPrints : ℕ → World → World → (List ℕ → List ℕ → List ℕ → Type 0) → Type 0
KeepsAndPrints cart before now Prints = (bytes : List ℕ) × ((number : ℕ)
    × Keeps cart before now bytes number
    × Told before.out.tells
    (Prints before.out.written now.out.written (kept_line (length bytes) number cart)))

-- how a `put` on this cartridge ends
abbrev pub PutEnds : ℕ → World → World → Status → Type 0
-- the input is kept, and the line says so
PutEnds cart before now status.Done = WritesOn cart before now
    × KeepsAndPrints cart before now (λ old new line. new ≡ old ++ line)
-- memory comes short before the first write
PutEnds cart before now status.Memory =
    OutStays before now × DiskStays before now × MayAsk cart before now
PutEnds cart before now status.ReadFault =
    Rose before.input.faults now.input.faults × OnlyTakes before now
-- the input is kept, but not all of the line was printed
PutEnds cart before now status.WriteFault = Rose before.out.faults now.out.faults
    × WritesOn cart before now × KeepsAndPrints cart before now AddsFront
PutEnds cart before now status.DiskFault =
    DiskRose cart before now × WritesOn cart before now × OutStays before now
-- the cartridge was to get a label
PutEnds cart before now status.ClockFault = Rose before.clock.faults now.clock.faults
    × OnlyTakes before now × TakesAll before now
    × OnCartridge cart before (λ bytes. ¬ (IsOccupied bytes))
-- the input is empty
PutEnds cart before now (status.Refused (refusals.Malformed field)) = (field ≡ codes "input")
    × OnlyTakes before now × Told before.input.tells (before.input.left ≡ [])
-- the input is too long
PutEnds cart before now (status.Refused (refusals.TooMany limit)) =
    (limit ≡ 257024) × OnlyTakes before now × TakesTooMany before now
-- the cartridge isn't raw
PutEnds cart before now (status.Refused (refusals.Exists kind name)) =
    ((kind ≡ codes "cart") × (name ≡ decimal cart)) × OnlyTakes before now × TakesAll before now
    × OnCartridge cart before (λ disk. (label : Label) × IsStrange disk label)
-- its label or a mark is damaged
PutEnds cart before now (status.Refused (refusals.DamagedBlock volid block)) =
    OnlyTakes before now × TakesAll before now
    × OnCartridge cart before (λ disk. IsDamagedAt disk volid.0 block)
-- it has no room
PutEnds cart before now (status.Refused (refusals.NeedVolume pool)) = (pool ≡ codes "Raw")
    × OnlyTakes before now × TakesAll before now × OnCartridge cart before
    (λ disk. (bytes : List ℕ) × AreInput before bytes × IsFull (length bytes) disk)
PutEnds cart before now other = ⊥

-- ---- get

-- these are the bytes of the file with this number, and of them this was printed
abbrev pub GivesAndPrints : ℕ → ℕ → World → World → (List ℕ → List ℕ → List ℕ → Type 0) → Type 0
GivesAndPrints cart number before now Prints = (bytes : List ℕ)
    × OnCartridge cart before (λ disk. GivesFile disk number bytes)
    × Told before.out.tells (Prints before.out.written now.out.written bytes)

-- how a `get` of this file of this cartridge ends
abbrev pub GetEnds : ℕ → ℕ → World → World → Status → Type 0
-- the file's bytes are printed
GetEnds cart number before now status.Done = OnlyPrints before now
    × GivesAndPrints cart number before now (λ old new bytes. new ≡ old ++ bytes)
GetEnds cart number before now status.Memory = Stays before now
-- not all of them are printed
GetEnds cart number before now status.WriteFault = Rose before.out.faults now.out.faults
    × OnlyPrints before now × GivesAndPrints cart number before now AddsFront
GetEnds cart number before now status.DiskFault = DiskRose cart before now × Stays before now
-- the cartridge has no label
GetEnds cart number before now (status.Refused (refusals.Unlabelled named)) = (named.0 ≡ cart)
    × Stays before now × OnCartridge cart before (λ disk. Committed disk Unlabelled)
-- its label, a mark or a data block of the file is damaged
GetEnds cart number before now (status.Refused (refusals.DamagedBlock volid block)) =
    Stays before now × OnCartridge cart before
    (λ disk. IsDamagedAt disk volid.0 block ⊎ IsDamagedIn disk number volid.0 block)
-- it isn't raw
GetEnds cart number before now (status.Refused (refusals.Strange volid)) = Stays before now
    × OnCartridge cart before
    (λ disk. (label : Label) × IsStrange disk label × (volid.0 ≡ label.volid.0))
-- it has no file with this number
GetEnds cart number before now (status.Refused (refusals.NoSuch kind name)) =
    ((kind ≡ codes "file") × (name ≡ decimal number)) × Stays before now
    × OnCartridge cart before (λ disk. LacksFile disk number)
GetEnds cart number before now other = ⊥

-- ---- desk

-- what a desk works on
abbrev pub desk_around : World → Around
desk_around all = around all.input all.out all.clock all.disk

-- How a `desk` ends: it has run, and the status is that of its end. `DeskRuns` says of the counts of
-- faults what is known.
abbrev pub DeskEnds : World → World → Status → Type 0
DeskEnds before now answer = (end : DeskEnd) × (answer ≡ desk_status end)
    × DeskRuns end (desk_around before) (desk_around now)

-- ---- every command

-- how a run ends that reads its words alone: the first that doesn't fit is named, or memory comes
-- short
abbrev pub WordsEnd : List (List ℕ) → World → World → Status → Type 0
WordsEnd words before now (status.Usage word) = Misfit words word × Stays before now
WordsEnd words before now status.Memory = Stays before now
WordsEnd words before now other = ⊥

-- how a run ends with words that aren't `desk`
abbrev pub OthersEnd : List (List ℕ) → World → World → Status → Type 0
OthersEnd words before now answer = WordsEnd words before now answer
    ⊎ ((cart : ℕ) × ArePut words cart × PutEnds cart before now answer)
    ⊎ ((cart : ℕ) × ((number : ℕ) × AreGet words cart number
    × GetEnds cart number before now answer))

-- how a run with these words ends
abbrev pub Ends : List (List ℕ) → World → World → Status → Type 0
Ends words before now answer = (Later before now × OthersEnd words before now answer)
    ⊎ (AreDesk words × DeskEnds before now answer)
