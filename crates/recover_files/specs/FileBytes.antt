-- A file that is written out: all of its bytes, or a front of them.
use Rattle.std.specs.Prelude.{◌≡◌, ℕ, ◌+◌, ◌<◌, ◌≤◌, List, ◌++◌, length, Result, Ok, Err}
use Rattle.room_base.specs.Faults.{Rose}
use Rattle.room_disk.specs.Disk.{DiskView}
use Rattle.media_db.specs.declared.records.Record.{Record}
use Rattle.recover_files.specs.StreamAt.{Shelf, StreamAt, AreBytes}
use Rattle.recover_files.specs.declared.fault.RangeFault.{RangeFault}
use Rattle.recover_files.specs.declared.fault.RangeFault.TheVariants.{Failed}
use Rattle.recover_files.specs.declared.fault.RecoverFault.{RecoverFault}
use Rattle.recover_files.specs.declared.fault.RecoverFault.TheVariants.{Range, SinkFailed}

-- so many bytes can be had from the place on
abbrev pub CanBeHad : Shelf → List Record → ℕ → ℕ → ℕ → Type 0
CanBeHad shelf rows ssid place count = (i : ℕ) → i < count
    → (byte : ℕ) × StreamAt shelf rows ssid (place + i) (Ok byte)

-- the first byte of a file that can't be had, and why
pub record LacksFrom (shelf : Shelf) (rows : List Record) (ssid place size : ℕ)
    (fault : RangeFault) : Type 0 where
  pub count : ℕ
  pub within : count < size
  pub before : CanBeHad shelf rows ssid place count
  pub fails : StreamAt shelf rows ssid (place + count) (Err fault)

-- why a file of so many bytes was recovered, or wasn't
abbrev pub RecoversAs : {T : Type 0} → Shelf → List Record → ℕ → ℕ → ℕ
    → Result T RecoverFault → Type 0
RecoversAs shelf rows ssid place size (Ok _) = CanBeHad shelf rows ssid place size
RecoversAs shelf rows ssid place size (Err (Range (Failed file))) = Unit {0}
RecoversAs shelf rows ssid place size (Err (Range fault)) =
    LacksFrom shelf rows ssid place size fault
RecoversAs shelf rows ssid place size (Err SinkFailed) = Unit {0}

-- bytes of a stream, so many, were written behind what was written before
pub record AddsBytes (shelf : Shelf) (rows : List Record) (ssid place : ℕ) (old new : List ℕ)
    (count : ℕ) : Type 0 where
  pub bytes : List ℕ
  pub long : length bytes ≡ count
  pub are : AreBytes shelf rows ssid place count bytes
  pub added : new ≡ old ++ bytes

-- what was written of a file of so many bytes: all of it, or a front
abbrev pub WritesBytes : {T : Type 0} → Shelf → List Record → ℕ → ℕ → ℕ → List ℕ → List ℕ
    → Result T RecoverFault → Type 0
WritesBytes shelf rows ssid place size old new (Ok _) =
    AddsBytes shelf rows ssid place old new size
WritesBytes shelf rows ssid place size old new (Err fault) =
    (count : ℕ) × (count ≤ size) × AddsBytes shelf rows ssid place old new count

-- no count of faults falls, and the disk or the sink is said to have failed only where its count
-- rose
pub record RecoverCause {T : Type 0} (old new : DiskView) (before now : ℕ)
    (answer : Result T RecoverFault) : Type 0 where
  pub later : (file : ℕ) → old.faults file ≤ new.faults file
  pub sink_later : before ≤ now
  pub cause : (file : ℕ) → answer ≡ Err (Range (Failed file))
      → Rose (old.faults file) (new.faults file)
  pub sink_cause : answer ≡ Err SinkFailed → Rose before now
