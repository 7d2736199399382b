-- Calls that write one file of a journal.
use Rattle.std.proofs.Common.{◌≡◌, ℕ, List, subst}
use Rattle.std.specs.Prelude.{Result, Ok}
use Rattle.room_disk.specs.Disk.{DiskView}
use Rattle.room_disk.specs.Crash.{IsAnew, AnewTorn}
use Rattle.room_disk.specs.Writing.{WritesFile}
use Rattle.room_disk.proofs.Writing.{Step, writes_weaker}

-- what is written doesn't depend on what the call gives
pub writes_value : {T E T' E' : Type 0} {file : ℕ} {Whole Torn : Step} {before now : DiskView} {value : T} (other : T')
    → WritesFile {E = E} file Whole Torn before now (Ok value) → WritesFile {E = E'} file Whole Torn before now (Ok other)
writes_value other does = record {
  cause = record { later = does.cause.later; cause = tt };
  tells = does.tells;
  others = does.others;
  settled = does.settled;
  whole = does.whole;
  torn = does.torn;
  moments = does.moments;
}

-- the same file in another spelling
pub anew_as : {T E : Type 0} {file : ℕ} {before now : DiskView} {answer : Result T E} (letter : ℕ) (bytes text : List ℕ) → bytes ≡ text
    → WritesFile file (IsAnew letter bytes) (AnewTorn letter bytes) before now answer
    → WritesFile file (IsAnew letter text) (AnewTorn letter text) before now answer
anew_as letter bytes text is does =
    writes_weaker (IsAnew letter bytes) (AnewTorn letter bytes) does
    (λ old new whole. let P : List ℕ → Type 0 = λ t. IsAnew letter t old new in subst P is whole)
    (λ old new torn. let P : List ℕ → Type 0 = λ t. AnewTorn letter t old new in subst P is torn)
