-- Objects in memory: the calls made of them, and those that are to fail.
use Rattle.std.specs.Prelude.{◌≡◌, ◌⊎◌, ℕ, true, List, Contains, Result, IsOk, IsErr, is_err}
use Rattle.std.specs.Prelude.{if◌then◌else◌}
use Rattle.room_base.specs.Faults.{risen}
use Rattle.room_base.specs.Outside.{SourceView, SinkView, ClockView}
use Rattle.room_base.specs.declared.numbers.Moment.{Moment}

-- the numbers of the calls that are to fail, counted from 1, and how many calls were made
pub record Calls : Type 0 where
  pub failing : List ℕ
  pub made : ℕ

-- the next call is to fail
abbrev pub FailsNext : Calls → Type 0
FailsNext calls = Contains calls.failing (risen calls.made)

-- one more call was made
abbrev pub called : Calls → Calls
called calls = record calls { made = risen calls.made }

-- a count of faults after an answer
abbrev pub faults_after : {T E : Type 0} → Result T E → ℕ → ℕ
faults_after answer before = if is_err answer then risen before else before

-- A call fails where it is listed. Any other fails only for want of memory, which is counted apart.
pub record FailsAsListed {T E : Type 0} (calls : Calls) (before now : ℕ)
    (answer : Result T E) : Type 0 where
  pub listed : FailsNext calls → IsErr answer × (now ≡ before)
  pub unlisted : (FailsNext calls → ⊥)
      → (IsOk answer × (now ≡ before)) ⊎ (IsErr answer × (now ≡ risen before))

-- a source in memory
pub record SourceInMemory : Type 0 where
  pub taken : List ℕ
  pub left : List ℕ
  pub calls : Calls
  pub faults : ℕ

abbrev pub told_source : SourceInMemory → SourceView
told_source source = record {
  tells = true;
  taken = source.taken;
  left = source.left;
  faults = source.faults;
}

-- a sink in memory; `short` counts the faults that were want of memory
pub record SinkInMemory : Type 0 where
  pub written : List ℕ
  pub calls : Calls
  pub faults : ℕ
  pub short : ℕ

abbrev pub told_sink : SinkInMemory → SinkView
told_sink sink = record { tells = true; written = sink.written; faults = sink.faults }

-- a clock that gives a list of moments
pub record ClockInMemory : Type 0 where
  pub moments : List Moment
  pub calls : Calls
  pub faults : ℕ

abbrev pub told_clock : ClockInMemory → ClockView
told_clock clock = record { tells = true; moments = clock.moments; faults = clock.faults }
