-- How the fields of a reader are seen.
use Rattle.std.specs.Prelude.{◌≡◌, ℕ, List, [], ◌++◌, drop, length}
use Rattle.std.specs.Option.{is_some}
use Rattle.save_stream.specs.declared.entry.IndexEntry.{IndexEntry}
use Rattle.save_stream.specs.declared.progress.Progress.{Progress}
use Rattle.save_stream.specs.declared.state.State.{State}
use Rattle.save_stream.specs.declared.state.Savepoint.{Savepoint}
use Rattle.save_stream.specs.Reading.{Reading, KeepsHead}

-- nothing is pending
abbrev pub idle_reading : Progress → Reading
idle_reading progress = record {
  read = progress.read;
  left = progress.left;
  ended = progress.ended;
  head = progress.head;
  entries = progress.entries.items;
  pending = [];
}

abbrev pub reading_of : State → Reading
reading_of state =
    record (idle_reading state.progress) { pending = drop state.done state.pending.items }

-- what was read stays, and more may have come
pub record KeepsProgress (old new : Progress) : Type 0 where
  pub head : KeepsHead old.head new.head
  pub entries : (more : List IndexEntry) × (new.entries.items ≡ old.entries.items ++ more)

pub record Keeps (old new : State) : Type 0 where
  pub progress : KeepsProgress old.progress new.progress
  pub pending : (more : List ℕ) × (new.pending.items ≡ old.pending.items ++ more)

-- what has to be known of a state, to go back to it
pub record IsSavepoint (savepoint : Savepoint) (state : State) : Type 0 where
  pub read : savepoint.read ≡ state.progress.read
  pub left : savepoint.left ≡ state.progress.left
  pub ended : savepoint.ended ≡ state.progress.ended
  pub head : savepoint.has_head ≡ is_some state.progress.head
  pub entries : savepoint.entries ≡ length state.progress.entries.items
  pub pending : savepoint.pending ≡ length state.pending.items
  pub done : savepoint.done ≡ state.done
