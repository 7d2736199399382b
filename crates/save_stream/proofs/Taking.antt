-- Bytes that are taken one after the other, and the bytes of a file that are passed over.
use Rattle.std.proofs.Common.{◌≡◌, ℕ, zero, suc, ◌+◌, ◌-◌, ◌≤◌, ◌<◌, ◌^◌, Bool, true, false, cond, Result, List, [], ◌∷◌, ◌++◌, length, drop, get_or, nat_lt, subst, Option, Some, None, Ok, Err, refl, sym, ap, ◌∙◌, append_assoc, arith}
use Rattle.std.proofs.lemmas.Bool.{lt-ltb}
use Rattle.std.proofs.lemmas.List.{append-nil, length-drop}
use Rattle.save_stream.specs.declared.entry.IndexEntry.{IndexEntry}
use Rattle.save_stream.specs.declared.head.SetHead.{SetHead}
use Rattle.save_stream.specs.declared.fault.StreamFault.{StreamFault}
use Rattle.save_stream.specs.declared.fault.StreamFault.TheVariants as faults
use Rattle.save_stream.specs.declared.progress.Progress.{Progress}
use Rattle.save_stream.specs.declared.state.State.{State}
use Rattle.save_stream.specs.Items.{IsWaiting}
use Rattle.save_stream.specs.Reading.{Reading, reads, then_reads, after_byte, passed, last_path, KeepsHead, Advances}
use Rattle.save_stream.specs.View.{reading_of, KeepsProgress, Keeps}

-- a byte behind the end
pub reads-ended : (reading : Reading) (bytes : List ℕ) → reading.ended ≡ true → 0 < length bytes → reads reading bytes ≡ Err (faults.Bad reading.read)
reads-ended reading [] ended some = absurd (omega arith)
reads-ended reading (byte ∷ bytes) ended some = rw ended refl

placed : (reading : Reading) (read one left other : ℕ) → read ≡ one → left ≡ other
    → record reading { read = read; left = left } ≡ record reading { read = one; left = other }
placed reading read one left other first second = rw (first, second) refl

passed-none : (reading : Reading) → reading ≡ passed 0 reading
passed-none reading = placed reading reading.read (reading.read + 0) reading.left (reading.left - 0) (omega arith) (omega arith)

passed-more : (count : ℕ) (reading : Reading) → passed count (passed 1 reading) ≡ passed (suc count) reading
passed-more count reading = placed reading (reading.read + 1 + count) (reading.read + suc count) (reading.left - 1 - count) (reading.left - suc count) (omega arith) (omega arith)

picks : {A : Type 0} (first second : Bool) (x y z : A) → first ≡ false → second ≡ true → cond first x (cond second y z) ≡ y
picks first second x y z closed more = rw (closed, more) refl

pub after-passed : (reading : Reading) (byte : ℕ) → reading.ended ≡ false → nat_lt 0 reading.left ≡ true → after_byte reading byte ≡ Ok (passed 1 reading)
after-passed reading byte going more = picks reading.ended (nat_lt 0 reading.left) _ _ _ going more

-- bytes of a file
pub reads-passed : (count : ℕ) (reading : Reading) (bytes : List ℕ) → reading.ended ≡ false → count ≤ length bytes → count ≤ reading.left
    → reads reading bytes ≡ reads (passed count reading) (drop count bytes)
reads-passed zero reading bytes going within left = ap (λ (next : Reading). reads next bytes) (passed-none reading)
reads-passed (suc count) reading [] going within left = absurd (omega arith)
reads-passed (suc count) reading (byte ∷ bytes) going within left =
    let more : nat_lt 0 reading.left ≡ true = lt-ltb 0 reading.left (omega arith) in
    ap (λ (step : Result Reading StreamFault). then_reads step (λ next. reads next bytes)) (after-passed reading byte going more)
    ∙ reads-passed count (passed 1 reading) bytes going (omega arith) (omega arith)
    ∙ ap (λ (next : Reading). reads next (drop count bytes)) (passed-more count reading)

pub last_path_at : (last : ℕ) (entries : List IndexEntry) (entry : IndexEntry) → length entries ≡ suc last → last_path entries ≡ (get_or entries last entry).path
last_path_at last [] entry is = absurd (omega arith)
last_path_at zero (only ∷ []) entry is = refl
last_path_at (suc last) (only ∷ []) entry is = absurd (omega arith)
last_path_at zero (first ∷ next ∷ entries) entry is = absurd (omega arith)
last_path_at (suc last) (first ∷ next ∷ entries) entry is = last_path_at last (next ∷ entries) entry (omega arith)

head-kept : (old mid new : Option SetHead) → KeepsHead old mid → KeepsHead mid new → KeepsHead old new
head-kept None mid new first second = tt
head-kept (Some head) mid new first second = subst (λ (h : Option SetHead). KeepsHead h new) first second

head-same : (head : Option SetHead) → KeepsHead head head
head-same None = tt
head-same (Some head) = refl

progress-then : (old mid new : Progress) → KeepsProgress old mid → KeepsProgress mid new → KeepsProgress old new
progress-then old mid new first second = record {
  head = head-kept old.head mid.head new.head first.head second.head;
  entries = (
    first.entries.0 ++ second.entries.0,
    second.entries.1 ∙ ap (λ (es : List IndexEntry). es ++ second.entries.0) first.entries.1
        ∙ append_assoc old.entries.items first.entries.0 second.entries.0,
  );
}

pub Keeps-then : (old mid new : State) → Keeps old mid → Keeps mid new → Keeps old new
Keeps-then old mid new first second = record {
  progress = progress-then old.progress mid.progress new.progress first.progress second.progress;
  pending = (
    first.pending.0 ++ second.pending.0,
    second.pending.1 ∙ ap (λ (p : List ℕ). p ++ second.pending.0) first.pending.1
        ∙ append_assoc old.pending.items first.pending.0 second.pending.0,
  );
}

pub progress-same : (progress : Progress) → KeepsProgress progress progress
progress-same progress = record { head = head-same progress.head; entries = ([], sym (append-nil progress.entries.items)) }

pub Keeps-same : (state : State) → Keeps state state
Keeps-same state = record { progress = progress-same state.progress; pending = ([], sym (append-nil state.pending.items)) }

-- a reader has come from the front of a piece to these bytes of it
pub record Goes (old now : State) (piece rest : List ℕ) : Type 0 where
  pub same : reads (reading_of old) piece ≡ reads (reading_of now) rest
  pub kept : Keeps old now
  pub waiting : IsWaiting (reading_of now)
  pub room : now.progress.read + length rest ≤ 2 ^ 36

pub Goes-start : (state : State) (piece : List ℕ) → state.progress.read + length piece ≤ 2 ^ 36 → IsWaiting (reading_of state) → Goes state state piece piece
Goes-start state piece room waiting = record { same = refl; kept = Keeps-same state; waiting = waiting; room = room }

pub Goes-on : (old now next : State) (piece rest : List ℕ) (count : ℕ) → Goes old now piece rest
    → Advances (reading_of now) (reading_of next) rest count → IsWaiting (reading_of next) → Keeps now next → Goes old next piece (drop count rest)
Goes-on old now next piece rest count before step waiting kept = record {
  same = before.same ∙ step.rest;
  kept = Keeps-then old now next before.kept kept;
  waiting = waiting;
  room = omega (arith, before.room, step.read, step.within, length-drop count rest);
}
