-- A file that is written piece by piece.
use Rattle.std.proofs.Common.{◌≡◌, ℕ, ◌+◌, ◌-◌, ◌≤◌, List, [], ◌++◌, length, take, refl, sym, ap, subst, ◌∙◌, append_assoc, arith, inl, inr}
use Rattle.std.specs.Prelude.{Ok, Err, slice_index}
use Rattle.std.proofs.Math.ListN.{get_or-append}
use Rattle.std.proofs.lemmas.Bool.{cases_lt}
use Rattle.std.proofs.lemmas.List.{append-nil, length-append, length-take, get_or-take, get_or-append_right}
use Rattle.room_base.specs.Outside.{AddsFront}
use Rattle.media_db.specs.declared.records.Record.{Record}
use Rattle.recover_files.specs.StreamAt.{Shelf, StreamAt, AreBytes, GivesRange}
use Rattle.recover_files.specs.FileBytes.{CanBeHad, LacksFrom, RecoversAs, AddsBytes, WritesBytes}
use Rattle.recover_files.specs.declared.fault.RangeFault.{RangeFault}
use Rattle.recover_files.specs.declared.fault.RangeFault.TheVariants as faults
use Rattle.recover_files.specs.declared.fault.RecoverFault.{RecoverFault}
use Rattle.recover_files.specs.declared.fault.RecoverFault.TheVariants as ends

-- ---- which bytes can be had

pub bytes_had : (shelf : Shelf) (rows : List Record) (ssid place count : ℕ) (bytes : List ℕ) → AreBytes shelf rows ssid place count bytes
    → CanBeHad shelf rows ssid place count
bytes_had shelf rows ssid place count bytes are i below = (slice_index bytes i, are i below)

pub had_more : (shelf : Shelf) (rows : List Record) (ssid place done count : ℕ) → CanBeHad shelf rows ssid place done
    → CanBeHad shelf rows ssid (place + done) count → CanBeHad shelf rows ssid place (done + count)
had_more shelf rows ssid place done count front back i below = elim (cases_lt i done) [
  | inl before ↦ front i before
  | inr behind ↦ (
      let there : place + done + (i - done) ≡ place + i = omega (arith, behind) in
      let Had : ℕ → Type 0 = λ n. (byte : ℕ) × StreamAt shelf rows ssid n (Ok byte) in
      subst Had there (back (i - done) (omega (arith, below, behind))))
]

-- a range that can't be read
pub range_recovers : (shelf : Shelf) (rows : List Record) (ssid place size : ℕ) (bytes : List ℕ) (fault : RangeFault) → length bytes ≡ size
    → GivesRange {T = Unit {0}} shelf rows ssid place bytes (Err fault) → RecoversAs {T = Unit {0}} shelf rows ssid place size (Err (ends.Range fault))
range_recovers shelf rows ssid place size bytes (faults.Offsite volid) long is = record {
  count = is.count;
  within = omega (arith, is.within, long);
  before = bytes_had shelf rows ssid place is.count bytes is.before;
  fails = is.fails;
}
range_recovers shelf rows ssid place size bytes (faults.Damaged volid block) long is = record {
  count = is.count;
  within = omega (arith, is.within, long);
  before = bytes_had shelf rows ssid place is.count bytes is.before;
  fails = is.fails;
}
range_recovers shelf rows ssid place size bytes (faults.Failed file) long is = tt

lacks_later : (shelf : Shelf) (rows : List Record) (ssid place done piece size : ℕ) (fault : RangeFault) → CanBeHad shelf rows ssid place done → done + piece ≤ size
    → LacksFrom shelf rows ssid (place + done) piece fault → LacksFrom shelf rows ssid place size fault
lacks_later shelf rows ssid place done piece size fault had fits lacks =
    let there : place + done + lacks.count ≡ place + (done + lacks.count) = omega arith in
    record {
      count = done + lacks.count;
      within = omega (arith, lacks.within, fits);
      before = had_more shelf rows ssid place done lacks.count had lacks.before;
      fails = subst (λ (n : ℕ). StreamAt shelf rows ssid n (Err fault)) there lacks.fails;
    }

-- a piece of a file that can't be recovered
pub recovers_later : (shelf : Shelf) (rows : List Record) (ssid place done piece size : ℕ) (fault : RecoverFault) → CanBeHad shelf rows ssid place done → done + piece ≤ size
    → RecoversAs {T = Unit {0}} shelf rows ssid (place + done) piece (Err fault) → RecoversAs {T = Unit {0}} shelf rows ssid place size (Err fault)
recovers_later shelf rows ssid place done piece size (ends.Range (faults.Offsite volid)) had fits is =
    lacks_later shelf rows ssid place done piece size (faults.Offsite volid) had fits is
recovers_later shelf rows ssid place done piece size (ends.Range (faults.Damaged volid block)) had fits is =
    lacks_later shelf rows ssid place done piece size (faults.Damaged volid block) had fits is
recovers_later shelf rows ssid place done piece size (ends.Range (faults.Failed file)) had fits is = tt
recovers_later shelf rows ssid place done piece size ends.SinkFailed had fits is = tt

-- ---- what was written

-- a front of the piece was written
pub front_written : (shelf : Shelf) (rows : List Record) (ssid place size : ℕ) (bytes old new : List ℕ) → length bytes ≡ size
    → AreBytes shelf rows ssid place (length bytes) bytes → AddsFront old new bytes
    → (count : ℕ) × (count ≤ size) × AddsBytes shelf rows ssid place old new count
front_written shelf rows ssid place size bytes old new long are added =
    let front = take added.0 bytes in
    let count = length front in
    let short : count ≤ length bytes = omega (arith, length-take added.0 bytes) in
    let fewer : count ≤ added.0 = omega (arith, length-take added.0 bytes) in (
      count,
      omega (arith, short, long),
      record {
        bytes = front;
        long = refl;
        are = λ i below.
            (let same : slice_index front i ≡ slice_index bytes i = get_or-take added.0 bytes i 0 (omega (arith, below, fewer)) in
            subst (λ (b : ℕ). StreamAt shelf rows ssid (place + i) (Ok b)) (sym same) (are i (omega (arith, below, short))));
        added = added.1;
      },
    )

-- a piece behind what was written before
pub adds_more : (shelf : Shelf) (rows : List Record) (ssid place done count : ℕ) (old mid new : List ℕ) → AddsBytes shelf rows ssid place old mid done
    → AddsBytes shelf rows ssid (place + done) mid new count → AddsBytes shelf rows ssid place old new (done + count)
adds_more shelf rows ssid place done count old mid new first next = record {
  bytes = first.bytes ++ next.bytes;
  long = omega (arith, length-append first.bytes next.bytes, first.long, next.long);
  are = λ i below. elim (cases_lt i done) [
    | inl before ↦ (
        let same : slice_index (first.bytes ++ next.bytes) i ≡ slice_index first.bytes i =
        get_or-append first.bytes next.bytes 0 i (omega (arith, before, first.long)) in
        subst (λ (b : ℕ). StreamAt shelf rows ssid (place + i) (Ok b)) (sym same) (first.are i before))
    | inr behind ↦ (
        let same : slice_index (first.bytes ++ next.bytes) i ≡ slice_index next.bytes (i - done) =
        get_or-append_right first.bytes next.bytes done i 0 first.long behind in
        let there : place + done + (i - done) ≡ place + i = omega (arith, behind) in
        let here = subst (λ (n : ℕ). StreamAt shelf rows ssid n (Ok (slice_index next.bytes (i - done)))) there (next.are (i - done) (omega (arith, below, behind))) in
        subst (λ (b : ℕ). StreamAt shelf rows ssid (place + i) (Ok b)) (sym same) here)
  ];
  added = next.added ∙ ap (λ (t : List ℕ). t ++ next.bytes) first.added ∙ append_assoc old first.bytes next.bytes;
}

-- a front of a piece behind what was written before
pub adds_front : (shelf : Shelf) (rows : List Record) (ssid place done piece size : ℕ) (old mid new : List ℕ) (fault : RecoverFault)
    → AddsBytes shelf rows ssid place old mid done → done + piece ≤ size
    → WritesBytes {T = Unit {0}} shelf rows ssid (place + done) piece mid new (Err fault) → WritesBytes {T = Unit {0}} shelf rows ssid place size old new (Err fault)
adds_front shelf rows ssid place done piece size old mid new fault first fits next =
    (done + next.0, omega (arith, next.1, fits), adds_more shelf rows ssid place done next.0 old mid new first next.2)

pub adds_none : (shelf : Shelf) (rows : List Record) (ssid place : ℕ) (old : List ℕ) → AddsBytes shelf rows ssid place old old 0
adds_none shelf rows ssid place old = record {
  bytes = [];
  long = refl;
  are = λ i below. absurd (omega (arith, below));
  added = sym (append-nil old);
}
