-- The offset of a fault is that of a first field that isn't allowed.
use Rattle.std.proofs.Common.{◌≡◌, ℕ, zero, suc, ◌+◌, Bool, true, false, List, [], ◌∷◌, ◌++◌, length, Option, Some, None, Result, Ok, Err, refl, sym, ap, subst, ◌∙◌, append_assoc, arith, inl, inr}
use Rattle.std.specs.Prelude.{◌⊎◌, IsSome}
use Rattle.std.proofs.lemmas.Bool.{lt-ltb}
use Rattle.std.proofs.lemmas.List.{length-append, append-nil}
use Rattle.save_stream.specs.declared.entry.IndexEntry.{IndexEntry}
use Rattle.save_stream.specs.declared.fault.StreamFault.{StreamFault}
use Rattle.save_stream.specs.declared.fault.StreamFault.TheVariants as faults
use Rattle.save_stream.specs.declared.head.SetHead.{SetHead}
use Rattle.save_stream.specs.declared.stop.Stop.TheVariants as stops
use Rattle.save_stream.specs.Spelling.{max_entries}
use Rattle.save_stream.specs.BadField.{FieldRules, no_field, next_fields, head_fields, item_fields, HasBadField, HasEntryTooMany}
use Rattle.save_stream.specs.Reading.{Part, Reading, start, reads, then_reads, read_alone, settled, settle, settle_by, begins_end, with_head, with_entry, with_end, last_path, with_byte, passed, after_byte, head_at, front_at, end_at}
use Rattle.save_stream.proofs.Filling.{Fills, Finds, fits-finds, front-finds, head-fits, end-fits}
use Rattle.save_stream.proofs.Judged.{Follows, head-follows, front-follows, end-follows}
use Rattle.save_stream.proofs.OneSpelling.{reads-append}
use Rattle.save_stream.proofs.Steps.{done, failed, done-is, not-done}
use Rattle.save_stream.proofs.Streams.{true-not-false}
use Rattle.save_stream.proofs.Taking.{after-passed}
use Rattle.save_stream.proofs.Whole.{next-byte}

-- nothing is pending, or a head, an entry or an end has begun
abbrev Begun : Reading → Type 0
Begun reading = ((reading.pending ≡ []) × (reading.ended ≡ true → reading.left ≡ 0)) ⊎ ((reading.left ≡ 0) × (reading.ended ≡ false))

-- a reader has read a text, whose last bytes are pending
pub record At (text : List ℕ) (reading : Reading) : Type 0 where
  pub now : reads start text ≡ Ok reading
  pub whole : List ℕ
  pub read : reads start whole ≡ Ok (record reading { read = length whole; pending = [] })
  pub parts : text ≡ whole ++ reading.pending
  pub count : reading.read ≡ length whole + length reading.pending
  pub begun : Begun reading

-- what a fault says of a stream
abbrev pub HasFault : List ℕ → StreamFault → Type 0
HasFault stream (faults.Bad offset) = HasBadField stream offset
HasFault stream (faults.TooMany limit) = (limit ≡ max_entries) × ((offset : ℕ) × HasEntryTooMany stream offset)
HasFault stream faults.Memory = ⊥

-- the pending bytes begin one more entry than there may be
abbrev Overfull : Reading → Type 0
Overfull now = IsSome now.head × Fills (length now.entries) now.pending

-- what a byte more does
abbrev After : List ℕ → ℕ → Result Reading StreamFault → Type 0
After text byte (Ok next) = At (text ++ byte ∷ []) next
After text byte (Err fault) = (more : List ℕ) → HasFault (text ++ byte ∷ more) fault

then-done : (read : Result Reading StreamFault) → then_reads read (λ next. reads next []) ≡ read
then-done (Ok reading) = refl
then-done (Err fault) = refl

now-reads : (text : List ℕ) (byte : ℕ) (reading : Reading) → reads start text ≡ Ok reading → reads start (text ++ byte ∷ []) ≡ after_byte reading byte
now-reads text byte reading is =
    reads-append text start (byte ∷ []) ∙ ap (λ (r : Result Reading StreamFault). then_reads r (λ next. reads next (byte ∷ []))) is
    ∙ then-done (after_byte reading byte)

emptied : (next : Reading) (count : ℕ) → next.read ≡ count → next.pending ≡ [] → done next ≡ done (record next { read = count; pending = [] })
emptied next count first second =
    ap (λ (n : ℕ). done (record next { read = n })) first ∙ ap (λ (p : List ℕ). done (record next { read = count; pending = p })) second

whole-at : (text : List ℕ) (next : Reading) → reads start text ≡ Ok next → next.read ≡ length text → next.pending ≡ [] → (next.ended ≡ true → next.left ≡ 0) → At text next
whole-at text next is count none ended = record {
  now = is;
  whole = text;
  read = is ∙ emptied next (length text) count none;
  parts = sym (ap (λ (p : List ℕ). text ++ p) none ∙ append-nil text);
  count = omega (arith, count, ap (λ (p : List ℕ). length p) none);
  begun = inl (none, ended);
}

-- what is read whole leaves nothing pending
abbrev Empties : {X : Type 0} → (X → Reading) → Reading → Type 0
Empties {X = X} made now = (x : X) → ((made x).pending ≡ []) × ((made x).read ≡ now.read) × ((made x).ended ≡ true → (made x).left ≡ 0)

regrouped : (whole before bad rest more : List ℕ) → (whole ++ (before ++ (bad ++ rest))) ++ more ≡ whole ++ (before ++ (bad ++ (rest ++ more)))
regrouped whole before bad rest more = simp append_assoc

settled-after : {X : Type 0} (text : List ℕ) (byte : ℕ) (made : X → Reading) (now : Reading) (part : Part X) (whole : List ℕ) (Bad : FieldRules) (Next : X → FieldRules)
    → reads start (text ++ byte ∷ []) ≡ settled made now (read_alone part) → reads start whole ≡ Ok (record now { read = length whole; pending = [] })
    → text ++ byte ∷ [] ≡ whole ++ now.pending → now.read ≡ length whole + length now.pending → (now.left ≡ 0) × (now.ended ≡ false) → Empties made now
    → ((before bad : List ℕ) → Bad before bad → next_fields now.ended now.head now.entries before bad) → Follows now.pending Bad part Next → Finds (Overfull now) part
    → After text byte (settled made now (read_alone part))
settled-after text byte made now (Ok x) whole Bad Next is read parts count begun empties fields follows finds =
    whole-at (text ++ byte ∷ []) (made x.0) is
    (omega (arith, (empties x.0).1, count, ap (λ (t : List ℕ). length t) parts, length-append whole now.pending)) (empties x.0).0 (empties x.0).2
settled-after text byte made now (Err stops.More) whole Bad Next is read parts count begun empties fields follows finds =
    record { now = is; whole = whole; read = read; parts = parts; count = count; begun = inr begun }
settled-after text byte made now (Err (stops.Wrong behind)) whole Bad Next is read parts count begun empties fields follows finds =
    let before = follows.0 in
    let bad = follows.1.0 in
    let rest = follows.1.1.0 in
    λ more. record {
      whole = whole;
      reading = record now { read = length whole; pending = [] };
      before = before;
      bad = bad;
      rest = rest ++ more;
      parts = sym (append_assoc text (byte ∷ []) more) ∙ ap (λ (t : List ℕ). t ++ more) (parts ∙ ap (λ (p : List ℕ). whole ++ p) follows.1.1.1)
          ∙ regrouped whole before bad rest more;
      offset_is = omega (arith, count, follows.1.1.2, ap (λ (p : List ℕ). length p) follows.1.1.1, length-append before (bad ++ rest));
      read = read;
      idle = (refl, begun.0);
      first_bad = fields before bad follows.1.1.3;
    }
settled-after text byte made now (Err stops.Full) whole Bad Next is read parts count begun empties fields follows finds =
    let kind_byte = finds.1.0 in
    let rest = finds.1.1.0 in
    λ more. (
      refl,
      (
        length whole,
        record {
          whole = whole;
          reading = record now { read = length whole; pending = [] };
          kind_byte = kind_byte;
          rest = rest ++ more;
          offset_is = refl;
          parts = sym (append_assoc text (byte ∷ []) more) ∙ ap (λ (t : List ℕ). t ++ more) (parts ∙ ap (λ (p : List ℕ). whole ++ p) finds.1.1.1)
              ∙ append_assoc whole (kind_byte ∷ rest) more;
          read = read;
          idle = (refl, begun.0);
          going = (begun.1, finds.0);
          full = finds.1.1.3;
          begins = finds.1.1.2;
        },
      ),
    )
settled-after text byte made now (Err stops.Memory) whole Bad Next is read parts count begun empties fields follows finds = absurd finds

finds-also : {X : Type 0} (P Over : Type 0) (part : Part X) → P → Finds Over part → Finds (P × Over) part
finds-also P Over (Ok x) p finds = tt
finds-also P Over (Err stops.More) p finds = tt
finds-also P Over (Err (stops.Wrong behind)) p finds = tt
finds-also P Over (Err stops.Full) p finds = (p, finds)
finds-also P Over (Err stops.Memory) p finds = finds

abbrev standing : ℕ → ℕ → Bool → Option SetHead → List IndexEntry → List ℕ → Reading
standing read left ended head entries pending = record { read = read; left = left; ended = ended; head = head; entries = entries; pending = pending }

-- an entry or an end
rest-after : (test : Bool) (text : List ℕ) (byte read : ℕ) (head : SetHead) (entries : List IndexEntry) (pending whole : List ℕ)
    → let now = standing read 0 false (Some head) entries pending in
    begins_end pending ≡ test → reads start (text ++ byte ∷ []) ≡ settle_by test now → reads start whole ≡ Ok (record now { read = length whole; pending = [] })
    → text ++ byte ∷ [] ≡ whole ++ pending → read ≡ length whole + length pending → After text byte (settle_by test now)
rest-after true text byte read head entries pending whole ends is before parts count =
    let now = standing read 0 false (Some head) entries pending in
    settled-after text byte (with_end now) now (end_at (length entries) pending) whole (item_fields (length entries) (last_path entries)) (λ _. no_field) is before parts count (refl, refl)
    (λ x. (refl, refl, λ _. refl)) (λ before bad first. first) (end-follows (length entries) (last_path entries) pending ends)
    (fits-finds (Overfull now) (end_at (length entries) pending) (end-fits (length entries) pending))
rest-after false text byte read head entries pending whole ends is before parts count =
    let now = standing read 0 false (Some head) entries pending in
    settled-after text byte (with_entry now) now (front_at (length entries) (last_path entries) pending) whole (item_fields (length entries) (last_path entries)) (λ _. no_field) is before parts count (refl, refl)
    (λ x. (refl, refl, λ ended. absurd (true-not-false (sym ended)))) (λ before bad first. first) (front-follows (length entries) (last_path entries) pending ends)
    (finds-also (IsSome now.head) (Fills (length entries) pending) (front_at (length entries) (last_path entries) pending) refl (front-finds (length entries) (last_path entries) pending))

none-pending : (reading : Reading) → reading.ended ≡ true → Begun reading → (reading.pending ≡ []) × (reading.left ≡ 0)
none-pending reading ended begun = elim begun [
  | inl idle ↦ (idle.0, idle.1 ended)
  | inr going ↦ absurd (true-not-false (sym ended ∙ going.1))
]

none-in-file : (reading : Reading) (left : ℕ) → reading.left ≡ suc left → Begun reading → reading.pending ≡ []
none-in-file reading left is begun = elim begun [
  | inl idle ↦ idle.0
  | inr going ↦ absurd (omega (arith, is, going.0))
]

after : (text : List ℕ) (byte read left : ℕ) (ended : Bool) (head : Option SetHead) (entries : List IndexEntry) (pending : List ℕ)
    → At text (standing read left ended head entries pending) → After text byte (after_byte (standing read left ended head entries pending) byte)
unfolding settle
after text byte read left true head entries pending at =
    let idle = none-pending (standing read left true head entries pending) refl at.begun in
    λ more. record {
      whole = at.whole;
      reading = standing (length at.whole) left true head entries [];
      before = [];
      bad = byte ∷ [];
      rest = more;
      parts = ap (λ (t : List ℕ). t ++ byte ∷ more) (at.parts ∙ ap (λ (p : List ℕ). at.whole ++ p) idle.0 ∙ append-nil at.whole);
      offset_is = omega (arith, at.count, ap (λ (p : List ℕ). length p) idle.0);
      read = at.read;
      idle = (refl, idle.1);
      first_bad = inl (refl, refl, λ is. is);
    }
after text byte read (suc left) false head entries pending at =
    let reading = standing read (suc left) false head entries pending in
    let none = none-in-file reading left refl at.begun in
    let passes = after-passed reading byte refl (lt-ltb 0 (suc left) (omega arith)) in
    subst (λ (r : Result Reading StreamFault). After text byte r) (sym passes)
    (whole-at (text ++ byte ∷ []) (passed 1 reading) (now-reads text byte reading at.now ∙ passes)
    (omega (arith, at.count, ap (λ (t : List ℕ). length t) at.parts, length-append at.whole pending, length-append text (byte ∷ []))) none
    (λ ended. absurd (true-not-false (sym ended))))
after text byte read zero false None entries pending at =
    let reading = standing read 0 false None entries pending in
    let now = with_byte reading byte in
    let step = next-byte reading byte refl refl in
    subst (λ (r : Result Reading StreamFault). After text byte r) (sym step)
    (settled-after text byte (with_head now) now (head_at now.pending) at.whole head_fields (λ _. no_field) (now-reads text byte reading at.now ∙ step) at.read
    (ap (λ (t : List ℕ). t ++ byte ∷ []) at.parts ∙ append_assoc at.whole pending (byte ∷ [])) (omega (arith, at.count, length-append pending (byte ∷ []))) (refl, refl)
    (λ x. (refl, refl, λ ended. absurd (true-not-false (sym ended)))) (λ before bad first. first) (head-follows now.pending)
    (fits-finds (Overfull now) (head_at now.pending) (head-fits now.pending)))
after text byte read zero false (Some head) entries pending at =
    let reading = standing read 0 false (Some head) entries pending in
    let step = next-byte reading byte refl refl in
    subst (λ (r : Result Reading StreamFault). After text byte r) (sym step)
    (rest-after (begins_end (pending ++ byte ∷ [])) text byte (read + 1) head entries (pending ++ byte ∷ []) at.whole refl (now-reads text byte reading at.now ∙ step) at.read
    (ap (λ (t : List ℕ). t ++ byte ∷ []) at.parts ∙ append_assoc at.whole pending (byte ∷ [])) (omega (arith, at.count, length-append pending (byte ∷ []))))

same-fault : (one other : StreamFault) → failed one ≡ failed other → one ≡ other
same-fault one other is = cc

-- what is read on
onward : (text : List ℕ) (byte : ℕ) (bytes : List ℕ) (fault : StreamFault) (step : Result Reading StreamFault) → After text byte step
    → then_reads step (λ next. reads next bytes) ≡ Err fault
    → ((next : Reading) → At (text ++ byte ∷ []) next → reads next bytes ≡ Err fault → HasFault ((text ++ byte ∷ []) ++ bytes) fault)
    → HasFault (text ++ byte ∷ bytes) fault
onward text byte bytes fault (Ok next) here is more = subst (λ (t : List ℕ). HasFault t fault) (append_assoc text (byte ∷ []) bytes) (more next here is)
onward text byte bytes fault (Err other) here is more = subst (λ (f : StreamFault). HasFault (text ++ byte ∷ bytes) f) (same-fault other fault is) (here bytes)

reads-fault : (bytes text : List ℕ) (reading : Reading) (fault : StreamFault) → At text reading → reads reading bytes ≡ Err fault → HasFault (text ++ bytes) fault
reads-fault [] text reading fault at is = absurd (not-done fault reading (sym is))
reads-fault (byte ∷ bytes) text reading fault at is =
    onward text byte bytes fault (after_byte reading byte) (after text byte reading.read reading.left reading.ended reading.head reading.entries reading.pending at) is
    (λ next here behind. reads-fault bytes (text ++ byte ∷ []) next fault here behind)

start-at : At [] start
start-at = record { now = refl; whole = []; read = refl; parts = refl; count = refl; begun = inr (refl, refl) }

pub has-fault : (stream : List ℕ) (fault : StreamFault) → reads start stream ≡ Err fault → HasFault stream fault
has-fault stream fault is = reads-fault stream [] start fault start-at is

-- a reader that has read a text
now-at : (text : List ℕ) (byte : ℕ) (bytes : List ℕ) (last : Reading) (step : Result Reading StreamFault) → After text byte step
    → then_reads step (λ next. reads next bytes) ≡ Ok last
    → ((next : Reading) → At (text ++ byte ∷ []) next → reads next bytes ≡ Ok last → At ((text ++ byte ∷ []) ++ bytes) last) → At (text ++ byte ∷ bytes) last
now-at text byte bytes last (Ok next) here is more = subst (λ (t : List ℕ). At t last) (append_assoc text (byte ∷ []) bytes) (more next here is)
now-at text byte bytes last (Err fault) here is more = absurd (not-done fault last is)

reads-at : (bytes text : List ℕ) (reading last : Reading) → At text reading → reads reading bytes ≡ Ok last → At (text ++ bytes) last
reads-at [] text reading last at is = subst (λ (t : List ℕ). At t last) (sym (append-nil text)) (subst (λ (r : Reading). At text r) (done-is reading last is) at)
reads-at (byte ∷ bytes) text reading last at is =
    now-at text byte bytes last (after_byte reading byte) (after text byte reading.read reading.left reading.ended reading.head reading.entries reading.pending at) is
    (λ next here behind. reads-at bytes (text ++ byte ∷ []) next last here behind)

pub read-length : (text : List ℕ) (reading : Reading) → reads start text ≡ Ok reading → reading.read ≡ length text
read-length text reading is =
    let at = reads-at text [] start reading start-at is in
    omega (arith, at.count, ap (λ (t : List ℕ). length t) at.parts, length-append at.whole reading.pending)
