-- A reader that has read a text stands where the text says.
use Rattle.std.proofs.Common.{◌≡◌, ℕ, zero, suc, ◌+◌, ◌≤◌, ◌<◌, Bool, true, false, List, [], ◌∷◌, ◌++◌, length, Option, Some, None, Result, Ok, Err, refl, sym, ap, subst, ◌∙◌, append_assoc, arith, inl, inr}
use Rattle.std.specs.Prelude.{◌⊎◌}
use Rattle.std.proofs.lemmas.Bool.{lt-ltb}
use Rattle.std.proofs.lemmas.List.{length-append, append-nil, nil_from_length}
use Rattle.save_stream.specs.declared.entry.IndexEntry.{IndexEntry}
use Rattle.save_stream.specs.declared.fault.StreamFault.{StreamFault}
use Rattle.save_stream.specs.declared.head.SetHead.{SetHead}
use Rattle.save_stream.specs.declared.stop.Stop.TheVariants as stops
use Rattle.save_stream.specs.Spelling.{IsHead, max_entries, head_text, Saved, entry_front, end_text}
use Rattle.save_stream.specs.Reading.{Part, Reading, Front, behind_head, start, read_alone, settled, settle, settle_by, begins_end, with_head, with_entry, with_end, entry_from, last_path, with_byte, passed, after_byte, then_reads, reads, head_at, front_at, end_at, given_byte_at, numbers_at}
use Rattle.save_stream.specs.Standing.{Spells, Behind, Stands, Waits, WaitsIf, Holds}
use Rattle.save_stream.proofs.Sound.{IsBytes, FrontIs}
use Rattle.save_stream.proofs.Standing.{none-waits, end-waits, front-waits, end-whole, head-whole, front-whole, saved_of, spells-more, spells-end, spells-entry}
use Rattle.save_stream.proofs.Taking.{after-passed}
use Rattle.save_stream.proofs.Whole.{next-byte, length-index_from}

pub IsBytes-more : (bytes : List ℕ) (byte : ℕ) → IsBytes bytes → byte < 256 → IsBytes (bytes ++ byte ∷ [])
IsBytes-more [] byte is small zero = small
IsBytes-more [] byte is small (suc i) = omega arith
IsBytes-more (first ∷ bytes) byte is small zero = is 0
IsBytes-more (first ∷ bytes) byte is small (suc i) = IsBytes-more bytes byte (λ k. is (suc k)) small i

pub IsBytes-none : IsBytes []
IsBytes-none i = omega arith

abbrev pub done : Reading → Result Reading StreamFault
done reading = Ok reading

abbrev pub failed : StreamFault → Result Reading StreamFault
failed fault = Err fault

pub done-is : (one other : Reading) → done one ≡ done other → one ≡ other
done-is one other is = cc

pub not-done : (fault : StreamFault) (reading : Reading) → failed fault ≡ done reading → ⊥
not-done fault reading is = cc

-- what was settled: pending bytes were complete, or wait for more
settled-is : {X : Type 0} (made : X → Reading) (now : Reading) (part : Part X) (next : Reading) → settled made now (read_alone part) ≡ Ok next
    → ((x : X) × ((rest : List ℕ) × (part ≡ Ok (x, rest)) × (next ≡ made x))) ⊎ ((part ≡ Err stops.More) × (next ≡ now))
settled-is made now (Ok x) next is = inl (x.0, (x.1, refl, sym (done-is (made x.0) next is)))
settled-is made now (Err stops.More) next is = inr (refl, sym (done-is now next is))
settled-is made now (Err (stops.Wrong behind)) next is = absurd (not-done _ next is)
settled-is made now (Err stops.Full) next is = absurd (not-done _ next is)
settled-is made now (Err stops.Memory) next is = absurd (not-done _ next is)

longer : (text : List ℕ) (byte read : ℕ) → read ≡ length text → read + 1 ≡ length (text ++ byte ∷ [])
longer text byte read is = omega (arith, is, length-append text (byte ∷ []))

-- ---- in the head

abbrev within : ℕ → ℕ → Bool → List IndexEntry → List ℕ → Reading
within read left ended entries pending = record { read = read; left = left; ended = ended; head = None; entries = entries; pending = pending }

head-spells : (text missing : List ℕ) (head : SetHead) (left : ℕ) (ended : Bool) (entries : List IndexEntry) → text ≡ head_text head → left ≡ 0 → ended ≡ false → entries ≡ []
    → length missing ≡ left → Spells (text ++ missing) head [] ended entries []
head-spells text missing head left true entries is none going empty size = absurd cc
head-spells text missing head left false entries is none going empty size = record {
  each = tt;
  order = tt;
  count = omega arith;
  index_is = empty;
  parts = ap (λ (t : List ℕ). t ++ missing) is ∙ ap (λ (t : List ℕ). head_text head ++ t) (nil_from_length missing (size ∙ none));
}

head-step : (text : List ℕ) (byte read left : ℕ) (ended : Bool) (entries : List IndexEntry) (pending : List ℕ) (next : Reading)
    → Holds text (within read left ended entries pending) → byte < 256 → after_byte (within read left ended entries pending) byte ≡ Ok next → Holds (text ++ byte ∷ []) next
unfolding settle
head-step text byte read left ended entries pending next holds small is =
    let at = holds.stands.at in
    let reading = within read left ended entries pending in
    let now = with_byte reading byte in
    let bytes = IsBytes-more pending byte holds.bytes small in
    let settles = settled-is (with_head now) now (head_at now.pending) next (sym (next-byte reading byte at.going at.none.0) ∙ is) in
    let grown : pending ++ byte ∷ [] ≡ text ++ byte ∷ [] = ap (λ (t : List ℕ). t ++ byte ∷ []) at.bytes in
    elim settles [
      | inl found ↦
          (let complete = head-whole pending byte found.0 found.1.0 bytes holds.waits found.1.1 in
          subst (λ (r : Reading). Holds (text ++ byte ∷ []) r) (sym found.1.2) (record {
            stands = record {
              read = longer text byte read holds.stands.read;
              at = record {
                allowed = complete.1;
                spelled = λ missing size. ([], head-spells (text ++ byte ∷ []) missing found.0 left ended entries (sym grown ∙ complete.0) at.none.0 at.going at.none.1 size);
                whole = λ some. absurd (omega (arith, at.none.0));
              };
            };
            bytes = IsBytes-none;
            waits = λ _. none-waits entries;
          }))
      | inr waiting ↦
          subst (λ (r : Reading). Holds (text ++ byte ∷ []) r) (sym waiting.1) (record {
            stands = record { read = longer text byte read holds.stands.read; at = record { bytes = grown; going = at.going; none = at.none } };
            bytes = bytes;
            waits = waiting.0;
          })
    ]

-- ---- behind the head

abbrev behind : SetHead → ℕ → ℕ → Bool → List IndexEntry → List ℕ → Reading
behind head read left ended entries pending = record { read = read; left = left; ended = ended; head = Some head; entries = entries; pending = pending }

-- a byte of a file
file-step : (text : List ℕ) (byte : ℕ) (head : SetHead) (read left : ℕ) (entries : List IndexEntry) (pending : List ℕ)
    → Holds text (behind head read (suc left) false entries pending) → Holds (text ++ byte ∷ []) (passed 1 (behind head read (suc left) false entries pending))
file-step text byte head read left entries pending holds =
    let at = holds.stands.at in
    record {
      stands = record {
        read = longer text byte read holds.stands.read;
        at = record {
          allowed = at.allowed;
          spelled = λ missing size.
              let same = at.spelled (byte ∷ missing) (omega (arith, size)) in
              (same.0, subst (λ (t : List ℕ). Spells t head same.0 false entries pending) (sym (append_assoc text (byte ∷ []) missing)) same.1);
          whole = λ some. at.whole (omega arith);
        };
      };
      bytes = holds.bytes;
      waits = holds.waits;
    }

-- what a text spells once no byte of a file is missing
spells-now : (text : List ℕ) (byte : ℕ) (head : SetHead) (entries : List IndexEntry) (pending : List ℕ) → Behind text head 0 false entries pending
    → (es : List Saved) × Spells (text ++ byte ∷ []) head es false entries (pending ++ byte ∷ [])
spells-now text byte head entries pending at =
    let old = at.spelled [] refl in
    (old.0, spells-more text head old.0 entries pending byte (subst (λ (t : List ℕ). Spells t head old.0 false entries pending) (append-nil text) old.1))

with-none : (text missing : List ℕ) (head : SetHead) (es : List Saved) (ended : Bool) (entries : List IndexEntry) (pending : List ℕ) → length missing ≡ 0
    → Spells text head es ended entries pending → Spells (text ++ missing) head es ended entries pending
with-none text missing head es ended entries pending none is =
    subst (λ (t : List ℕ). Spells t head es ended entries pending) (sym (ap (λ (m : List ℕ). text ++ m) (nil_from_length missing none) ∙ append-nil text)) is

-- the pending bytes are still not complete
waiting-step : (text : List ℕ) (byte : ℕ) (head : SetHead) (read : ℕ) (entries : List IndexEntry) (pending : List ℕ)
    → Holds text (behind head read 0 false entries pending) → byte < 256 → Waits entries (pending ++ byte ∷ [])
    → Holds (text ++ byte ∷ []) (with_byte (behind head read 0 false entries pending) byte)
waiting-step text byte head read entries pending holds small waits =
    let at = holds.stands.at in
    let now = spells-now text byte head entries pending at in
    record {
      stands = record {
        read = longer text byte read holds.stands.read;
        at = record {
          allowed = at.allowed;
          spelled = λ missing size. (now.0, with-none (text ++ byte ∷ []) missing head now.0 false entries (pending ++ byte ∷ []) size now.1);
          whole = λ some. absurd (omega arith);
        };
      };
      bytes = IsBytes-more pending byte holds.bytes small;
      waits = λ _. waits;
    }

end-step : (text : List ℕ) (byte : ℕ) (head : SetHead) (read : ℕ) (entries : List IndexEntry) (pending : List ℕ) (count : ℕ)
    → Holds text (behind head read 0 false entries pending) → pending ++ byte ∷ [] ≡ end_text (length entries)
    → Holds (text ++ byte ∷ []) (with_end (with_byte (behind head read 0 false entries pending) byte) count)
end-step text byte head read entries pending count holds ends =
    let at = holds.stands.at in
    let now = spells-now text byte head entries pending at in
    let ended = spells-end (text ++ byte ∷ []) head now.0 entries (pending ++ byte ∷ []) now.1 ends in
    record {
      stands = record {
        read = longer text byte read holds.stands.read;
        at = record {
          allowed = at.allowed;
          spelled = λ missing size. (now.0, with-none (text ++ byte ∷ []) missing head now.0 true entries [] size ended);
          whole = λ some. absurd (omega arith);
        };
      };
      bytes = IsBytes-none;
      waits = λ going. absurd cc;
    }

-- how many entries a text may have
entries-fit : (text : List ℕ) (head : SetHead) (entries : List IndexEntry) (pending : List ℕ) → Behind text head 0 false entries pending → length entries ≤ max_entries
entries-fit text head entries pending at =
    let old = at.spelled [] refl in
    omega (arith, old.1.count, ap (λ (l : List IndexEntry). length l) old.1.index_is ∙ length-index_from (length (head_text head)) old.0)

entry-step : (text : List ℕ) (byte : ℕ) (head : SetHead) (read : ℕ) (entries : List IndexEntry) (pending : List ℕ) (front : Front) (rest : List ℕ)
    → Holds text (behind head read 0 false entries pending) → pending ++ byte ∷ [] ≡ entry_front front.kind front.path front.mtime front.size
    → FrontIs (length entries) (last_path entries) (pending ++ byte ∷ []) front rest
    → Holds (text ++ byte ∷ []) (with_entry (with_byte (behind head read 0 false entries pending) byte) front)
entry-step text byte head read entries pending front rest holds is fits =
    let at = holds.stands.at in
    let now = spells-now text byte head entries pending at in
    let size : read + 1 ≡ length (text ++ byte ∷ []) = longer text byte read holds.stands.read in
    record {
      stands = record {
        read = size;
        at = record {
          allowed = at.allowed;
          spelled = λ missing left. (
            now.0 ++ saved_of front missing ∷ [],
            subst (λ (n : ℕ). Spells ((text ++ byte ∷ []) ++ missing) head (now.0 ++ saved_of front missing ∷ []) false (entries ++ entry_from n front ∷ []) []) (sym size)
                (spells-entry (text ++ byte ∷ []) head now.0 entries (pending ++ byte ∷ []) front rest missing now.1 fits is left),
          );
          whole = λ some. (refl, refl);
        };
      };
      bytes = IsBytes-none;
      waits = λ _. none-waits (entries ++ entry_from (read + 1) front ∷ []);
    }

-- the last byte so far of an entry or an end
rest-step : (test : Bool) (text : List ℕ) (byte : ℕ) (head : SetHead) (read : ℕ) (entries : List IndexEntry) (pending : List ℕ) (next : Reading)
    → begins_end (pending ++ byte ∷ []) ≡ test → Holds text (behind head read 0 false entries pending) → byte < 256
    → settle_by test (with_byte (behind head read 0 false entries pending) byte) ≡ Ok next → Holds (text ++ byte ∷ []) next
rest-step true text byte head read entries pending next ends holds small is =
    let now = with_byte (behind head read 0 false entries pending) byte in
    let waits = end-waits entries pending byte (holds.waits refl) ends in
    elim (settled-is (with_end now) now (end_at (length entries) (pending ++ byte ∷ [])) next is) [
      | inl found ↦
          subst (λ (r : Reading). Holds (text ++ byte ∷ []) r) (sym found.1.2)
          (end-step text byte head read entries pending found.0 holds
          (end-whole (length entries) pending byte found.0 found.1.0 (entries-fit text head entries pending holds.stands.at) (IsBytes-more pending byte holds.bytes small) waits found.1.1))
      | inr waiting ↦
          subst (λ (r : Reading). Holds (text ++ byte ∷ []) r) (sym waiting.1)
          (waiting-step text byte head read entries pending holds small (subst (λ (t : Bool). WaitsIf t entries (pending ++ byte ∷ [])) (sym ends) waiting.0))
    ]
rest-step false text byte head read entries pending next ends holds small is =
    let now = with_byte (behind head read 0 false entries pending) byte in
    let waits = front-waits entries pending byte (holds.waits refl) ends in
    elim (settled-is (with_entry now) now (front_at (length entries) (last_path entries) (pending ++ byte ∷ [])) next is) [
      | inl found ↦
          (let complete = front-whole (length entries) (last_path entries) pending byte found.0 found.1.0 (IsBytes-more pending byte holds.bytes small) waits found.1.1 in
          subst (λ (r : Reading). Holds (text ++ byte ∷ []) r) (sym found.1.2)
          (entry-step text byte head read entries pending found.0 found.1.0 holds complete.0 complete.1))
      | inr waiting ↦
          subst (λ (r : Reading). Holds (text ++ byte ∷ []) r) (sym waiting.1)
          (waiting-step text byte head read entries pending holds small (subst (λ (t : Bool). WaitsIf t entries (pending ++ byte ∷ [])) (sym ends) waiting.0))
    ]

behind-step : (text : List ℕ) (byte : ℕ) (head : SetHead) (read left : ℕ) (ended : Bool) (entries : List IndexEntry) (pending : List ℕ) (next : Reading)
    → Holds text (behind head read left ended entries pending) → byte < 256 → after_byte (behind head read left ended entries pending) byte ≡ Ok next → Holds (text ++ byte ∷ []) next
unfolding settle
behind-step text byte head read left true entries pending next holds small is = absurd (not-done _ next is)
behind-step text byte head read (suc left) false entries pending next holds small is =
    let reading = behind head read (suc left) false entries pending in
    let passes : passed 1 reading ≡ next = done-is _ next (sym (after-passed reading byte refl (lt-ltb 0 (suc left) (omega arith))) ∙ is) in
    subst (λ (r : Reading). Holds (text ++ byte ∷ []) r) passes (file-step text byte head read left entries pending holds)
behind-step text byte head read zero false entries pending next holds small is =
    rest-step (begins_end (pending ++ byte ∷ [])) text byte head read entries pending next refl holds small (sym (next-byte (behind head read 0 false entries pending) byte refl refl) ∙ is)

byte-step : (text : List ℕ) (byte read left : ℕ) (ended : Bool) (head : Option SetHead) (entries : List IndexEntry) (pending : List ℕ) (next : Reading)
    → Holds text (record { read = read; left = left; ended = ended; head = head; entries = entries; pending = pending }) → byte < 256
    → after_byte (record { read = read; left = left; ended = ended; head = head; entries = entries; pending = pending }) byte ≡ Ok next → Holds (text ++ byte ∷ []) next
byte-step text byte read left ended None entries pending next holds small is = head-step text byte read left ended entries pending next holds small is
byte-step text byte read left ended (Some head) entries pending next holds small is = behind-step text byte head read left ended entries pending next holds small is

-- ---- whole texts

then-is : (read : Result Reading StreamFault) (onward : Reading → Result Reading StreamFault) (next : Reading) → then_reads read onward ≡ Ok next
    → (mid : Reading) × (read ≡ Ok mid) × (onward mid ≡ Ok next)
then-is (Ok mid) onward next is = (mid, refl, is)
then-is (Err fault) onward next is = absurd (not-done fault next is)

pub reads-holds : (bytes text : List ℕ) (reading next : Reading) → Holds text reading → IsBytes bytes → reads reading bytes ≡ Ok next → Holds (text ++ bytes) next
reads-holds [] text reading next holds fit is =
    subst (λ (r : Reading). Holds (text ++ []) r) (done-is reading next is) (subst (λ (t : List ℕ). Holds t reading) (sym (append-nil text)) holds)
reads-holds (byte ∷ bytes) text reading next holds fit is =
    let step = then-is (after_byte reading byte) (λ now. reads now bytes) next is in
    let one = byte-step text byte reading.read reading.left reading.ended reading.head reading.entries reading.pending step.0 holds (fit 0) step.1 in
    subst (λ (t : List ℕ). Holds t next) (append_assoc text (byte ∷ []) bytes) (reads-holds bytes (text ++ byte ∷ []) step.0 next one (λ i. fit (suc i)) step.2)

pub start-holds : Holds [] start
unfolding head_at numbers_at given_byte_at
start-holds = record { stands = record { read = refl; at = record { bytes = refl; going = refl; none = (refl, refl) } }; bytes = IsBytes-none; waits = refl }

pub reads-stand : (text : List ℕ) (reading : Reading) → IsBytes text → reads start text ≡ Ok reading → Stands text reading
reads-stand text reading fit is = (reads-holds text [] start reading start-holds fit is).stands

pub head-holds : (head : SetHead) → IsHead head → Holds (head_text head) (behind_head (length (head_text head)) head)
head-holds head is = record {
  stands = record {
    read = refl;
    at = record {
      allowed = is;
      spelled = λ missing size. ([], head-spells (head_text head) missing head 0 false [] refl refl refl refl size);
      whole = λ some. absurd (omega arith);
    };
  };
  bytes = IsBytes-none;
  waits = λ _. none-waits [];
}

pub body-stands : (head : SetHead) (body : List ℕ) (reading : Reading) → IsHead head → IsBytes body → reads (behind_head (length (head_text head)) head) body ≡ Ok reading
    → Stands (head_text head ++ body) reading
body-stands head body reading allowed fit is = (reads-holds body (head_text head) (behind_head (length (head_text head)) head) reading (head-holds head allowed) fit is).stands
