-- What a reader has read is a stream so far.
use Rattle.std.proofs.Common.{◌≡◌, ℕ, ◌+◌, ◌≤◌, ◌⊎◌, Bool, true, false, List, [], ◌∷◌, ◌++◌, length, Option, Some, None, Result, Ok, Err, refl, sym, ap, subst, ◌∙◌, arith, inl, inr}
use Rattle.std.specs.Prelude.{replicate}
use Rattle.std.proofs.lemmas.List.{length-append, append-nil, length-replicate}
use Rattle.save_stream.specs.declared.entry.IndexEntry.{IndexEntry}
use Rattle.save_stream.specs.declared.fault.StreamFault.{StreamFault}
use Rattle.save_stream.specs.declared.fault.StreamFault.TheVariants as faults
use Rattle.save_stream.specs.declared.head.SetHead.{SetHead}
use Rattle.save_stream.specs.BadField.{HasBadField, HasEntryTooMany}
use Rattle.save_stream.specs.Fields.{IsIndex}
use Rattle.save_stream.specs.declared.stop.Stop.TheVariants as stops
use Rattle.save_stream.specs.Items.{Head, Entry, End, as_item, rest_at, item_at, IsWaiting}
use Rattle.save_stream.specs.Spelling.{IsHead, Saved, Ascend, PathsAscendFrom, PathsAscend, max_entries, max_size, head_text, entry_text, index_from}
use Rattle.save_stream.specs.Reading.{Reading, start, behind_head, reads, then_reads, begins_end}
use Rattle.save_stream.specs.Standing.{AreBytes, WaitsIf, WaitsAt, IsAllowed, IsWhole, StandsAt, Stands, IsStreamSoFar}
use Rattle.save_stream.proofs.Faults.{HasFault, has-fault}
use Rattle.save_stream.proofs.Fields.{has-read}
use Rattle.save_stream.proofs.Lengths.{length-head_text}
use Rattle.save_stream.proofs.OneSpelling.{reads-append}
use Rattle.save_stream.proofs.Steps.{done, not-done, start-holds, head-holds, reads-holds, reads-stand}
use Rattle.save_stream.proofs.Stopping.{bad-is-fault, many-is-fault}
use Rattle.save_stream.proofs.Streams.{stream-is-read}
use Rattle.save_stream.proofs.Whole.{reads-head, length-index_from}

-- ---- texts that are allowed

front-of-read : (text more : List ℕ) (read : Result Reading StreamFault) (last : Reading) → reads start text ≡ read → then_reads read (λ next. reads next more) ≡ done last
    → IsAllowed text
front-of-read text more (Ok reading) last is onward = (reading, is)
front-of-read text more (Err fault) last is onward = absurd (not-done fault last onward)

pub front-allowed : (text more : List ℕ) → IsAllowed (text ++ more) → IsAllowed text
front-allowed text more allowed = front-of-read text more (reads start text) allowed.0 refl (sym (reads-append text start more) ∙ allowed.1)

pub stream-allowed : (text more : List ℕ) → IsWhole (text ++ more) → IsAllowed text
stream-allowed text more whole = front-allowed text more (_, stream-is-read (text ++ more) whole.0 whole.1.0 whole.1.1)

pub allowed-stands : (text : List ℕ) → AreBytes text → IsAllowed text → (reading : Reading) × (reads start text ≡ Ok reading) × Stands text reading
allowed-stands text fit allowed = (allowed.0, allowed.1, reads-stand text allowed.0 fit allowed.1)

pub bad-not-allowed : (text : List ℕ) (offset : ℕ) → HasBadField text offset → IsAllowed text → ⊥
bad-not-allowed text offset has allowed = not-done (faults.Bad offset) allowed.0 (sym (bad-is-fault text offset has) ∙ allowed.1)

pub many-not-allowed : (text : List ℕ) (offset : ℕ) → HasEntryTooMany text offset → IsAllowed text → ⊥
many-not-allowed text offset has allowed = not-done (faults.TooMany max_entries) allowed.0 (sym (many-is-fault text max_entries offset refl has) ∙ allowed.1)

-- a text is allowed, or has a first field that isn't, or an entry too many
abbrev Judged : List ℕ → Type 0
Judged text = IsAllowed text ⊎ ((offset : ℕ) × (HasBadField text offset ⊎ HasEntryTooMany text offset))

fault-judged : (text : List ℕ) (fault : StreamFault) → HasFault text fault → Judged text
fault-judged text (faults.Bad offset) has = inr (offset, inl has)
fault-judged text (faults.TooMany limit) has = inr (has.1.0, inr has.1.1)
fault-judged text faults.Memory has = absurd has

read-judged : (text : List ℕ) (read : Result Reading StreamFault) → reads start text ≡ read → Judged text
read-judged text (Ok reading) is = inl (reading, is)
read-judged text (Err fault) is = fault-judged text fault (has-fault text fault is)

pub each-judged : (text : List ℕ) → IsAllowed text ⊎ ((offset : ℕ) × (HasBadField text offset ⊎ HasEntryTooMany text offset))
each-judged text = read-judged text (reads start text) refl

-- ---- what a reader has read

pub start-so-far : IsStreamSoFar start
start-so-far = ([], record { read = refl; holds = start-holds; size = omega arith })

pub head-so-far : (head : SetHead) → IsHead head → IsStreamSoFar (behind_head (length (head_text head)) head)
head-so-far head allowed = (
  head_text head,
  record {
    read = ap (reads start) (sym (append-nil (head_text head))) ∙ reads-head head [] allowed;
    holds = head-holds head allowed;
    size = omega (arith, length-head_text head, allowed.client.0.1, allowed.set.0.1, allowed.group.0, allowed.pool.0.1);
  },
)

pub piece-so-far : (old new : Reading) (piece : List ℕ) → IsStreamSoFar old → AreBytes piece → old.read + length piece ≤ max_size → reads old piece ≡ Ok new
    → IsStreamSoFar new
piece-so-far old new piece is fit room read = (
  is.0 ++ piece,
  record {
    read = reads-append is.0 start piece ∙ ap (λ (r : Result Reading StreamFault). then_reads r (λ next. reads next piece)) is.1.read ∙ read;
    holds = reads-holds piece is.0 old new is.1.holds fit read;
    size = omega (arith, room, is.1.holds.stands.read, length-append is.0 piece);
  },
)

-- ---- the order of its entries

pub index-ascends : (last : List ℕ) (at : ℕ) (entries : List Saved) → Ascend last entries → PathsAscendFrom last (index_from at entries)
index-ascends last at [] order = tt
index-ascends last at (entry ∷ entries) order = (order.0, index-ascends entry.path (at + length (entry_text entry)) entries order.1)

from-low : (low : List ℕ) (entries : List IndexEntry) → PathsAscendFrom low entries → PathsAscend entries
from-low low [] order = tt
from-low low (entry ∷ entries) order = order.1

ascends-at : (head : Option SetHead) (text : List ℕ) (reading : Reading) → StandsAt head text reading → PathsAscend reading.entries
ascends-at None text reading at = subst PathsAscend (sym at.none.1) tt
ascends-at (Some head) text reading at =
    let spelled = at.spelled (replicate reading.left 0) (length-replicate reading.left 0) in
    subst PathsAscend (sym spelled.1.index_is)
    (from-low [] _ (index-ascends [] (length (head_text head)) spelled.0 spelled.1.order))

pub stands-ascend : (text : List ℕ) (reading : Reading) → Stands text reading → PathsAscend reading.entries
stands-ascend text reading stands = ascends-at reading.head text reading stands.at

pub so-far-ascend : (reading : Reading) → IsStreamSoFar reading → PathsAscend reading.entries
so-far-ascend reading is = stands-ascend is.0 reading is.1.holds.stands

pub ended-index : (reading : Reading) → IsStreamSoFar reading → reading.ended ≡ true → IsIndex reading.entries
ended-index reading is ended =
    let has = has-read is.0 reading is.1.holds.stands ended is.1.size in
    (is.0, (has.0, (has.1.0, has.1.1.spelled, has.1.1.index_is)))

-- ---- what is pending

rest-item-waits : (test : Bool) (entries : List IndexEntry) (pending : List ℕ) → WaitsIf test entries pending → rest_at test entries pending ≡ Err stops.More
rest-item-waits true entries pending waits = ap (as_item End) waits
rest-item-waits false entries pending waits = ap (as_item Entry) waits

item-waits-at : (head : Option SetHead) (reading : Reading) → WaitsAt head reading → reading.ended ≡ false → item_at head reading.entries reading.pending ≡ Err stops.More
item-waits-at None reading waits going = ap (as_item Head) waits
item-waits-at (Some head) reading waits going = rest-item-waits (begins_end reading.pending) reading.entries reading.pending (waits going)

count-at : (head : Option SetHead) (text : List ℕ) (reading : Reading) → StandsAt head text reading → length reading.entries ≤ max_entries
count-at None text reading at = omega (arith, ap (λ (es : List IndexEntry). length es) at.none.1)
count-at (Some head) text reading at =
    let spelled = at.spelled (replicate reading.left 0) (length-replicate reading.left 0) in
    omega (
      arith,
      spelled.1.count,
      ap (λ (es : List IndexEntry). length es) spelled.1.index_is,
      length-index_from (length (head_text head)) spelled.0,
    )

pub so-far-waits : (reading : Reading) → IsStreamSoFar reading → IsWaiting reading
so-far-waits reading is = record {
  waits = item-waits-at reading.head reading is.1.holds.waits;
  bytes = is.1.holds.bytes;
  count = count-at reading.head is.0 reading is.1.holds.stands.at;
}
