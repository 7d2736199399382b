-- The laws of streams.
use Rattle.std.proofs.Common.{◌≡◌, ℕ, zero, suc, ◌+◌, ◌≤◌, Bool, true, false, List, [], ◌∷◌, ◌++◌, length, take, drop, Option, Some, None, Result, Ok, Err, refl, sym, ap, subst, ◌∙◌, append_assoc, arith}
use Rattle.std.specs.List.{flat_map, AllByRecursion}
use Rattle.std.proofs.lemmas.Grind.{flat_map-append}
use Rattle.std.proofs.lemmas.List.{length-append, append-nil, take_at, drop_at}
use Rattle.save_stream.specs.declared.entry.EntryKind.{EntryKind}
use Rattle.save_stream.specs.declared.entry.EntryKind.TheVariants as kinds
use Rattle.save_stream.specs.declared.entry.IndexEntry.{IndexEntry}
use Rattle.save_stream.specs.declared.fault.StreamFault.{StreamFault}
use Rattle.save_stream.specs.declared.head.SetHead.{SetHead}
use Rattle.save_stream.specs.Spelling.{Saved, IsSaved, HasFields, IsStream, StreamText, max_size, head_text, entry_front, entry_text, end_text, stream_text, index_entry, index_from, index_of, place_of, file_bytes}
use Rattle.save_stream.specs.Reading.{Reading, at_end, start, then_reads, reads}
use Rattle.save_stream.specs.Standing.{Behind, StandsAt, Stands, IsWhole}
use Rattle.save_stream.proofs.OneSpelling.{reads-append, reads-whole}
use Rattle.save_stream.proofs.Steps.{not-done}

pub true-not-false : true ≡ false → ⊥
true-not-false is = cc

-- ---- the index

pub index-split : (before after : List Saved) (entry : Saved) (at : ℕ)
    → index_from at (before ++ entry ∷ after)
    ≡ index_from at before ++ index_entry (at + length (flat_map entry_text before)) entry ∷ index_from (at + length (flat_map entry_text before) + length (entry_text entry)) after
index-split [] after entry at = ap (λ (n : ℕ). index_entry n entry ∷ index_from (n + length (entry_text entry)) after) (omega arith)
index-split (first ∷ before) after entry at =
    let next = at + length (entry_text first) in
    ap (λ (es : List IndexEntry). index_entry at first ∷ es)
    (index-split before after entry next
    ∙ ap (λ (n : ℕ). index_from next before ++ index_entry n entry ∷ index_from (n + length (entry_text entry)) after)
    (omega (arith, length-append (entry_text first) (flat_map entry_text before))))

each-at : (before after : List Saved) (entry : Saved) → AllByRecursion IsSaved (before ++ entry ∷ after) → IsSaved entry
each-at [] after entry each = each.0
each-at (first ∷ before) after entry each = each-at before after entry each.1

-- a file's bytes stand behind so many
at-place : (front bytes rest : List ℕ) (place : ℕ) → length front ≡ place → take (length bytes) (drop place (front ++ (bytes ++ rest))) ≡ bytes
at-place front bytes rest place is = ap (take (length bytes)) (drop_at front (bytes ++ rest) place is) ∙ take_at bytes rest (length bytes) refl

kind-bytes : (kind : EntryKind) (mtime place : ℕ) (bytes front rest : List ℕ) → HasFields kind mtime bytes → length front ≡ place
    → take (length bytes) (drop (place_of kind place) (front ++ (bytes ++ rest))) ≡ bytes
kind-bytes kinds.File mtime place bytes front rest fields is = at-place front bytes rest place is
kind-bytes kinds.Folder mtime place bytes front rest fields is = rw (fields.1) refl
kind-bytes kinds.Gone mtime place bytes front rest fields is = rw (fields.1) refl

regrouped : (head before front bytes after end : List ℕ) → head ++ ((before ++ ((front ++ bytes) ++ after)) ++ end) ≡ ((head ++ before) ++ front) ++ (bytes ++ (after ++ end))
regrouped head before front bytes after end = simp append_assoc

pub file-placed : (head : SetHead) (before after : List Saved) (entry : Saved) → IsStream head (before ++ entry ∷ after)
    → file_bytes (stream_text head (before ++ entry ∷ after)) (index_entry (length (head_text head) + length (flat_map entry_text before)) entry) ≡ entry.bytes
file-placed head before after entry is =
    let texts = flat_map entry_text before in
    let front = entry_front entry.kind entry.path entry.mtime (length entry.bytes) in
    let at = length (head_text head) + length texts in
    let end = end_text (length (before ++ entry ∷ after)) in
    let text : stream_text head (before ++ entry ∷ after) ≡ ((head_text head ++ texts) ++ front) ++ (entry.bytes ++ (flat_map entry_text after ++ end)) =
    ap (λ (t : List ℕ). head_text head ++ (t ++ end)) (flat_map-append entry_text before (entry ∷ after))
    ∙ regrouped (head_text head) texts front entry.bytes (flat_map entry_text after) end in
    let saved = each-at before after entry is.each in
    ap (λ (t : List ℕ). take (length entry.bytes) (drop (place_of entry.kind (at + length front)) t)) text
    ∙ kind-bytes entry.kind entry.mtime (at + length front) entry.bytes ((head_text head ++ texts) ++ front) (flat_map entry_text after ++ end) saved.fields
    (omega (arith, length-append (head_text head ++ texts) front, length-append (head_text head) texts))

-- ---- reading

pub stream-is-read : (text : List ℕ) (head : SetHead) (entries : List Saved) → StreamText text head entries
    → reads start text ≡ Ok (at_end head (length text) (index_of head entries))
stream-is-read text head entries is =
    subst (λ (t : List ℕ). reads start t ≡ Ok (at_end head (length t) (index_of head entries))) (sym is.1) (reads-whole head entries is.0)

pub fault-begins-none : (text more : List ℕ) (fault : StreamFault) → reads start text ≡ Err fault → ¬ (IsWhole (text ++ more))
fault-begins-none text more fault is whole =
    not-done fault _
    (sym (reads-append text start more ∙ ap (λ (r : Result Reading StreamFault). then_reads r (λ next. reads next more)) is)
    ∙ stream-is-read (text ++ more) whole.0 whole.1.0 whole.1.1)

ended-whole : (text : List ℕ) (head : SetHead) (left : ℕ) (index : List IndexEntry) (pending : List ℕ) → length text ≤ max_size → Behind text head left true index pending → IsWhole text
ended-whole text head (suc left) index pending size at = absurd (true-not-false (at.whole (omega arith)).1)
ended-whole text head zero index pending size at =
    let old = at.spelled [] refl in
    let is : text ≡ stream_text head old.0 = sym (append-nil text) ∙ old.1.parts in
    (head, (old.0, (record { allowed = at.allowed; each = old.1.each; order = old.1.order; count = old.1.count; size = omega (arith, size, ap (λ (t : List ℕ). length t) is) }, is)))

ended-is : (text : List ℕ) (head : Option SetHead) (read left : ℕ) (ended : Bool) (index : List IndexEntry) (pending : List ℕ) → length text ≤ max_size
    → StandsAt head text (record { read = read; left = left; ended = ended; head = head; entries = index; pending = pending }) → ended ≡ true → IsWhole text
ended-is text None read left ended index pending size at is = absurd (true-not-false (sym is ∙ at.going))
ended-is text (Some head) read left false index pending size at is = absurd (true-not-false (sym is))
ended-is text (Some head) read left true index pending size at is = ended-whole text head left index pending size at

pub ended-is-whole : (text : List ℕ) (reading : Reading) → Stands text reading → reading.ended ≡ true → length text ≤ max_size → IsWhole text
ended-is-whole text reading stands ended size =
    ended-is text reading.head reading.read reading.left reading.ended reading.entries reading.pending size stands.at ended
