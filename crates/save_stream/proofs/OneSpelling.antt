-- A head and entries have one spelling, and no spelling begins another.
use Rattle.std.proofs.Common.{◌≡◌, ℕ, ◌+◌, List, [], ◌∷◌, ◌++◌, length, take, drop, Option, Some, Result, Ok, Err, refl, sym, ap, ◌∙◌, append_assoc, arith}
use Rattle.std.specs.List.{flat_map}
use Rattle.std.proofs.lemmas.List.{append-nil, append_cancel_left, take_at, drop_at}
use Rattle.save_stream.specs.declared.entry.EntryKind.{EntryKind}
use Rattle.save_stream.specs.declared.entry.IndexEntry.{IndexEntry}
use Rattle.save_stream.specs.declared.fault.StreamFault.{StreamFault}
use Rattle.save_stream.specs.declared.fault.StreamFault.TheVariants as faults
use Rattle.save_stream.specs.declared.head.SetHead.{SetHead}
use Rattle.save_stream.specs.Spelling.{IsStream, Saved, head_text, entry_front, entry_text, end_text, body_text, stream_text, index_entry, index_from}
use Rattle.save_stream.specs.Reading.{Reading, start, at_end, then_reads, after_byte, reads, reads_all}
use Rattle.save_stream.proofs.Whole.{reads-stream}

-- ---- pieces

pub then_reads-then : (read : Result Reading StreamFault) (one other : Reading → Result Reading StreamFault)
    → then_reads (then_reads read one) other ≡ then_reads read (λ next. then_reads (one next) other)
then_reads-then (Ok reading) one other = refl
then_reads-then (Err fault) one other = refl

then_reads-same : (read : Result Reading StreamFault) (one other : Reading → Result Reading StreamFault) → ((next : Reading) → one next ≡ other next)
    → then_reads read one ≡ then_reads read other
then_reads-same (Ok reading) one other same = same reading
then_reads-same (Err fault) one other same = refl

pub reads-append : (bytes : List ℕ) (reading : Reading) (more : List ℕ) → reads reading (bytes ++ more) ≡ then_reads (reads reading bytes) (λ next. reads next more)
reads-append [] reading more = refl
reads-append (byte ∷ bytes) reading more =
    then_reads-same (after_byte reading byte) _ _ (λ next. reads-append bytes next more)
    ∙ sym (then_reads-then (after_byte reading byte) (λ next. reads next bytes) (λ next. reads next more))

pub reads-pieces : (pieces : List (List ℕ)) (reading : Reading) → reads_all reading pieces ≡ reads reading (flat_map (λ (piece : List ℕ). piece) pieces)
reads-pieces [] reading = refl
reads-pieces (piece ∷ pieces) reading =
    then_reads-same (reads reading piece) _ _ (λ next. reads-pieces pieces next)
    ∙ sym (reads-append piece reading (flat_map (λ (piece : List ℕ). piece) pieces))

-- ---- spellings

pub reads-whole : (head : SetHead) (entries : List Saved) → IsStream head entries
    → reads start (stream_text head entries) ≡ Ok (at_end head (length (stream_text head entries)) (index_from (length (head_text head)) entries))
reads-whole head entries is = ap (reads start) (sym (append-nil (stream_text head entries))) ∙ reads-stream head entries [] is

-- what is read, or nothing
reading_in : Result Reading StreamFault → Reading
reading_in (Ok reading) = reading
reading_in (Err fault) = start

offset_in : Result Reading StreamFault → ℕ
offset_in (Ok reading) = 0
offset_in (Err (faults.Bad offset)) = offset
offset_in (Err (faults.TooMany limit)) = 0
offset_in (Err faults.Memory) = 0

abbrev done : Reading → Result Reading StreamFault
done reading = Ok reading

abbrev failed : StreamFault → Result Reading StreamFault
failed fault = Err fault

ok-is-no-err : (reading : Reading) (fault : StreamFault) → done reading ≡ failed fault → ⊥
ok-is-no-err reading fault is = cc

abbrev some : SetHead → Option SetHead
some head = Some head

abbrev saved : EntryKind → List ℕ → ℕ → List ℕ → Saved
saved kind path mtime bytes = record { kind = kind; path = path; mtime = mtime; bytes = bytes }

same-front : {A : Type 0} (one other more rest : List A) → length one ≡ length other → one ++ more ≡ other ++ rest → (one ≡ other) × (more ≡ rest)
same-front one other more rest size is = (
  sym (take_at one more (length one) refl) ∙ ap (take (length one)) is ∙ take_at other rest (length one) (sym size),
  sym (drop_at one more (length one) refl) ∙ ap (drop (length one)) is ∙ drop_at other rest (length one) (sym size),
)

-- behind an end nothing is read
same-length : (head other : SetHead) (one two : ℕ) (entries others : List IndexEntry) (more rest : List ℕ)
    → reads (at_end head one entries) more ≡ reads (at_end other two others) rest → one ≡ two
unfolding reading_in offset_in
same-length head other one two entries others [] [] is = ap (λ (r : Result Reading StreamFault). (reading_in r).read) is
same-length head other one two entries others [] (byte ∷ rest) is = absurd (ok-is-no-err _ _ is)
same-length head other one two entries others (byte ∷ more) [] is = absurd (ok-is-no-err _ _ (sym is))
same-length head other one two entries others (byte ∷ more) (next ∷ rest) is = ap offset_in is

saved-is : (kind kinds : EntryKind) (path paths : List ℕ) (mtime mtimes : ℕ) (bytes others : List ℕ) → kind ≡ kinds → path ≡ paths → mtime ≡ mtimes → bytes ≡ others
    → saved kind path mtime bytes ≡ saved kinds paths mtimes others
saved-is kind kinds path paths mtime mtimes bytes others first second third fourth = rw (first, second, third, fourth) refl

front-is : (kind kinds : EntryKind) (path paths : List ℕ) (mtime mtimes size sizes : ℕ) → kind ≡ kinds → path ≡ paths → mtime ≡ mtimes → size ≡ sizes
    → entry_front kind path mtime size ≡ entry_front kinds paths mtimes sizes
front-is kind kinds path paths mtime mtimes size sizes first second third fourth = rw (first, second, third, fourth) refl

-- two entries at one place that the index has alike
entry-is : (at : ℕ) (one other : Saved) (more rest : List ℕ) → index_entry at one ≡ index_entry at other → entry_text one ++ more ≡ entry_text other ++ rest
    → (one ≡ other) × (more ≡ rest)
entry-is at one other more rest index texts =
    let kind : one.kind ≡ other.kind = ap (λ (e : IndexEntry). e.kind) index in
    let path : one.path ≡ other.path = ap (λ (e : IndexEntry). e.path) index in
    let mtime : one.mtime ≡ other.mtime = ap (λ (e : IndexEntry). e.mtime) index in
    let size : length one.bytes ≡ length other.bytes = ap (λ (e : IndexEntry). e.size) index in
    let front = entry_front one.kind one.path one.mtime (length one.bytes) in
    let fronts : front ≡ entry_front other.kind other.path other.mtime (length other.bytes) = front-is _ _ _ _ _ _ _ _ kind path mtime size in
    let behind = append_cancel_left front (one.bytes ++ more) (other.bytes ++ rest)
    (sym (append_assoc front one.bytes more) ∙ texts ∙ append_assoc _ other.bytes rest ∙ ap (λ (f : List ℕ). f ++ (other.bytes ++ rest)) (sym fronts)) in
    let both = same-front one.bytes other.bytes more rest size behind in
    (saved-is one.kind other.kind one.path other.path one.mtime other.mtime one.bytes other.bytes kind path mtime both.0, both.1)

first_of : IndexEntry → List IndexEntry → IndexEntry
first_of other [] = other
first_of other (entry ∷ entries) = entry

entries-are : (entries others : List Saved) (at : ℕ) (more rest : List ℕ) → index_from at entries ≡ index_from at others
    → flat_map entry_text entries ++ more ≡ flat_map entry_text others ++ rest → entries ≡ others
unfolding first_of
entries-are [] [] at more rest index texts = refl
entries-are [] (other ∷ others) at more rest index texts = absurd (omega (arith, ap (λ (l : List IndexEntry). length l) index))
entries-are (entry ∷ entries) [] at more rest index texts = absurd (omega (arith, ap (λ (l : List IndexEntry). length l) index))
entries-are (entry ∷ entries) (other ∷ others) at more rest index texts =
    let one = entry-is at entry other (flat_map entry_text entries ++ more) (flat_map entry_text others ++ rest)
    (ap (first_of (index_entry at entry)) index)
    (sym (append_assoc (entry_text entry) (flat_map entry_text entries) more) ∙ texts ∙ append_assoc (entry_text other) (flat_map entry_text others) rest) in
    let behind : index_from (at + length (entry_text entry)) entries ≡ index_from (at + length (entry_text entry)) others =
    ap (drop 1) index ∙ ap (λ (e : Saved). index_from (at + length (entry_text e)) others) (sym one.0) in
    let more-are = entries-are entries others (at + length (entry_text entry)) more rest behind one.1 in
    ap (λ (e : Saved). e ∷ entries) one.0 ∙ ap (λ (es : List Saved). other ∷ es) more-are

some-is : (head other : SetHead) → some head ≡ some other → head ≡ other
some-is head other is = cc

pub one-spelling : (head other : SetHead) (entries others : List Saved) (more rest : List ℕ) → IsStream head entries → IsStream other others
    → stream_text head entries ++ more ≡ stream_text other others ++ rest → (head ≡ other) × (entries ≡ others) × (more ≡ rest)
unfolding reading_in
one-spelling head other entries others more rest one two is =
    let text = stream_text head entries in
    let next = stream_text other others in
    let size : length text ≡ length next = same-length head other (length text) (length next) _ _ more rest
    (sym (reads-stream head entries more one) ∙ ap (reads start) is ∙ reads-stream other others rest two) in
    let parts = same-front text next more rest size is in
    let same : done (at_end head (length text) (index_from (length (head_text head)) entries)) ≡ done (at_end other (length next) (index_from (length (head_text other)) others)) =
    sym (reads-whole head entries one) ∙ ap (reads start) parts.0 ∙ reads-whole other others two in
    let heads : head ≡ other = some-is head other (ap (λ (r : Result Reading StreamFault). (reading_in r).head) same) in
    let index : index_from (length (head_text head)) entries ≡ index_from (length (head_text head)) others =
    ap (λ (r : Result Reading StreamFault). (reading_in r).entries) same ∙ ap (λ (h : SetHead). index_from (length (head_text h)) others) (sym heads) in
    let bodies : body_text entries ≡ body_text others =
    append_cancel_left (head_text head) (body_text entries) (body_text others) (parts.0 ∙ ap (λ (h : SetHead). head_text h ++ body_text others) (sym heads)) in
    (heads, entries-are entries others (length (head_text head)) (end_text (length entries)) (end_text (length others)) index bodies, parts.1)
