-- A stream that is spelled as the grammar says is read, with its fields.
use Rattle.std.proofs.Common.{◌≡◌, ℕ, suc, ◌+◌, ◌-◌, ◌≤◌, ◌<◌, Bool, false, cond, nat_lt, List, [], ◌∷◌, ◌++◌, length, drop, Result, Ok, Err, refl, sym, ap, subst, ◌∙◌, append_assoc, arith}
use Rattle.std.specs.List.{flat_map, AllByRecursion}
use Rattle.std.proofs.lemmas.Bool.{le-ltb}
use Rattle.std.proofs.lemmas.List.{length-append, append-nil, drop_at}
use Rattle.save_stream.specs.declared.entry.EntryKind.{EntryKind}
use Rattle.save_stream.specs.declared.entry.EntryKind.TheVariants as kinds
use Rattle.save_stream.specs.declared.entry.IndexEntry.{IndexEntry}
use Rattle.save_stream.specs.declared.fault.StreamFault.{StreamFault}
use Rattle.save_stream.specs.declared.head.SetHead.{SetHead}
use Rattle.save_stream.specs.declared.stop.Stop.TheVariants as stops
use Rattle.save_stream.specs.Spelling.{max_entries, IsHead, Saved, IsSaved, HasFields, Ascend, IsBelow, IsStream, head_text, entry_front, entry_text, end_text, body_text, stream_text, index_entry, index_from}
use Rattle.save_stream.specs.Reading.{Part, Reading, Front, start, behind_head, read_alone, settled, settle, with_head, with_entry, with_end, between, at_end, last_path, with_byte, passed, after_byte, then_reads, reads, head_at, front_at, end_at}
use Rattle.save_stream.proofs.Again.{FitsKind, head-again, front-again, end-again}
use Rattle.save_stream.proofs.Growing.{Extends, Grows, head-grows, front-grows, end-grows}
use Rattle.save_stream.proofs.Taking.{reads-passed}

-- ---- one head, entry or end

rest_of : {X : Type 0} → Part X → List ℕ
rest_of (Ok x) = x.1
rest_of (Err stop) = []

waits_from : {X : Type 0} (more : List ℕ) (part longer : Part X) (x : X) → Extends more part longer → longer ≡ Ok (x, []) → 0 < length more → part ≡ Err stops.More
unfolding rest_of
waits_from {X = X} more (Ok y) longer x is whole some =
    let none : y.1 ++ more ≡ [] = ap (λ (p : Part X). rest_of p) (sym is ∙ whole) in
    absurd (omega (arith, length-append y.1 more, ap (λ (l : List ℕ). length l) none))
waits_from more (Err stops.More) longer x is whole some = refl
waits_from more (Err (stops.Wrong behind)) longer x is whole some = absurd cc
waits_from more (Err stops.Full) longer x is whole some = absurd cc
waits_from more (Err stops.Memory) longer x is whole some = absurd cc

-- the bytes before the last of what is read as a whole
waits : {X : Type 0} (parse : List ℕ → Part X) (bytes more : List ℕ) (x : X) → Grows parse → parse (bytes ++ more) ≡ Ok (x, []) → 0 < length more → parse bytes ≡ Err stops.More
waits parse bytes more x grows whole some = waits_from more (parse bytes) (parse (bytes ++ more)) x (grows bytes more).extends whole some

-- a reading with pending bytes
abbrev pub held : Reading → List ℕ → Reading
held base pending = record base { read = base.read + length pending; pending = pending }

pub held-more : (base : Reading) (pending : List ℕ) (byte : ℕ) → with_byte (held base pending) byte ≡ held base (pending ++ byte ∷ [])
held-more base pending byte =
    ap (λ (n : ℕ). record base { read = n; pending = pending ++ byte ∷ [] }) (omega (arith, length-append pending (byte ∷ [])))

-- pending bytes that begin with this one are read by a parser
pub record Settles {X : Type 0} (base : Reading) (first : ℕ) (parse : List ℕ → Part X) (done : Reading → X → Reading) : Type 0 where
  pub going : base.ended ≡ false
  pub left : base.left ≡ 0
  pub none : base.pending ≡ []
  pub grows : Grows parse
  pub settles : (pending : List ℕ) → settle (held base (first ∷ pending)) ≡ settled (done (held base (first ∷ pending))) (held base (first ∷ pending)) (read_alone (parse (first ∷ pending)))

unread : {A : Type 0} (ended some : Bool) (x y z : A) → ended ≡ false → some ≡ false → cond ended x (cond some y z) ≡ z
unread ended some x y z first second = rw (first, second) refl

pub next-byte : (reading : Reading) (byte : ℕ) → reading.ended ≡ false → reading.left ≡ 0 → after_byte reading byte ≡ settle (with_byte reading byte)
next-byte reading byte going left = unread reading.ended (nat_lt 0 reading.left) _ _ _ going (le-ltb 0 reading.left (omega arith))

settle-on : {X : Type 0} (base : Reading) (first : ℕ) (parse : List ℕ → Part X) (done : Reading → X → Reading) (is : Settles base first parse done)
    (more pending rest : List ℕ) (x : X) → parse (first ∷ (pending ++ more)) ≡ Ok (x, [])
    → then_reads (settle (held base (first ∷ pending))) (λ next. reads next (more ++ rest)) ≡ reads (done (held base (first ∷ (pending ++ more))) x) rest
settle-on {X = X} base first parse done is [] pending rest x whole =
    let all : pending ++ [] ≡ pending = append-nil pending in
    let here : parse (first ∷ pending) ≡ Ok (x, []) = ap (λ (p : List ℕ). parse (first ∷ p)) (sym all) ∙ whole in
    let now = held base (first ∷ pending) in
    ap (λ (r : Result Reading StreamFault). then_reads r (λ next. reads next rest))
    (is.settles pending ∙ ap (λ (p : Part X). settled (done now) now (read_alone p)) here)
    ∙ ap (λ (p : List ℕ). reads (done (held base (first ∷ p)) x) rest) (sym all)
settle-on {X = X} base first parse done is (byte ∷ more) pending rest x whole =
    let now = held base (first ∷ pending) in
    let here : parse (first ∷ pending) ≡ Err stops.More = waits parse (first ∷ pending) (byte ∷ more) x is.grows whole (omega arith) in
    let group : (pending ++ byte ∷ []) ++ more ≡ pending ++ byte ∷ more = append_assoc pending (byte ∷ []) more in
    let onward = λ (r : Result Reading StreamFault). then_reads r (λ next. reads next (more ++ rest)) in
    ap (λ (r : Result Reading StreamFault). then_reads r (λ next. reads next (byte ∷ (more ++ rest))))
    (is.settles pending ∙ ap (λ (p : Part X). settled (done now) now (read_alone p)) here)
    ∙ ap onward (next-byte now byte is.going is.left ∙ ap settle (held-more base (first ∷ pending) byte))
    ∙ settle-on base first parse done is more (pending ++ byte ∷ []) rest x (ap (λ (p : List ℕ). parse (first ∷ p)) group ∙ whole)
    ∙ ap (λ (p : List ℕ). reads (done (held base (first ∷ p)) x) rest) group

reads-item : {X : Type 0} (base : Reading) (first : ℕ) (parse : List ℕ → Part X) (done : Reading → X → Reading) (is : Settles base first parse done)
    (more rest : List ℕ) (x : X) → parse (first ∷ more) ≡ Ok (x, []) → reads base (first ∷ (more ++ rest)) ≡ reads (done (held base (first ∷ more)) x) rest
reads-item base first parse done is more rest x whole =
    ap (λ (r : Result Reading StreamFault). then_reads r (λ next. reads next (more ++ rest)))
    (next-byte base first is.going is.left ∙ ap (λ (p : List ℕ). settle (record base { read = base.read + 1; pending = p ++ first ∷ [] })) is.none)
    ∙ settle-on base first parse done is more [] rest x whole

-- ---- the head

head-settles : Settles start 0x48 head_at with_head
unfolding settle
head-settles = record { going = refl; left = refl; none = refl; grows = head-grows; settles = λ pending. refl }

pub reads-head : (head : SetHead) (rest : List ℕ) → IsHead head → reads start (head_text head ++ rest) ≡ reads (behind_head (length (head_text head)) head) rest
reads-head head rest is =
    let whole : head_at (head_text head) ≡ Ok (head, []) = ap head_at (sym (append-nil (head_text head))) ∙ head-again head [] is in
    reads-item start 0x48 head_at with_head head-settles (drop 1 (head_text head)) rest head whole
    ∙ ap (λ (n : ℕ). reads (behind_head n head) rest) (omega arith)

-- ---- entries

pub last_path-append : (entries : List IndexEntry) (entry : IndexEntry) → last_path (entries ++ entry ∷ []) ≡ entry.path
last_path-append [] entry = refl
last_path-append (only ∷ []) entry = refl
last_path-append (first ∷ next ∷ entries) entry = last_path-append (next ∷ entries) entry

-- the marks of entries
byte_of_kind : EntryKind → ℕ
byte_of_kind kinds.File = 0x46
byte_of_kind kinds.Folder = 0x44
byte_of_kind kinds.Gone = 0x47

entry-settles : (head : SetHead) (read : ℕ) (entries : List IndexEntry) (kind : EntryKind)
    → Settles (between head read entries) (byte_of_kind kind) (front_at (length entries) (last_path entries)) with_entry
unfolding settle byte_of_kind
entry-settles head read entries kinds.File = record { going = refl; left = refl; none = refl; grows = front-grows (length entries) (last_path entries); settles = λ pending. refl }
entry-settles head read entries kinds.Folder = record { going = refl; left = refl; none = refl; grows = front-grows (length entries) (last_path entries); settles = λ pending. refl }
entry-settles head read entries kinds.Gone = record { going = refl; left = refl; none = refl; grows = front-grows (length entries) (last_path entries); settles = λ pending. refl }

-- behind the fields of an entry
behind_front : SetHead → ℕ → List IndexEntry → Front → ℕ → Reading
behind_front head read entries front size = with_entry (held (between head read entries) (entry_front front.kind front.path front.mtime front.size)) front

front_of : Saved → Front
front_of entry = record { kind = entry.kind; path = entry.path; mtime = entry.mtime; size = length entry.bytes }

reads-front : (head : SetHead) (read : ℕ) (entries : List IndexEntry) (kind : EntryKind) (path : List ℕ) (mtime size : ℕ) (rest : List ℕ)
    → front_at (length entries) (last_path entries) (entry_front kind path mtime size) ≡ Ok (record { kind = kind; path = path; mtime = mtime; size = size }, [])
    → reads (between head read entries) (entry_front kind path mtime size ++ rest)
    ≡ reads (with_entry (held (between head read entries) (entry_front kind path mtime size)) (record { kind = kind; path = path; mtime = mtime; size = size })) rest
unfolding byte_of_kind
reads-front head read entries kinds.File path mtime size rest whole =
    reads-item (between head read entries) 0x46 _ with_entry (entry-settles head read entries kinds.File) (drop 1 (entry_front kinds.File path mtime size)) rest _ whole
reads-front head read entries kinds.Folder path mtime size rest whole =
    reads-item (between head read entries) 0x44 _ with_entry (entry-settles head read entries kinds.Folder) (drop 1 (entry_front kinds.Folder path mtime size)) rest _ whole
reads-front head read entries kinds.Gone path mtime size rest whole =
    reads-item (between head read entries) 0x47 _ with_entry (entry-settles head read entries kinds.Gone) (drop 1 (entry_front kinds.Gone path mtime size)) rest _ whole

fits-kind : (kind : EntryKind) (mtime : ℕ) (bytes : List ℕ) → HasFields kind mtime bytes → FitsKind kind mtime (length bytes)
fits-kind kinds.File mtime bytes is = is
fits-kind kinds.Folder mtime bytes is = (is.0, ap (λ (b : List ℕ). length b) is.1)
fits-kind kinds.Gone mtime bytes is = (is.0, ap (λ (b : List ℕ). length b) is.1)

moved : (head : SetHead) (one other left : ℕ) (entries : List IndexEntry) → one ≡ other → left ≡ 0
    → record (between head one entries) { left = left } ≡ between head other entries
moved head one other left entries first second = rw (first, second) refl

reads-entry : (head : SetHead) (read : ℕ) (entries : List IndexEntry) (entry : Saved) (rest : List ℕ) → length entries < max_entries → IsSaved entry
    → IsBelow (last_path entries) entry.path
    → reads (between head read entries) (entry_text entry ++ rest) ≡ reads (between head (read + length (entry_text entry)) (entries ++ index_entry read entry ∷ [])) rest
reads-entry head read entries entry rest room is below =
    let front = entry_front entry.kind entry.path entry.mtime (length entry.bytes) in
    let parse = front_at (length entries) (last_path entries) in
    let value : Front = record { kind = entry.kind; path = entry.path; mtime = entry.mtime; size = length entry.bytes } in
    let whole : parse front ≡ Ok (value, []) = ap parse (sym (append-nil front))
    ∙ front-again (length entries) (last_path entries) entry.kind entry.path entry.mtime (length entry.bytes) [] room is.length is.path below (fits-kind entry.kind entry.mtime entry.bytes is.fields) in
    let now = with_entry (held (between head read entries) front) value in
    ap (reads (between head read entries)) (append_assoc front entry.bytes rest)
    ∙ reads-front head read entries entry.kind entry.path entry.mtime (length entry.bytes) (entry.bytes ++ rest) whole
    ∙ reads-passed (length entry.bytes) now (entry.bytes ++ rest) refl (omega (arith, length-append entry.bytes rest)) (omega arith)
    ∙ ap (reads (passed (length entry.bytes) now)) (drop_at entry.bytes rest (length entry.bytes) refl)
    ∙ ap (λ (r : Reading). reads r rest) (moved head (read + length front + length entry.bytes) (read + length (entry_text entry)) (length entry.bytes - length entry.bytes) (entries ++ index_entry read entry ∷ [])
    (omega (arith, length-append front entry.bytes)) (omega arith))

pub reads-entries : (head : SetHead) (entries : List Saved) (read : ℕ) (before : List IndexEntry) (rest : List ℕ) → length before + length entries ≤ max_entries
    → AllByRecursion IsSaved entries → Ascend (last_path before) entries
    → reads (between head read before) (flat_map entry_text entries ++ rest)
    ≡ reads (between head (read + length (flat_map entry_text entries)) (before ++ index_from read entries)) rest
reads-entries head [] read before rest room each order =
    ap (λ (r : Reading). reads r rest) (moved head read (read + 0) 0 before (omega arith) refl ∙ ap (between head (read + 0)) (sym (append-nil before)))
reads-entries head (entry ∷ entries) read before rest room each order =
    let next = index_entry read entry in
    let text = entry_text entry in
    let texts = flat_map entry_text entries in
    ap (reads (between head read before)) (append_assoc text texts rest)
    ∙ reads-entry head read before entry (texts ++ rest) (omega arith) each.0 order.0
    ∙ reads-entries head entries (read + length text) (before ++ next ∷ []) rest (omega (arith, length-append before (next ∷ []))) each.1
    (subst (λ (last : List ℕ). Ascend last entries) (sym (last_path-append before next)) order.1)
    ∙ ap (λ (r : Reading). reads r rest)
    (moved head (read + length text + length texts) (read + length (text ++ texts)) 0 ((before ++ next ∷ []) ++ index_from (read + length text) entries) (omega (arith, length-append text texts)) refl
    ∙ ap (between head (read + length (text ++ texts))) (append_assoc before (next ∷ []) (index_from (read + length text) entries)))

-- ---- the end

end-settles : (head : SetHead) (read : ℕ) (entries : List IndexEntry) → Settles (between head read entries) 0x45 (end_at (length entries)) with_end
unfolding settle
end-settles head read entries = record { going = refl; left = refl; none = refl; grows = end-grows (length entries); settles = λ pending. refl }

pub reads-end : (head : SetHead) (read : ℕ) (entries : List IndexEntry) (rest : List ℕ) → length entries ≤ max_entries
    → reads (between head read entries) (end_text (length entries) ++ rest) ≡ reads (at_end head (read + length (end_text (length entries))) entries) rest
reads-end head read entries rest room =
    let text = end_text (length entries) in
    let whole : end_at (length entries) text ≡ Ok (length entries, []) = ap (end_at (length entries)) (sym (append-nil text)) ∙ end-again (length entries) [] (omega arith) in
    reads-item (between head read entries) 0x45 (end_at (length entries)) with_end (end-settles head read entries) (drop 1 text) rest (length entries) whole

-- ---- the stream

pub length-index_from : (read : ℕ) (entries : List Saved) → length (index_from read entries) ≡ length entries
length-index_from read [] = refl
length-index_from read (entry ∷ entries) = ap suc (length-index_from (read + length (entry_text entry)) entries)

pub reads-body : (head : SetHead) (entries : List Saved) (read : ℕ) (rest : List ℕ) → length entries ≤ max_entries → AllByRecursion IsSaved entries → Ascend [] entries
    → reads (between head read []) (body_text entries ++ rest) ≡ reads (at_end head (read + length (body_text entries)) (index_from read entries)) rest
reads-body head entries read rest room each order =
    let texts = flat_map entry_text entries in
    let end = end_text (length entries) in
    let index = index_from read entries in
    let count : length entries ≡ length index = sym (length-index_from read entries) in
    ap (reads (between head read [])) (append_assoc texts end rest)
    ∙ reads-entries head entries read [] (end ++ rest) (omega arith) each order
    ∙ ap (λ (n : ℕ). reads (between head (read + length texts) index) (end_text n ++ rest)) count
    ∙ reads-end head (read + length texts) index rest (omega (arith, count))
    ∙ ap (λ (n : ℕ). reads (at_end head (read + length texts + length (end_text n)) index) rest) (sym count)
    ∙ ap (λ (n : ℕ). reads (at_end head n index) rest) (omega (arith, length-append texts end))

pub reads-stream : (head : SetHead) (entries : List Saved) (rest : List ℕ) → IsStream head entries
    → reads start (stream_text head entries ++ rest) ≡ reads (at_end head (length (stream_text head entries)) (index_from (length (head_text head)) entries)) rest
reads-stream head entries rest is =
    let text = head_text head in
    let body = body_text entries in
    ap (reads start) (append_assoc text body rest)
    ∙ reads-head head (body ++ rest) is.allowed
    ∙ reads-body head entries (length text) rest is.count is.each is.order
    ∙ ap (λ (n : ℕ). reads (at_end head n (index_from (length text) entries)) rest) (sym (length-append text body))
