-- What a reader has read that stands at the end of a stream.
use Rattle.std.proofs.Common.{◌≡◌, ℕ, zero, suc, ◌+◌, ◌≤◌, Bool, true, false, List, [], ◌∷◌, ◌++◌, length, drop, Option, Some, None, Ok, Err, refl, sym, ap, subst, ◌∙◌, append_assoc, arith}
use Rattle.std.specs.Prelude.{map}
use Rattle.std.specs.List.{flat_map}
use Rattle.std.proofs.lemmas.Grind.{flat_map-append}
use Rattle.std.proofs.lemmas.List.{length-append, append-nil, drop_at}
use Rattle.sha2.specs.Sha256.{sha256}
use Rattle.save_stream.specs.declared.entry.IndexEntry.{IndexEntry}
use Rattle.save_stream.specs.declared.head.SetHead.{SetHead}
use Rattle.save_stream.specs.Spelling.{Saved, IsHead, IsStream, StreamText, max_size, head_text, entry_text, body_text, stream_text, index_from, index_of, file_bytes}
use Rattle.save_stream.specs.Fields.{Fields, fields_of, StreamFields, StreamIndex, fields_read, HasRead}
use Rattle.save_stream.specs.Reading.{Part, Reading, start, behind_head, reads, head_at}
use Rattle.save_stream.specs.Standing.{AreBytes, Behind, StandsAt, Stands}
use Rattle.save_stream.proofs.Again.{head-again}
use Rattle.save_stream.proofs.OneSpelling.{one-spelling}
use Rattle.save_stream.proofs.Steps.{reads-stand, body-stands}
use Rattle.save_stream.proofs.Streams.{file-placed, true-not-false}
use Rattle.save_stream.proofs.Whole.{length-index_from}

-- ---- a text has one head and the entries of one save set

heads-are : (text : List ℕ) (head other : SetHead) (entries others : List Saved) → StreamText text head entries → StreamText text other others
    → (head ≡ other) × (entries ≡ others)
heads-are text head other entries others one two =
    let same = one-spelling head other entries others [] [] one.0 two.0
    (append-nil (stream_text head entries) ∙ sym one.1 ∙ two.1 ∙ sym (append-nil (stream_text other others))) in
    (same.0, same.1)

pub fields-are-one : (text : List ℕ) (one other : Fields) → StreamFields text one → StreamFields text other → one ≡ other
fields-are-one text one other first second =
    let same = heads-are text first.0 second.0 first.1.0 second.1.0 first.1.1 second.1.1 in
    first.1.2 ∙ ap (λ (h : SetHead). fields_of text h first.1.0) same.0 ∙ ap (λ (es : List Saved). fields_of text second.0 es) same.1 ∙ sym second.1.2

pub index-is-one : (text : List ℕ) (one other : List IndexEntry) → StreamIndex text one → StreamIndex text other → one ≡ other
index-is-one text one other first second =
    let same = heads-are text first.0 second.0 first.1.0 second.1.0 first.1.1 second.1.1 in
    first.1.2 ∙ ap (λ (h : SetHead). index_of h first.1.0) same.0 ∙ ap (λ (es : List Saved). index_of second.0 es) same.1 ∙ sym second.1.2

-- ---- the files of the index

files-at : (head : SetHead) (before after : List Saved) → IsStream head (before ++ after)
    → map (file_bytes (stream_text head (before ++ after))) (index_from (length (head_text head) + length (flat_map entry_text before)) after) ≡ map (λ (entry : Saved). entry.bytes) after
files-at head before [] is = refl
files-at head before (entry ∷ after) is =
    let at = length (head_text head) + length (flat_map entry_text before) in
    let all : (before ++ entry ∷ []) ++ after ≡ before ++ entry ∷ after = append_assoc before (entry ∷ []) after in
    let next : length (head_text head) + length (flat_map entry_text (before ++ entry ∷ [])) ≡ at + length (entry_text entry) =
    ap (λ (t : List ℕ). length (head_text head) + length t) (flat_map-append entry_text before (entry ∷ []) ∙ ap (λ (t : List ℕ). flat_map entry_text before ++ t) (append-nil (entry_text entry)))
    ∙ omega (arith, length-append (flat_map entry_text before) (entry_text entry)) in
    let behind = files-at head (before ++ entry ∷ []) after (subst (λ (es : List Saved). IsStream head es) (sym all) is) in
    let first = file-placed head before after entry is in
    ap (λ (b : List ℕ). b ∷ map (file_bytes (stream_text head (before ++ entry ∷ after))) (index_from (at + length (entry_text entry)) after)) first
    ∙ ap (λ (bs : List (List ℕ)). entry.bytes ∷ bs)
    (ap (λ (n : ℕ). map (file_bytes (stream_text head (before ++ entry ∷ after))) (index_from n after)) (sym next)
    ∙ ap (λ (es : List Saved). map (file_bytes (stream_text head es)) (index_from (length (head_text head) + length (flat_map entry_text (before ++ entry ∷ []))) after)) (sym all)
    ∙ behind)

files-are : (text : List ℕ) (head : SetHead) (entries : List Saved) → StreamText text head entries
    → map (file_bytes text) (index_of head entries) ≡ map (λ (entry : Saved). entry.bytes) entries
files-are text head entries is =
    ap (λ (t : List ℕ). map (file_bytes t) (index_of head entries)) is.1
    ∙ ap (λ (n : ℕ). map (file_bytes (stream_text head entries)) (index_from n entries)) (omega arith)
    ∙ files-at head [] entries is.0

-- ---- at the end of a stream

-- what an end says of its reading
abbrev AtEnd : List ℕ → Option SetHead → List IndexEntry → Type 0
AtEnd text given index = (head : SetHead) × ((entries : List Saved) × StreamText text head entries × (given ≡ Some head) × (index ≡ index_of head entries))

ended-at : (text : List ℕ) (head : SetHead) (left : ℕ) (index : List IndexEntry) (pending : List ℕ) → length text ≤ max_size → Behind text head left true index pending
    → AtEnd text (Some head) index
ended-at text head (suc left) index pending size at = absurd (true-not-false (at.whole (omega arith)).1)
ended-at text head zero index pending size at =
    let old = at.spelled [] refl in
    let is : text ≡ stream_text head old.0 = sym (append-nil text) ∙ old.1.parts in
    let fits : IsStream head old.0 =
    record { allowed = at.allowed; each = old.1.each; order = old.1.order; count = old.1.count; size = omega (arith, size, ap (λ (t : List ℕ). length t) is) } in
    (head, (old.0, (fits, is), refl, old.1.index_is))

end-is : (text : List ℕ) (head : Option SetHead) (read left : ℕ) (ended : Bool) (index : List IndexEntry) (pending : List ℕ) → length text ≤ max_size
    → StandsAt head text (record { read = read; left = left; ended = ended; head = head; entries = index; pending = pending }) → ended ≡ true → AtEnd text head index
end-is text None read left ended index pending size at is = absurd (true-not-false (sym is ∙ at.going))
end-is text (Some head) read left false index pending size at is = absurd (true-not-false (sym is))
end-is text (Some head) read left true index pending size at is = ended-at text head left index pending size at

fields-read : (text : List ℕ) (head : SetHead) (entries : List Saved) (reading : Reading) → reading.read ≡ length text → reading.entries ≡ index_of head entries
    → fields_read head (drop (length (head_text head)) text) reading ≡ fields_of text head entries
fields-read text head entries reading read index =
    let body = sha256 (drop (length (head_text head)) text) in
    ap (λ (n : ℕ). record { head = head; files = length reading.entries; bytes = n; digest = body }) read
    ∙ ap (λ (n : ℕ). record { head = head; files = n; bytes = length text; digest = body })
    (ap (λ (es : List IndexEntry). length es) index ∙ length-index_from (length (head_text head)) entries)

pub has-read : (text : List ℕ) (reading : Reading) → Stands text reading → reading.ended ≡ true → length text ≤ max_size
    → (head : SetHead) × ((entries : List Saved) × HasRead text head entries reading)
has-read text reading stands ended size =
    let end = end-is text reading.head reading.read reading.left reading.ended reading.entries reading.pending size stands.at ended in
    let head = end.0 in
    let entries = end.1.0 in (
      head,
      (
        entries,
        record {
          spelled = end.1.1;
          head_is = end.1.2;
          fields_are = fields-read text head entries reading stands.read end.1.3;
          index_is = end.1.3;
          files_are = ap (λ (es : List IndexEntry). map (file_bytes text) es) end.1.3 ∙ files-are text head entries end.1.1;
        },
      ),
    )

pub text-has-read : (text : List ℕ) (reading : Reading) → AreBytes text → reads start text ≡ Ok reading → reading.ended ≡ true → length text ≤ max_size
    → (head : SetHead) × ((entries : List Saved) × HasRead text head entries reading)
text-has-read text reading fit is ended size = has-read text reading (reads-stand text reading fit is) ended size

head-in : Part SetHead → SetHead → SetHead
head-in (Ok x) other = x.0
head-in (Err stop) other = other

-- a text that begins with the texts of two heads
pub one-head : (head other : SetHead) (more rest : List ℕ) → IsHead head → IsHead other → head_text head ++ more ≡ head_text other ++ rest → head ≡ other
unfolding head-in
one-head head other more rest one two is =
    sym (ap (λ (p : Part SetHead). head-in p other) (head-again head more one)) ∙ ap (λ (t : List ℕ). head-in (head_at t) other) is
    ∙ ap (λ (p : Part SetHead). head-in p other) (head-again other rest two)

pub body-has-read : (head : SetHead) (body : List ℕ) (reading : Reading) → IsHead head → AreBytes body → reads (behind_head (length (head_text head)) head) body ≡ Ok reading
    → reading.ended ≡ true → length (head_text head ++ body) ≤ max_size
    → (entries : List Saved) × HasRead (head_text head ++ body) head entries reading
body-has-read head body reading allowed fit is ended size =
    let text = head_text head ++ body in
    let found = has-read text reading (body-stands head body reading allowed fit is) ended size in
    let same : found.0 ≡ head = one-head found.0 head (body_text found.1.0) body found.1.1.spelled.0.allowed allowed (sym found.1.1.spelled.1) in
    (found.1.0, subst (λ (h : SetHead). HasRead text h found.1.0 reading) same found.1.1)

-- the bytes behind a head
pub behind-head : (head : SetHead) (body : List ℕ) → drop (length (head_text head)) (head_text head ++ body) ≡ body
behind-head head body = drop_at (head_text head) body (length (head_text head)) refl

pub body-ended : (head : SetHead) (body : List ℕ) (reading : Reading) → IsHead head → AreBytes body → reads (behind_head (length (head_text head)) head) body ≡ Ok reading
    → reading.ended ≡ true → length (head_text head ++ body) ≤ max_size
    → ((entries : List Saved) × HasRead (head_text head ++ body) head entries reading) × StreamFields (head_text head ++ body) (fields_read head body reading)
body-ended head body reading allowed fit is ended size =
    let found = body-has-read head body reading allowed fit is ended size in
    (found, (head, (found.0, found.1.spelled, ap (λ (b : List ℕ). fields_read head b reading) (sym (behind-head head body)) ∙ found.1.fields_are)))
