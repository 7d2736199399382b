-- A session whose stream has ended.
use Rattle.std.proofs.Common.{◌≡◌, ℕ, ◌+◌, ◌≤◌, ◌<◌, true, false, List, [], ◌∷◌, length, refl, sym, ap, ◌∙◌, subst, arith}
use Rattle.std.specs.List.{AllByRecursion}
use Rattle.std.specs.Option.{option_map}
use Rattle.std.specs.Prelude.{Option, Some, None, IfSome, IsSomeAnd, Result, Ok}
use Rattle.room_base.specs.Text.{HasLength, IsPathText}
use Rattle.save_stream.specs.declared.entry.EntryKind.{EntryKind}
use Rattle.save_stream.specs.declared.entry.EntryKind.TheVariants as kinds
use Rattle.save_stream.specs.declared.entry.IndexEntry.{IndexEntry}
use Rattle.save_stream.specs.declared.fault.StreamFault.{StreamFault}
use Rattle.save_stream.specs.Reading.{Reading, behind_head, reads}
use Rattle.save_stream.specs.Spelling.{HasFields, IsSaved, Saved, entry_text, head_text, index_entry, index_from, max_entries}
use Rattle.save_stream.specs.Standing.{IsStreamSoFar}
use Rattle.save_stream.proofs.SoFar.{ended-index, head-so-far, piece-so-far, so-far-ascend}
use Rattle.save_stream.proofs.Whole.{length-index_from}
use Rattle.media_db.specs.declared.copies.Section.{Section}
use Rattle.catalog_change.specs.Changes.{AreEntries, AreSections, FollowFrom, IsCount, IsEntry}
use Rattle.save_session.specs.Parts.{AreSectionsFrom, end_of}
use Rattle.save_session.specs.Sessions.{SessionView, IsSession}
use Rattle.save_finish.specs.Ended.{HasEnded}

-- ---- what was read

so_far : (session : SessionView) → IsSession session → IsStreamSoFar session.reading
so_far session is =
    let behind = behind_head (length (head_text session.head)) session.head in
    piece-so-far behind session.reading session.sent (head-so-far session.head is.allowed) is.bytes (omega (arith, is.count, is.size)) is.read

-- bytes were sent behind the head
pub has_body : (session : SessionView) → IsSession session → session.reading.ended ≡ true → 0 < length session.sent
has_body session is ended = by session.sent refl
  where
    behind : Reading
    behind = behind_head (length (head_text session.head)) session.head

    by : (sent : List ℕ) → session.sent ≡ sent → 0 < length session.sent
    by [] none =
        let R : List ℕ → Type 0 = λ bytes. reads behind bytes ≡ Ok session.reading in
        let read : ◌≡◌ {A = Result Reading StreamFault} (Ok behind) (Ok session.reading) = subst R none is.read in
        let same : behind ≡ session.reading = cc read in
        let no : false ≡ true = ap (λ (r : Reading). r.ended) same ∙ ended in
        absurd (cc no)
    by (byte ∷ bytes) some = rw some (omega arith)

-- ---- its index

entry_is : (kind : EntryKind) (path : List ℕ) (mtime : ℕ) (bytes : List ℕ) (at : ℕ) → HasLength 1024 path → IsPathText path → HasFields kind mtime bytes
    → IsEntry (index_entry at (record { kind = kind; path = path; mtime = mtime; bytes = bytes }))
entry_is kinds.File path mtime bytes at long is fields = record { length = long; path = is; fields = tt }
entry_is kinds.Folder path mtime bytes at long is fields = record { length = long; path = is; fields = (ap (λ (b : List ℕ). length b) fields.1, refl) }
entry_is kinds.Gone path mtime bytes at long is fields =
    record { length = long; path = is; fields = (fields.0, ap (λ (b : List ℕ). length b) fields.1, refl) }

each_is : (at : ℕ) (entries : List Saved) → AllByRecursion IsSaved entries → AllByRecursion IsEntry (index_from at entries)
each_is at [] each = tt
each_is at (entry ∷ entries) each = (
  entry_is entry.kind entry.path entry.mtime entry.bytes at each.0.length each.0.path each.0.fields,
  each_is (at + length (entry_text entry)) entries each.1,
)

pub index_is : (session : SessionView) → IsSession session → session.reading.ended ≡ true
    → AreEntries session.reading.entries × (length session.reading.entries ≤ max_entries)
index_is session is ended =
    let whole = ended-index session.reading (so_far session is) ended in
    let head = whole.1.0 in
    let entries = whole.1.1.0 in
    let spelled = whole.1.1.1.0 in
    let same = whole.1.1.2 in
    let Each : List IndexEntry → Type 0 = λ index. AllByRecursion IsEntry index in
    let few : length session.reading.entries ≤ max_entries =
    omega (arith, spelled.count, ap (λ (index : List IndexEntry). length index) same, length-index_from (length (head_text head)) entries) in (
      record {
        each = subst Each (sym same) (each_is (length (head_text head)) entries spelled.each);
        order = so-far-ascend session.reading (so_far session is);
        count = omega (arith, few);
      },
      few,
    )

-- the index of the session that is found
index_found : (found : Option SessionView) (reading : Reading) → IsSomeAnd found HasEnded → IfSome found IsSession
    → option_map (λ (session : SessionView). session.reading) found ≡ Some reading
    → AreEntries reading.entries × (length reading.entries ≤ max_entries) × IfSome found (λ session. reading.entries ≡ session.reading.entries)
index_found None reading ended is same = absurd ended
index_found (Some session) reading ended is same =
    let here : session.reading ≡ reading = cc same in
    let both = index_is session is ended in
    let A : Reading → Type 0 = λ one. AreEntries one.entries × (length one.entries ≤ max_entries) × (one.entries ≡ session.reading.entries) in
    subst A here (both.0, both.1, refl)

-- the same of its entries
pub entries_found : (found : Option SessionView) (reading : Reading) (entries : List IndexEntry) → IsSomeAnd found HasEnded → IfSome found IsSession
    → option_map (λ (session : SessionView). session.reading) found ≡ Some reading → entries ≡ reading.entries
    → AreEntries entries × (length entries ≤ max_entries) × IfSome found (λ session. entries ≡ session.reading.entries)
entries_found found reading entries ended is same as_read =
    let A : List IndexEntry → Type 0 = λ index. AreEntries index × (length index ≤ max_entries) × IfSome found (λ session. index ≡ session.reading.entries) in
    subst A (sym as_read) (index_found found reading ended is same)

-- ---- its sections

follow : (place : ℕ) (sections : List Section) → AreSectionsFrom place sections → FollowFrom place sections
follow place [] are = tt
follow place (section ∷ sections) are = (record { blocks = are.1.blocks; bytes = are.1.bytes }, are.0, follow section.to sections are.2)

some_sections : (sections : List Section) → 0 < end_of sections → 1 ≤ length sections
some_sections [] ends = absurd (omega (arith, ends))
some_sections (section ∷ sections) ends = omega arith

pub sections_are : (session : SessionView) → IsSession session → end_of session.sections ≡ session.reading.read → 0 < session.reading.read
    → IsCount (length session.sections) → AreSections session.sections
sections_are session is pushed some count = record {
  some = some_sections session.sections (omega (arith, pushed, some));
  count = count;
  follow = follow 0 session.sections is.sections;
}
