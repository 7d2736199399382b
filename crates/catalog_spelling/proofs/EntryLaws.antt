-- Entries of an index: what is read is spelled so, and the entries that are read are those of an index.
use Rattle.std.proofs.Common.{◌≡◌, ℕ, ◌≤◌, ◌<◌, ◌^◌, List, [], ◌∷◌, length, Option, Some, None, refl, arith}
use Rattle.std.specs.Prelude.{IfSome}
use Rattle.std.specs.List.{AllByRecursion}
use Rattle.std.specs.Ordering.{nat_cmp}
use Rattle.std.specs.Cmp.Lexicographic.{slice_cmp}
use Rattle.save_stream.specs.Spelling.{IsBelow, path_of}
use Rattle.save_stream.specs.declared.entry.EntryKind.{EntryKind}
use Rattle.save_stream.specs.declared.entry.EntryKind.TheVariants as kinds
use Rattle.save_stream.specs.declared.entry.IndexEntry.{IndexEntry}
use Rattle.catalog_change.specs.Changes.{IsEntry, HasOnlyItsFields, AreEntries}
use Rattle.catalog_spelling.specs.Spelled.{Reads}
use Rattle.catalog_spelling.specs.Fields.{coded, code_at, byte_text}
use Rattle.catalog_spelling.specs.Lists.{last_item, by_item}
use Rattle.catalog_spelling.specs.Entries.{entry_kinds, entry_byte, has_mtime, has_bytes, low_path, entry_text, entry_at, index_text, index_at, FitsEntry}
use Rattle.catalog_spelling.proofs.Steps.{start, begin, took, after, then-found, reads-as}
use Rattle.catalog_spelling.proofs.Fields.{u32-within, u64-if, IsIf, path-reads, IsPathAbove, code-reads}
use Rattle.catalog_spelling.proofs.Lists.{list-reads}
use Rattle.catalog_spelling.proofs.Behind.{Rises, rising-is, rising-behind}

entry_kind-again : (kind : EntryKind) → coded entry_kinds (entry_byte kind) ≡ Some kind
entry_kind-again kinds.File = refl
entry_kind-again kinds.Folder = refl
entry_kind-again kinds.Gone = refl

entry_kind-reads : Reads (code_at entry_kinds) (λ kind. byte_text (entry_byte kind)) (λ kind. Unit {0})
entry_kind-reads = code-reads entry_kinds entry_byte (λ kind. Unit {0}) ((refl, tt), ((refl, tt), ((refl, tt), tt))) (λ kind is. entry_kind-again kind)

-- the fields of an entry behind its path
abbrev Numbers : EntryKind → ℕ → ℕ → ℕ → Type 0
Numbers kind mtime size place =
    ((mtime < 2 ^ 64) × IsIf (has_mtime kind) mtime) × ((size < 2 ^ 64) × IsIf (has_bytes kind) size) × ((place < 2 ^ 64) × IsIf (has_bytes kind) place)

fields-are : (kind : EntryKind) (path : List ℕ) (mtime size place : ℕ) → Numbers kind mtime size place
    → HasOnlyItsFields kind (record { kind = kind; path = path; mtime = mtime; size = size; place = place })
fields-are kinds.File path mtime size place is = tt
fields-are kinds.Folder path mtime size place is = (is.1.1, is.2.1)
fields-are kinds.Gone path mtime size place is = (is.0.1, is.1.1, is.2.1)

numbers-are : (kind : EntryKind) (entry : IndexEntry) → HasOnlyItsFields kind entry → FitsEntry entry → Numbers kind entry.mtime entry.size entry.place
numbers-are kinds.File entry is fits = ((fits.mtime, tt), (fits.size, tt), (fits.place, tt))
numbers-are kinds.Folder entry is fits = ((fits.mtime, tt), (fits.size, is.0), (fits.place, is.1))
numbers-are kinds.Gone entry is fits = ((fits.mtime, is.0), (fits.size, is.1), (fits.place, is.2))

-- ---- above the last path

below-first : (path : List ℕ) → 0 < length path → IsBelow [] path
below-first [] some = absurd (omega arith)
below-first (byte ∷ path) some = refl

above-last : (last : Option IndexEntry) (path : List ℕ) → 0 < length path → IfSome last (λ y. IsBelow y.path path) → IsBelow (by_item [] (λ (entry : IndexEntry). entry.path) last) path
above-last None path some is = below-first path some
above-last (Some y) path some is = is

is-above : (last : Option IndexEntry) (path : List ℕ) → IsBelow (by_item [] (λ (entry : IndexEntry). entry.path) last) path → IfSome last (λ y. IsBelow y.path path)
is-above None path is = tt
is-above (Some y) path is = is

-- an entry whose numbers fit
abbrev pub IsFitting : IndexEntry → Type 0
IsFitting entry = IsEntry entry × FitsEntry entry

-- an entry whose path stands above the last one
abbrev pub IsNext : List IndexEntry → IndexEntry → Type 0
IsNext before entry = Rises (slice_cmp nat_cmp) path_of IsFitting before entry

pub entry-reads : (before : List IndexEntry) → Reads (entry_at before) entry_text (IsNext before)
unfolding entry_at
entry-reads before = record {
  found = λ bytes are.
      then-found entry_kind-reads _ _ (begin (entry_at before) bytes are) (λ kind rest kind-is goes.
      then-found (path-reads (low_path before)) _ _ goes (λ path rest path-is goes.
      then-found (u64-if (has_mtime kind)) _ _ goes (λ mtime rest mtime-is goes.
      then-found (u64-if (has_bytes kind)) _ _ goes (λ size rest size-is goes.
      then-found (u64-if (has_bytes kind)) _ _ goes (λ place rest place-is goes. (
        took _ goes,
        (
          (
            record { length = path-is.0.0; path = path-is.0.1; fields = fields-are kind path mtime size place (mtime-is, size-is, place-is) },
            record { mtime = mtime-is.0; size = size-is.0; place = place-is.0 },
          ),
          is-above (last_item before) path path-is.1,
        ),
      ))))));
  again = λ entry rest is.
      let numbers = numbers-are entry.kind entry is.0.0.fields is.0.1 in
      let path : IsPathAbove (low_path before) entry.path = ((is.0.0.length, is.0.0.path), above-last (last_item before) entry.path is.0.0.length.0 is.1) in
      (after (u64-if (has_bytes entry.kind)) _ entry.place numbers.2
      (after (u64-if (has_bytes entry.kind)) _ entry.size numbers.1
      (after (u64-if (has_mtime entry.kind)) _ entry.mtime numbers.0
      (after (path-reads (low_path before)) _ entry.path path
      (after entry_kind-reads _ entry.kind tt (start (entry_at before))))))).goes rest;
}

-- an index of least to most entries
abbrev pub IsIndexWithin : ℕ → ℕ → List IndexEntry → Type 0
IsIndexWithin least most index = AreEntries index × ((least ≤ length index) × (length index ≤ most)) × AllByRecursion FitsEntry index

each-apart : (index : List IndexEntry) → AllByRecursion IsFitting index → AllByRecursion IsEntry index × AllByRecursion FitsEntry index
each-apart [] each = (tt, tt)
each-apart (entry ∷ index) each = let more = each-apart index each.1 in ((each.0.0, more.0), (each.0.1, more.1))

each-both : (index : List IndexEntry) → AllByRecursion IsEntry index → AllByRecursion FitsEntry index → AllByRecursion IsFitting index
each-both [] is fits = tt
each-both (entry ∷ index) is fits = ((is.0, fits.0), each-both index is.1 fits.1)

pub index-reads : (least most : ℕ) → most < 2 ^ 32 → Reads (index_at least most) index_text (IsIndexWithin least most)
index-reads least most fits =
    reads-as (list-reads (u32-within least most fits) entry_at entry_text IsNext entry-reads) (IsIndexWithin least most)
    (λ index is.
    let parts = rising-is (slice_cmp nat_cmp) path_of IsFitting index is.1 in
    let each = each-apart index parts.0 in
    (record { each = each.0; order = parts.1; count = omega (arith, is.0.1) }, is.0, each.1))
    (λ index is. (is.1, rising-behind (slice_cmp nat_cmp) path_of IsFitting index (each-both index is.0.each is.2) is.0.order))
