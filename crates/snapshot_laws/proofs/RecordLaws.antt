-- Records: what is read is spelled so and allowed, and what is allowed is read.
use Rattle.std.proofs.Common.{◌≡◌, ℕ, ◌≤◌, ◌<◌, ◌^◌, Bool, true, false, List, [], ◌++◌, length, Some, Ok, refl, sym, subst, arith}
use Rattle.media_db.specs.Streams.{head_of}
use Rattle.media_db.specs.declared.records.Record.{Record}
use Rattle.media_db.specs.declared.records.RecordState.{RecordState}
use Rattle.media_db.specs.declared.records.RecordState.TheVariants as states
use Rattle.save_stream.specs.Spelling.{head_text}
use Rattle.save_stream.specs.declared.entry.IndexEntry.{IndexEntry}
use Rattle.save_stream.specs.declared.head.SetHead.{SetHead}
use Rattle.catalog_change.specs.Catalogues.{max_number}
use Rattle.catalog_spelling.specs.Reading.{checked}
use Rattle.catalog_spelling.specs.Spelled.{Took, Reads}
use Rattle.catalog_spelling.specs.Fields.{byte_text, number_bytes, number_at, coded, code_at}
use Rattle.catalog_spelling.specs.Changes.{max_count}
use Rattle.catalog_spelling.proofs.Steps.{start, begin, took, after, then-found, checked-reads}
use Rattle.catalog_spelling.proofs.Fields.{u32-reads, u64-reads, u32-within, number-empty, bytes-reads, flag-reads, code-reads}
use Rattle.catalog_spelling.proofs.Lists.{list-reads, IsListOf}
use Rattle.catalog_spelling.proofs.EntryLaws.{IsIndexWithin, index-reads}
use Rattle.catalog_spelling.specs.declared.snapshot_fields.ListedRecord.{ListedRecord}
use Rattle.catalog_spelling.specs.Media.{is_next_drawn}
use Rattle.catalog_spelling.specs.Records.{record_kinds, state_byte, is_longer, fields_text, fields_at, listed_ssid, index_if_text, index_if_at, listed_text, listed_at, records_text, records_at}
use Rattle.snapshot_laws.proofs.HeadLaws.{IsHeadIf, head_if-reads}
use Rattle.snapshot_laws.proofs.MediaLaws.{AreCopiesIf, copies-read}

record_kind-again : (state : RecordState) → coded record_kinds (state_byte state) ≡ Some state
record_kind-again states.Begun = refl
record_kind-again states.Complete = refl
record_kind-again states.Aborted = refl

record_kind-reads : Reads (code_at record_kinds) (λ state. byte_text (state_byte state)) (λ state. Unit {0})
record_kind-reads = code-reads record_kinds state_byte (λ state. Unit {0}) ((refl, tt), ((refl, tt), ((refl, tt), tt))) (λ state is. record_kind-again state)

size-reads : (state : RecordState) (head : SetHead)
    → Reads (λ bytes. checked (is_longer state head) bytes (number_at 8 bytes)) (number_bytes 8) (λ n. (n < 2 ^ 64) × (is_longer state head n ≡ true))
size-reads state head = checked-reads u64-reads (is_longer state head) (number-empty 8 (omega arith))

-- a record with this head, whose fields are allowed
pub record IsRowOf (head : SetHead) (row : Record) : Type 0 where
  pub same : head_of row ≡ head
  pub files : row.files < 2 ^ 32
  pub size : (row.bytes < 2 ^ 64) × (is_longer row.state head row.bytes ≡ true)
  pub digest : length row.digest ≡ 32
  pub next : row.next_copy < 2 ^ 32
  pub changed : row.changed < 2 ^ 64
  pub copies : AreCopiesIf row.state row.next_copy row.copies

pub fields-again : (row : Record) (rest : List ℕ) → IsRowOf (head_of row) row → fields_at (head_of row) (fields_text row ++ rest) ≡ Ok (row, rest)
unfolding fields_at
fields-again row rest is =
    let head = head_of row in
    (after (copies-read row.state row.next_copy) _ row.copies is.copies
    (after u64-reads _ row.changed is.changed
    (after u32-reads _ row.next_copy is.next
    (after (bytes-reads 32 (omega arith)) _ row.digest is.digest
    (after (size-reads row.state head) _ row.bytes is.size
    (after u32-reads _ row.files is.files
    (after flag-reads _ row.purged tt
    (after record_kind-reads _ row.state tt
    (after flag-reads _ row.hold tt (start (fields_at head))))))))))).goes rest

pub fields-read : (head : SetHead) → Reads (fields_at head) fields_text (IsRowOf head)
unfolding fields_at
fields-read head = record {
  found = λ bytes are.
      then-found flag-reads _ _ (begin (fields_at head) bytes are) (λ hold rest hold-is goes.
      then-found record_kind-reads _ _ goes (λ state rest state-is goes.
      then-found flag-reads _ _ goes (λ purged rest purged-is goes.
      then-found u32-reads _ _ goes (λ files rest files-is goes.
      then-found (size-reads state head) _ _ goes (λ size rest size-is goes.
      then-found (bytes-reads 32 (omega arith)) _ _ goes (λ digest rest digest-is goes.
      then-found u32-reads _ _ goes (λ next_copy rest next-is goes.
      then-found u64-reads _ _ goes (λ changed rest changed-is goes.
      then-found (copies-read state next_copy) _ _ goes (λ list rest list-is goes.
      (took _ goes, record { same = refl; files = files-is; size = size-is; digest = digest-is; next = next-is; changed = changed-is; copies = list-is }))))))))));
  again = λ row rest is.
      subst (λ (h : SetHead). fields_at h (fields_text row ++ rest) ≡ Ok (row, rest)) is.same
      (fields-again row rest (subst (λ (h : SetHead). IsRowOf h row) (sym is.same) is));
}

-- ---- records with their indexes

abbrev pub IsIndexIf : Bool → List IndexEntry → Type 0
IsIndexIf true index = IsIndexWithin 0 max_count index
IsIndexIf false index = index ≡ []

index_if-reads : (indexed : Bool) → Reads (index_if_at indexed) (index_if_text indexed) (IsIndexIf indexed)
unfolding index_if_at
index_if-reads true = index-reads 0 max_count (omega arith)
index_if-reads false = record {
  found = λ bytes are. (record { parts = refl; fits = are }, refl);
  again = λ index rest is. subst (λ (xs : List IndexEntry). index_if_at false (index_if_text false index ++ rest) ≡ Ok (xs, rest)) (sym is) refl;
}

-- a record with its index, behind these
pub record IsNextListed (next : ℕ) (indexed : Bool) (before : List ListedRecord) (listed : ListedRecord) : Type 0 where
  pub head : IsHeadIf (is_next_drawn max_number next listed_ssid before) (head_of listed.row)
  pub row : IsRowOf (head_of listed.row) listed.row
  pub index : IsIndexIf indexed listed.index

pub listed-reads : (next : ℕ) (indexed : Bool) (before : List ListedRecord) → Reads (listed_at next indexed before) (listed_text indexed) (IsNextListed next indexed before)
unfolding listed_at
listed-reads next indexed before =
    let allows = is_next_drawn max_number next listed_ssid before in
    record {
      found = λ bytes are.
          then-found (head_if-reads allows) _ _ (begin (listed_at next indexed before) bytes are) (λ head rest head-is goes.
          then-found (fields-read head) _ _ goes (λ row rest row-is goes.
          then-found (index_if-reads indexed) _ _ goes (λ index rest index-is goes. (
            subst (λ (h : SetHead). Took bytes (head_text h ++ fields_text row ++ index_if_text indexed index) rest) (sym row-is.same) (took _ goes),
            record {
              head = subst (IsHeadIf allows) (sym row-is.same) head-is;
              row = subst (λ (h : SetHead). IsRowOf h row) (sym row-is.same) row-is;
              index = index-is;
            },
          ))));
      again = λ listed rest is.
          (after (index_if-reads indexed) _ listed.index is.index
          (after (fields-read (head_of listed.row)) _ listed.row is.row
          (after (head_if-reads allows) _ (head_of listed.row) is.head (start (listed_at next indexed before))))).goes rest;
    }

abbrev pub AreRecordsIf : ℕ → Bool → List ListedRecord → Type 0
AreRecordsIf next indexed = IsListOf (λ n. (0 ≤ n) × (n ≤ max_count)) (IsNextListed next indexed)

pub records-read : (next : ℕ) (indexed : Bool) → Reads (records_at next indexed) (records_text indexed) (AreRecordsIf next indexed)
records-read next indexed = list-reads (u32-within 0 max_count (omega arith)) (listed_at next indexed) (listed_text indexed) (IsNextListed next indexed) (listed-reads next indexed)
