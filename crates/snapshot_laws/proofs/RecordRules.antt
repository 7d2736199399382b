-- The records that reading allows are those that a catalogue may have.
use Rattle.std.proofs.Common.{◌≡◌, ℕ, Bool, true, List, [], ◌∷◌, length, refl, arith}
use Rattle.std.specs.Prelude.{map}
use Rattle.std.specs.List.{AllByRecursion}
use Rattle.std.specs.Ordering.{nat_cmp}
use Rattle.std.proofs.lemmas.Bool.{lt-ltb, ltb-true}
use Rattle.std.proofs.lemmas.List.{length-map}
use Rattle.room_base.specs.Ordered.{Ascends, AscendsFrom}
use Rattle.media_db.specs.Rows.{ssid_of}
use Rattle.media_db.specs.Streams.{head_of}
use Rattle.media_db.specs.declared.records.Record.{Record}
use Rattle.media_db.specs.declared.records.RecordState.{RecordState}
use Rattle.media_db.specs.declared.records.RecordState.TheVariants as states
use Rattle.save_stream.specs.Spelling.{head_text}
use Rattle.catalog_change.specs.Catalogues.{HasRecords, IsLonger, IsRecord, max_number}
use Rattle.catalog_spelling.proofs.Behind.{Rises, rising-is, rising-behind}
use Rattle.catalog_spelling.specs.declared.snapshot_fields.ListedRecord.{ListedRecord}
use Rattle.catalog_spelling.specs.Records.{is_longer, listed_ssid}
use Rattle.catalog_spelling.specs.Fits.{FitsRecord}
use Rattle.snapshot_laws.proofs.Each.{all-apart, all-both, all-mapped, all-of-mapped, behind-as}
use Rattle.snapshot_laws.proofs.MediaRules.{HasCopies, copies-allowed, copies-again, next_drawn-is, next_drawn-again}
use Rattle.snapshot_laws.proofs.RecordLaws.{AreRecordsIf, IsIndexIf, IsNextListed}
use Rattle.snapshot_laws.proofs.Storing.{row-of}

-- ---- one record

longer-is : (state : RecordState) (row : Record) → is_longer state (head_of row) row.bytes ≡ true → IsLonger state row
longer-is states.Begun row is = tt
longer-is states.Complete row is = ltb-true (length (head_text (head_of row))) row.bytes is
longer-is states.Aborted row is = tt

longer-again : (state : RecordState) (row : Record) → IsLonger state row → is_longer state (head_of row) row.bytes ≡ true
longer-again states.Begun row is = refl
longer-again states.Complete row is = lt-ltb (length (head_text (head_of row))) row.bytes is
longer-again states.Aborted row is = refl

-- a record that is allowed with its index, and numbers in the ranges of their bytes
abbrev pub IsFittingListed : ℕ → Bool → ListedRecord → Type 0
IsFittingListed next indexed listed = (IsRecord next listed.row × FitsRecord listed.row) × IsIndexIf indexed listed.index

listed-is : (next : ℕ) (indexed : Bool) (before : List ListedRecord) (listed : ListedRecord) → IsNextListed next indexed before listed
    → Rises nat_cmp listed_ssid (IsFittingListed next indexed) before listed
listed-is next indexed before listed is =
    let row = is.row in
    let number = next_drawn-is max_number next listed_ssid before listed.row.ssid.0 is.head.1 in
    let copies = copies-allowed listed.row.state listed.row.next_copy listed.row.copies row.copies in (
      (
        (
          record {
            head = is.head.0;
            drawn = number.1;
            bytes = longer-is listed.row.state listed.row row.size.1;
            digest = row.digest;
            each = copies.each;
            order = copies.order;
            count = copies.count;
            state = copies.fit;
          },
          record { numbers = record { files = row.files; bytes = row.size.0; next_copy = row.next; changed = row.changed }; copies = copies.fits },
        ),
        is.index,
      ),
      number.2,
    )

listed-again : (next : ℕ) (indexed : Bool) (before : List ListedRecord) (listed : ListedRecord) → Rises nat_cmp listed_ssid (IsFittingListed next indexed) before listed
    → IsNextListed next indexed before listed
listed-again next indexed before listed is =
    let row = is.0.0.0 in
    let fits = is.0.0.1 in
    let copies : HasCopies listed.row.state listed.row.next_copy listed.row.copies = record { each = row.each; order = row.order; count = row.count; fit = row.state; fits = fits.copies } in
    record {
      head = (row.head, next_drawn-again max_number next listed_ssid before listed.row.ssid.0 (row.head.ssid.0, row.drawn, is.1));
      row = record {
        same = refl;
        files = fits.numbers.files;
        size = (fits.numbers.bytes, longer-again listed.row.state listed.row row.bytes);
        digest = row.digest;
        next = fits.numbers.next_copy;
        changed = fits.numbers.changed;
        copies = copies-again listed.row.state listed.row.next_copy listed.row.copies copies;
      };
      index = is.0.1;
    }

-- ---- all of them

from-mapped : {X Y : Type 0} (key : Y → ℕ) (f : X → Y) (low : ℕ) (xs : List X) → AscendsFrom nat_cmp (λ x. key (f x)) low xs → AscendsFrom nat_cmp key low (map f xs)
from-mapped key f low [] order = tt
from-mapped key f low (x ∷ xs) order = (order.0, from-mapped key f (key (f x)) xs order.1)

pub ascends-mapped : {X Y : Type 0} (key : Y → ℕ) (f : X → Y) (xs : List X) → Ascends nat_cmp (λ x. key (f x)) xs → Ascends nat_cmp key (map f xs)
ascends-mapped key f [] order = tt
ascends-mapped key f (x ∷ xs) order = from-mapped key f (key (f x)) xs order

-- records with their indexes, and the rows of these
pub record HasListed (next : ℕ) (indexed : Bool) (records : List ListedRecord) : Type 0 where
  pub rows : HasRecords next (map row-of records)
  pub fits : AllByRecursion FitsRecord (map row-of records)
  pub order : Ascends nat_cmp listed_ssid records
  pub indexes : AllByRecursion (λ listed. IsIndexIf indexed listed.index) records

pub records-allowed : (next : ℕ) (indexed : Bool) (records : List ListedRecord) → AreRecordsIf next indexed records → HasListed next indexed records
records-allowed next indexed records are =
    let Is = IsFittingListed next indexed in
    let rising = rising-is nat_cmp listed_ssid Is records (behind-as (IsNextListed next indexed) (Rises nat_cmp listed_ssid Is) (listed-is next indexed) [] records are.1) in
    let parts = all-apart (λ listed. IsRecord next listed.row × FitsRecord listed.row) (λ listed. IsIndexIf indexed listed.index) records rising.0 in
    let each = all-apart (λ listed. IsRecord next listed.row) (λ listed. FitsRecord listed.row) records parts.0 in
    record {
      rows = record {
        each = all-mapped (IsRecord next) row-of records each.0;
        order = ascends-mapped ssid_of row-of records rising.1;
        count = omega (arith, are.0.1, length-map records row-of);
      };
      fits = all-mapped FitsRecord row-of records each.1;
      order = rising.1;
      indexes = parts.1;
    }

pub records-again : (next : ℕ) (indexed : Bool) (records : List ListedRecord) → HasListed next indexed records → AreRecordsIf next indexed records
records-again next indexed records are =
    let Is = IsFittingListed next indexed in
    let each = all-of-mapped (IsRecord next) row-of records are.rows.each in
    let fits = all-of-mapped FitsRecord row-of records are.fits in
    let all =
    all-both (λ listed. IsRecord next listed.row × FitsRecord listed.row) (λ listed. IsIndexIf indexed listed.index) records
    (all-both (λ listed. IsRecord next listed.row) (λ listed. FitsRecord listed.row) records each fits) are.indexes in (
      (omega arith, omega (arith, are.rows.count, length-map records row-of)),
      behind-as (Rises nat_cmp listed_ssid Is) (IsNextListed next indexed) (listed-again next indexed) [] records (rising-behind nat_cmp listed_ssid Is records all are.order),
    )
