-- The indexes of records: which one a set has, and how records are spelled with them.
use Rattle.std.proofs.Common.{◌≡◌, ◌≢◌, ℕ, ◌<◌, Bool, true, false, cond, eqb, List, [], ◌∷◌, ◌++◌, length, Some, None, refl, sym, ap, subst, ◌∙◌, arith}
use Rattle.std.specs.Prelude.{map, unwrap_or}
use Rattle.std.specs.List.{AllByRecursion, flat_map}
use Rattle.std.specs.Option.{option_map}
use Rattle.std.specs.Ordering.{eq_by_cmp, nat_cmp}
use Rattle.std.proofs.lemmas.Bool.{eqb-false, eqb-true}
use Rattle.std.proofs.lemmas.List.{length-map}
use Rattle.std.proofs.lemmas.List.Folds.{flat_map-map}
use Rattle.room_base.proofs.OrderedNumbers.{lesser_number, other_number, same_number}
use Rattle.room_base.specs.Ordered.{Ascends, AscendsFrom, find_by}
use Rattle.client_index.specs.Sets.{entries_or_none, number_of}
use Rattle.client_index.specs.declared.index.SetIndex.{SetIndex}
use Rattle.media_db.specs.Rows.{find_record}
use Rattle.media_db.specs.declared.records.Record.{Record}
use Rattle.save_stream.specs.declared.entry.IndexEntry.{IndexEntry}
use Rattle.catalog_spelling.specs.Fields.{number_bytes}
use Rattle.catalog_spelling.specs.declared.snapshot_fields.ListedRecord.{ListedRecord}
use Rattle.catalog_spelling.specs.Records.{listed_ssid, listed_text, records_text}
use Rattle.catalog_spelling.specs.Snapshots.{kept_index, listed_in, rows_text}
use Rattle.catalog_spelling.specs.Storing.{set_of}
use Rattle.snapshot_laws.proofs.Fitting.{chosen_row, kept_none, row_later}
use Rattle.snapshot_laws.proofs.Each.{all-as, all-both, same-texts}
use Rattle.snapshot_laws.proofs.Storing.{row-of}

-- the entries of a set among those of records
abbrev pub index_in : List ListedRecord → ℕ → List IndexEntry
index_in records ssid = entries_or_none (map set_of records) (record { 0 = ssid })

-- ---- which index is found

abbrev chosen_index : ListedRecord → List ListedRecord → ℕ → Bool → List IndexEntry
chosen_index listed records ssid test =
    unwrap_or (option_map (λ (set : SetIndex). set.entries) (cond test (Some (set_of listed)) (find_by nat_cmp number_of ssid (map set_of records)))) []

found-here : (listed : ListedRecord) (records : List ListedRecord) (ssid : ℕ) → listed.row.ssid.0 ≡ ssid → index_in (listed ∷ records) ssid ≡ listed.index
found-here listed records ssid is =
    let same : eq_by_cmp nat_cmp listed.row.ssid.0 ssid ≡ true = subst (λ (n : ℕ). eq_by_cmp nat_cmp listed.row.ssid.0 n ≡ true) is (same_number listed.row.ssid.0) in
    ap (chosen_index listed records ssid) same

found-later : (listed : ListedRecord) (records : List ListedRecord) (ssid : ℕ) → listed.row.ssid.0 ≢ ssid → index_in (listed ∷ records) ssid ≡ index_in records ssid
found-later listed records ssid is = ap (chosen_index listed records ssid) (other_number listed.row.ssid.0 ssid is)

-- what holds of each index and of none
pub index-holds : (P : List IndexEntry → Type 0) → P [] → (records : List ListedRecord) → AllByRecursion (λ listed. P listed.index) records → (ssid : ℕ) → P (index_in records ssid)
index-holds P none [] each ssid = none
index-holds P none (listed ∷ records) each ssid =
    elim (eqb listed.row.ssid.0 ssid) as (λ test. eqb listed.row.ssid.0 ssid ≡ test → P (index_in (listed ∷ records) ssid)) [
      | true ↦ (λ same. subst P (sym (found-here listed records ssid (eqb-true listed.row.ssid.0 ssid same))) each.0)
      | false ↦ (λ same. subst P (sym (found-later listed records ssid (eqb-false listed.row.ssid.0 ssid same))) (index-holds P none records each.1 ssid))
    ] refl

-- ---- sets on record

row-here : (row : Record) (rows : List Record) (ssid : ℕ) → row.ssid.0 ≡ ssid → find_record ssid (row ∷ rows) ≡ Some row
row-here row rows ssid is =
    let same : eq_by_cmp nat_cmp row.ssid.0 ssid ≡ true = subst (λ (n : ℕ). eq_by_cmp nat_cmp row.ssid.0 n ≡ true) is (same_number row.ssid.0) in
    ap (chosen_row row rows ssid) same

-- only sets on record have an index
pub index-none : (records : List ListedRecord) (ssid : ℕ) → find_record ssid (map row-of records) ≡ None → index_in records ssid ≡ []
index-none [] ssid none = refl
index-none (listed ∷ records) ssid none =
    elim (eqb listed.row.ssid.0 ssid) as (λ test. eqb listed.row.ssid.0 ssid ≡ test → index_in (listed ∷ records) ssid ≡ []) [
      | true ↦ (λ same. let found = row-here listed.row (map row-of records) ssid (eqb-true listed.row.ssid.0 ssid same) in cc)
      | false ↦
          (λ same.
          let other = eqb-false listed.row.ssid.0 ssid same in
          found-later listed records ssid other ∙ index-none records ssid (sym (row_later listed.row (map row-of records) ssid other) ∙ none))
    ] refl

-- ---- the index of each record is its own

above-all : {X : Type 0} (key : X → ℕ) (low : ℕ) (xs : List X) → AscendsFrom nat_cmp key low xs → AllByRecursion (λ x. low < key x) xs
above-all key low [] order = tt
above-all key low (x ∷ xs) order =
    let here = lesser_number low (key x) order.0 in
    (here, all-as (λ y. key x < key y) (λ y. low < key y) (λ y above. omega (arith, here, above)) xs (above-all key (key x) xs order.1))

rest-ascends : {X : Type 0} (key : X → ℕ) (low : ℕ) (xs : List X) → AscendsFrom nat_cmp key low xs → Ascends nat_cmp key xs
rest-ascends key low [] order = tt
rest-ascends key low (x ∷ xs) order = order.1

-- a record finds its index
abbrev FindsIn : List ListedRecord → ListedRecord → Type 0
FindsIn records listed = index_in records listed.row.ssid.0 ≡ listed.index

later-found : (listed : ListedRecord) (records : List ListedRecord) (one : ListedRecord) → (listed.row.ssid.0 < one.row.ssid.0) × FindsIn records one → FindsIn (listed ∷ records) one
later-found listed records one is =
    let other : listed.row.ssid.0 ≢ one.row.ssid.0 = λ same. omega (arith, is.0, same) in
    found-later listed records one.row.ssid.0 other ∙ is.1

pub each-found : (records : List ListedRecord) → Ascends nat_cmp listed_ssid records → AllByRecursion (FindsIn records) records
each-found [] order = tt
each-found (listed ∷ records) order =
    let Above : ListedRecord → Type 0 = λ one. listed.row.ssid.0 < one.row.ssid.0 in
    let above : AllByRecursion Above records = above-all listed_ssid listed.row.ssid.0 records order in
    let rest = each-found records (rest-ascends listed_ssid listed.row.ssid.0 records order) in (
      found-here listed records listed.row.ssid.0 refl,
      all-as (λ one. Above one × FindsIn records one) (FindsIn (listed ∷ records)) (later-found listed records) records (all-both Above (FindsIn records) records above rest),
    )

-- ---- how records are spelled

pub rows-same : (indexed : Bool) (records : List ListedRecord) → Ascends nat_cmp listed_ssid records → rows_text indexed (index_in records) (map row-of records) ≡ records_text indexed records
rows-same indexed records order =
    let index = index_in records in
    let text : Record → List ℕ = λ row. listed_text indexed (listed_in index row) in
    let each = all-as (FindsIn records) (λ listed. text listed.row ≡ listed_text indexed listed)
    (λ listed is. ap (λ (entries : List IndexEntry). listed_text indexed (record { row = listed.row; index = entries })) is) records (each-found records order) in
    ap (λ (n : ℕ). number_bytes 4 n ++ flat_map text (map row-of records)) (length-map records row-of)
    ∙ ap (λ (t : List ℕ). number_bytes 4 (length records) ++ t) (flat_map-map text row-of records ∙ same-texts (λ listed. text listed.row) (listed_text indexed) records each)

-- ---- records of a catalogue

abbrev pub listed_as : Bool → (ℕ → List IndexEntry) → Record → ListedRecord
listed_as indexed index row = record { row = row; index = kept_index indexed (index row.ssid.0) }

pub rows-again : (indexed : Bool) (index : ℕ → List IndexEntry) (rows : List Record) → map row-of (map (listed_as indexed index) rows) ≡ rows
rows-again indexed index [] = refl
rows-again indexed index (row ∷ rows) = ap (λ (more : List Record). row ∷ more) (rows-again indexed index rows)

pub index-again : (indexed : Bool) (index : ℕ → List IndexEntry) (rows : List Record) (ssid : ℕ) → (find_record ssid rows ≡ None → index ssid ≡ [])
    → index_in (map (listed_as indexed index) rows) ssid ≡ kept_index indexed (index ssid)
index-again indexed index [] ssid none = sym (ap (kept_index indexed) (none refl) ∙ kept_none indexed)
index-again indexed index (row ∷ rows) ssid none =
    let listed = listed_as indexed index row in
    let more = map (listed_as indexed index) rows in
    elim (eqb row.ssid.0 ssid) as (λ test. eqb row.ssid.0 ssid ≡ test → index_in (map (listed_as indexed index) (row ∷ rows)) ssid ≡ kept_index indexed (index ssid)) [
      | true ↦
          (λ same.
          let is = eqb-true row.ssid.0 ssid same in
          found-here listed more ssid is ∙ ap (λ (n : ℕ). kept_index indexed (index n)) is)
      | false ↦
          (λ same.
          let other = eqb-false row.ssid.0 ssid same in
          found-later listed more ssid other ∙ index-again indexed index rows ssid (λ is. none (row_later row rows ssid other ∙ is)))
    ] refl
