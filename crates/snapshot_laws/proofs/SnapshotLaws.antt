-- What is spelled is read back, in its one spelling, and what is not spelled has a first fault.
use Rattle.std.proofs.Common.{◌≡◌, ℕ, ◌-◌, Bool, true, false, List, [], ◌∷◌, ◌++◌, length, Result, Ok, Err, refl, sym, ap, subst, ◌∙◌, inl, inr, arith}
use Rattle.std.specs.Prelude.{◌⊎◌, map}
use Rattle.std.specs.List.{AllByRecursion}
use Rattle.std.proofs.Math.Path.{fun_ext}
use Rattle.std.proofs.lemmas.List.{append-nil, length-append}
use Rattle.media_db.specs.declared.records.Record.{Record}
use Rattle.save_stream.specs.Standing.{AreBytes}
use Rattle.save_stream.specs.declared.entry.IndexEntry.{IndexEntry}
use Rattle.catalog_change.specs.Catalogues.{Catalogue, HasRecords, IsCatalogue}
use Rattle.catalog_change.specs.Changes.{AreEntries}
use Rattle.catalog_spelling.specs.declared.fault.DecodeFault.{DecodeFault}
use Rattle.catalog_spelling.specs.declared.fault.DecodeFault.TheVariants as faults
use Rattle.catalog_spelling.specs.Decoding.{EndsAt, HasBad, StopsAt}
use Rattle.catalog_spelling.specs.Reading.{Part}
use Rattle.catalog_spelling.specs.Entries.{FitsEntry}
use Rattle.catalog_spelling.proofs.Decodes.{ends-bad, spelled-not-bad, stops-bad}
use Rattle.catalog_spelling.specs.declared.snapshot_fields.SnapshotFields.{SnapshotFields}
use Rattle.catalog_spelling.specs.declared.parts.Snapshot.{Snapshot}
use Rattle.catalog_spelling.specs.SnapshotDecoding.{Decodes, StopsAtPlace}
use Rattle.catalog_spelling.specs.Records.{listed_ssid}
use Rattle.catalog_spelling.specs.Snapshots.{catalogue_read, kept_in, kept_index, lists_of, snapshot_at, snapshot_text}
use Rattle.catalog_spelling.specs.Fits.{FitsCatalogue, FitsRecord}
use Rattle.catalog_spelling.specs.SpelledSnapshots.{IsReadBack, IsText}
use Rattle.snapshot_laws.proofs.CatalogueRules.{catalogue_in, fields-allowed, is-spelled, kept-same, made-same, text-same}
use Rattle.snapshot_laws.proofs.Each.{all-any, all-mapped}
use Rattle.snapshot_laws.proofs.FieldLaws.{AreFieldsIf, fields_text, fields-read}
use Rattle.snapshot_laws.proofs.Found.{taken}
use Rattle.snapshot_laws.proofs.IndexRules.{index_in, index-again, listed_as, rows-again}
use Rattle.snapshot_laws.proofs.MediaRules.{slots-again, volumes-again}
use Rattle.snapshot_laws.proofs.RecordLaws.{IsIndexIf}
use Rattle.snapshot_laws.proofs.RecordRules.{HasListed, ascends-mapped, records-again}
use Rattle.snapshot_laws.proofs.ResourceRules.{resources-again}

-- ---- the fields of a catalogue

abbrev fields_of : Bool → Catalogue → SnapshotFields
fields_of indexed catalogue = record {
  number = catalogue.number;
  last_moment = record { 0 = catalogue.last_moment };
  next_ssid = record { 0 = catalogue.next_ssid };
  next_volid = record { 0 = catalogue.next_volid };
  lists = lists_of catalogue;
  slots = catalogue.slots;
  volumes = catalogue.volumes;
  records = map (listed_as indexed catalogue.index) catalogue.records;
}

index-if : (indexed : Bool) (index : List IndexEntry) → AreEntries index → AllByRecursion FitsEntry (kept_index indexed index) → IsIndexIf indexed (kept_index indexed index)
index-if true index are fits = (are, (omega arith, omega (arith, are.count)), fits)
index-if false index are fits = refl

fields-are : (indexed : Bool) (catalogue : Catalogue) → IsCatalogue catalogue → FitsCatalogue (kept_in indexed catalogue) → AreFieldsIf indexed (fields_of indexed catalogue)
fields-are indexed catalogue is fits =
    let listed = listed_as indexed catalogue.index in
    let rows = sym (rows-again indexed catalogue.index catalogue.records) in
    let resources = resources-again catalogue (record { resources = is.resources; pools = fits.pools; schedules = fits.schedules }) in
    let records : HasListed catalogue.next_ssid indexed (map listed catalogue.records) = record {
      rows = subst (HasRecords catalogue.next_ssid) rows is.records;
      fits = subst (λ (all : List Record). AllByRecursion FitsRecord all) rows fits.records;
      order = ascends-mapped listed_ssid listed catalogue.records is.records.order;
      indexes = all-mapped (λ one. IsIndexIf indexed one.index) listed catalogue.records
          (all-any (λ row. IsIndexIf indexed (kept_index indexed (catalogue.index row.ssid.0))) (λ row. index-if indexed (catalogue.index row.ssid.0) (is.indexes row.ssid.0).0 (fits.indexes row.ssid.0)) catalogue.records);
    } in
    record {
      number = (omega arith, is.number);
      last_moment = is.last_moment;
      next_ssid = is.next_ssid;
      next_volid = is.next_volid;
      lists = resources.0;
      slots = slots-again _ catalogue.slots is.slots resources.1;
      volumes = volumes-again catalogue.next_volid catalogue.volumes is.volumes fits.volumes;
      records = records-again catalogue.next_ssid indexed (map listed catalogue.records) records;
    }

fields-same : (indexed : Bool) (catalogue : Catalogue) → IsCatalogue catalogue → catalogue_in (fields_of indexed catalogue) ≡ kept_in indexed catalogue
fields-same indexed catalogue is =
    let records = map (listed_as indexed catalogue.index) catalogue.records in
    let index : index_in records ≡ (λ ssid. kept_index indexed (catalogue.index ssid)) =
    fun_ext (λ ssid. index-again indexed catalogue.index catalogue.records ssid (is.indexes ssid).1) in
    ap (λ (rows : List Record). record catalogue { records = rows; index = index_in records }) (rows-again indexed catalogue.index catalogue.records)
    ∙ ap (λ (sets : ℕ → List IndexEntry). record catalogue { index = sets }) index

kept-text : (indexed : Bool) (catalogue : Catalogue) → snapshot_text indexed (kept_in indexed catalogue) ≡ snapshot_text indexed catalogue
kept-text true catalogue = refl
kept-text false catalogue = refl

text-of : (indexed : Bool) (catalogue : Catalogue) → IsCatalogue catalogue → FitsCatalogue (kept_in indexed catalogue) → fields_text indexed (fields_of indexed catalogue) ≡ snapshot_text indexed catalogue
text-of indexed catalogue is fits =
    text-same indexed (fields_of indexed catalogue) (fields-are indexed catalogue is fits)
    ∙ ap (snapshot_text indexed) (fields-same indexed catalogue is)
    ∙ kept-text indexed catalogue

-- ---- what is spelled is read back

whole-read : (indexed : Bool) (catalogue : Catalogue) → IsCatalogue catalogue → FitsCatalogue (kept_in indexed catalogue) → snapshot_at indexed (snapshot_text indexed catalogue) ≡ Ok (fields_of indexed catalogue, [])
whole-read indexed catalogue is fits =
    let fields = fields_of indexed catalogue in
    ap (snapshot_at indexed) (sym (text-of indexed catalogue is fits) ∙ sym (append-nil (fields_text indexed fields))) ∙ (fields-read indexed).again fields [] (fields-are indexed catalogue is fits)

abbrev pair_of : SnapshotFields × List ℕ → Part SnapshotFields → SnapshotFields × List ℕ
pair_of other (Ok pair) = pair
pair_of other (Err behind) = other

-- what was read is one
same-read : (part : Part SnapshotFields) (fields other : SnapshotFields) (rest more : List ℕ) → part ≡ Ok (fields, rest) → part ≡ Ok (other, more) → (fields ≡ other) × (rest ≡ more)
same-read part fields other rest more is also =
    let pairs = ap (pair_of (fields, rest)) (sym is ∙ also) in
    (ap (λ (pair : SnapshotFields × List ℕ). pair.0) pairs, ap (λ (pair : SnapshotFields × List ℕ). pair.1) pairs)

no-fault : (part : Part SnapshotFields) (fields : SnapshotFields) (rest : List ℕ) (behind : ℕ) → part ≡ Ok (fields, rest) → part ≡ Err behind → ⊥
no-fault part fields rest behind is also = cc

pub read-back : (indexed : Bool) (catalogue : Catalogue) (answer : Result Snapshot DecodeFault) → IsCatalogue catalogue → FitsCatalogue (kept_in indexed catalogue) → Decodes indexed (snapshot_text indexed catalogue) answer
    → IsReadBack indexed catalogue answer
read-back indexed catalogue (Ok snapshot) is fits decodes =
    let same = same-read (snapshot_at indexed (snapshot_text indexed catalogue)) decodes.fields (fields_of indexed catalogue) [] [] decodes.read (whole-read indexed catalogue is fits) in
    made-same decodes.fields snapshot decodes.made ∙ ap catalogue_in same.0 ∙ fields-same indexed catalogue is
read-back indexed catalogue (Err (faults.Bad place)) is fits decodes =
    let part = snapshot_at indexed (snapshot_text indexed catalogue) in
    let whole = whole-read indexed catalogue is fits in
    elim decodes.stops [
      | inl stops ↦ no-fault part (fields_of indexed catalogue) [] decodes.behind whole stops
      | inr ends ↦
          (let same = same-read part ends.0 (fields_of indexed catalogue) ends.1.0 [] ends.1.1.0 whole in
          absurd (omega (arith, ends.1.1.2, ap (λ (t : List ℕ). length t) same.1)))
    ]
read-back indexed catalogue (Err faults.Memory) is fits decodes = tt

-- ---- texts that are read to one catalogue are one

pub one-text : (indexed : Bool) (bytes other : List ℕ) (snapshot copy : Snapshot) → AreBytes bytes → AreBytes other → Decodes indexed bytes (Ok snapshot) → Decodes indexed other (Ok copy)
    → catalogue_read snapshot ≡ catalogue_read copy → bytes ≡ other
one-text indexed bytes other snapshot copy fits also is too same =
    (is-spelled indexed bytes snapshot fits is).is.text ∙ ap (snapshot_text indexed) same ∙ sym (is-spelled indexed other copy also too).is.text

-- ---- other texts have a first fault

pub fault-is : (indexed : Bool) (bytes : List ℕ) (place : ℕ) → AreBytes bytes → StopsAtPlace indexed bytes place → HasBad (snapshot_at indexed) bytes place
fault-is indexed bytes place fits is =
    let at = snapshot_at indexed in
    subst (HasBad at bytes) (sym is.place_is) (elim is.stops [
      | inl stops ↦ stops-bad at (fields_text indexed) (AreFieldsIf indexed) (fields-read indexed) bytes is.behind fits stops
      | inr ends ↦
          subst (λ (n : ℕ). HasBad at bytes (length bytes - n)) (sym ends.1.1.1)
          (ends-bad at (fields_text indexed) (AreFieldsIf indexed) (fields-read indexed) bytes ends.0 ends.1.0 fits ends.1.1.0 ends.1.1.2)
    ])

pub not-bad : (indexed : Bool) (bytes : List ℕ) (place : ℕ) (catalogue : Catalogue) → IsText indexed bytes catalogue → HasBad (snapshot_at indexed) bytes place → ⊥
not-bad indexed bytes place catalogue is bad =
    let fields = fields_of indexed catalogue in
    let text : bytes ≡ fields_text indexed fields = is.text ∙ sym (text-of indexed catalogue is.allowed is.fits) in
    spelled-not-bad (snapshot_at indexed) (fields_text indexed) (AreFieldsIf indexed) (fields-read indexed) fields place (fields-are indexed catalogue is.allowed is.fits)
    (subst (λ (t : List ℕ). HasBad (snapshot_at indexed) t place) text bad)

-- what all bytes are read to
judged-bytes : (indexed : Bool) (bytes : List ℕ) (part : Part SnapshotFields) → AreBytes bytes → snapshot_at indexed bytes ≡ part
    → ((catalogue : Catalogue) × IsText indexed bytes catalogue) ⊎ ((place : ℕ) × HasBad (snapshot_at indexed) bytes place)
judged-bytes indexed bytes (Err behind) fits is =
    inr (length bytes - behind, stops-bad (snapshot_at indexed) (fields_text indexed) (AreFieldsIf indexed) (fields-read indexed) bytes behind fits is)
judged-bytes indexed bytes (Ok (fields, [])) fits is =
    let found = taken (snapshot_at indexed) (fields_text indexed) (AreFieldsIf indexed) (fields-read indexed) bytes fields [] fits is in
    let allowed = fields-allowed indexed fields found.1 in
    inl (
      catalogue_in fields,
      record { allowed = allowed.0; fits = subst FitsCatalogue (kept-same indexed fields found.1) allowed.1; text = found.0.parts ∙ append-nil (fields_text indexed fields) ∙ text-same indexed fields found.1 },
    )
judged-bytes indexed bytes (Ok (fields, byte ∷ rest)) fits is =
    inr (
      length bytes - length (byte ∷ rest),
      ends-bad (snapshot_at indexed) (fields_text indexed) (AreFieldsIf indexed) (fields-read indexed) bytes fields (byte ∷ rest) fits is (omega arith),
    )

pub text-or-bad : (indexed : Bool) (bytes : List ℕ) → AreBytes bytes → ((catalogue : Catalogue) × IsText indexed bytes catalogue) ⊎ ((place : ℕ) × HasBad (snapshot_at indexed) bytes place)
text-or-bad indexed bytes fits = judged-bytes indexed bytes (snapshot_at indexed bytes) fits refl

-- ---- there is one answer

-- how many bytes there are from where reading stopped on
abbrev left_of : Part SnapshotFields → ℕ
left_of (Ok pair) = length pair.1
left_of (Err behind) = behind

left-bad : (indexed : Bool) (before bad : List ℕ) → StopsAt (snapshot_at indexed) before bad ⊎ EndsAt (snapshot_at indexed) before bad → left_of (snapshot_at indexed (before ++ bad)) ≡ length bad
left-bad indexed before bad (inl stops) = ap left_of stops.0
left-bad indexed before bad (inr ends) = ap left_of ends.1

pub one-place : (indexed : Bool) (bytes : List ℕ) (place other : ℕ) → HasBad (snapshot_at indexed) bytes place → HasBad (snapshot_at indexed) bytes other → place ≡ other
one-place indexed bytes place other one two =
    let first = ap (λ (t : List ℕ). left_of (snapshot_at indexed t)) one.parts ∙ left-bad indexed one.before one.bad one.stops in
    let second = ap (λ (t : List ℕ). left_of (snapshot_at indexed t)) two.parts ∙ left-bad indexed two.before two.bad two.stops in
    let same : length one.bad ≡ length two.bad = sym first ∙ second in
    let all : length (one.before ++ one.bad) ≡ length (two.before ++ two.bad) = ap (λ (t : List ℕ). length t) (sym one.parts ∙ two.parts) in
    omega (arith, same, all, length-append one.before one.bad, length-append two.before two.bad, one.place_is, two.place_is)

pub one-catalogue : (indexed : Bool) (bytes : List ℕ) (catalogue other : Catalogue) → IsText indexed bytes catalogue → IsText indexed bytes other → kept_in indexed catalogue ≡ kept_in indexed other
one-catalogue indexed bytes catalogue other is also =
    let first = ap (snapshot_at indexed) is.text ∙ whole-read indexed catalogue is.allowed is.fits in
    let second = ap (snapshot_at indexed) also.text ∙ whole-read indexed other also.allowed also.fits in
    let same = same-read (snapshot_at indexed bytes) (fields_of indexed catalogue) (fields_of indexed other) [] [] first second in
    sym (fields-same indexed catalogue is.allowed) ∙ ap catalogue_in same.0 ∙ fields-same indexed other also.allowed
