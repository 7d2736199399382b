-- The catalogues that are read are those that are allowed, and those that are allowed are read.
use Rattle.std.proofs.Common.{◌≡◌, ℕ, Bool, true, false, List, [], ◌++◌, refl, sym, ap, subst, ◌∙◌, arith}
use Rattle.std.specs.Prelude.{map}
use Rattle.std.specs.List.{AllByRecursion}
use Rattle.std.proofs.Math.Path.{fun_ext}
use Rattle.std.proofs.lemmas.List.{append-nil}
use Rattle.save_stream.specs.Standing.{AreBytes}
use Rattle.save_stream.specs.declared.entry.IndexEntry.{IndexEntry}
use Rattle.catalog_change.specs.Catalogues.{Catalogue, IsCatalogue}
use Rattle.catalog_change.specs.Changes.{AreEntries}
use Rattle.catalog_spelling.specs.Entries.{FitsEntry}
use Rattle.catalog_spelling.specs.declared.snapshot_fields.SnapshotFields.{SnapshotFields}
use Rattle.catalog_spelling.specs.declared.parts.Snapshot.{Snapshot}
use Rattle.catalog_spelling.specs.SnapshotDecoding.{AreMade, IsReadTo}
use Rattle.catalog_spelling.specs.SnapshotResources.{has_lasting, lists_text}
use Rattle.catalog_spelling.specs.Media.{slots_text, volumes_text}
use Rattle.catalog_spelling.specs.Snapshots.{catalogue_read, front_text, kept_in, snapshot_at, snapshot_text}
use Rattle.catalog_spelling.specs.Fits.{FitsCatalogue}
use Rattle.catalog_spelling.specs.SpelledSnapshots.{IsSpelled}
use Rattle.snapshot_laws.proofs.Each.{all-as}
use Rattle.snapshot_laws.proofs.FieldLaws.{AreFieldsIf, fields_text, fields-read}
use Rattle.snapshot_laws.proofs.Found.{taken}
use Rattle.snapshot_laws.proofs.IndexRules.{index_in, index-holds, index-none, rows-same}
use Rattle.snapshot_laws.proofs.MediaRules.{slots-allowed, volumes-allowed}
use Rattle.snapshot_laws.proofs.RecordLaws.{IsIndexIf}
use Rattle.snapshot_laws.proofs.RecordRules.{records-allowed}
use Rattle.snapshot_laws.proofs.ResourceRules.{resources-allowed}
use Rattle.snapshot_laws.proofs.Storing.{row-of}

-- the catalogue of fields
abbrev pub catalogue_in : SnapshotFields → Catalogue
catalogue_in fields = record {
  number = fields.number;
  last_moment = fields.last_moment.0;
  next_ssid = fields.next_ssid.0;
  next_volid = fields.next_volid.0;
  policies = fields.lists.policies;
  pools = fields.lists.pools;
  clients = fields.lists.clients;
  schedules = fields.lists.schedules;
  groups = fields.lists.groups;
  slots = fields.slots;
  volumes = fields.volumes;
  records = map row-of fields.records;
  index = index_in fields.records;
}

-- ---- what is read is allowed

no-entries : AreEntries []
no-entries = record { each = tt; order = tt; count = omega arith }

index-are : (indexed : Bool) (index : List IndexEntry) → IsIndexIf indexed index → AreEntries index
index-are true index is = is.0
index-are false index is = subst AreEntries (sym is) no-entries

index-fits : (indexed : Bool) (index : List IndexEntry) → IsIndexIf indexed index → AllByRecursion FitsEntry index
index-fits true index is = is.2
index-fits false index is = subst (λ (xs : List IndexEntry). AllByRecursion FitsEntry xs) (sym is) tt

pub fields-allowed : (indexed : Bool) (fields : SnapshotFields) → AreFieldsIf indexed fields → IsCatalogue (catalogue_in fields) × FitsCatalogue (catalogue_in fields)
fields-allowed indexed fields are =
    let slots = slots-allowed (has_lasting fields.lists) fields.slots are.slots in
    let resources = resources-allowed (catalogue_in fields) are.lists slots.1 in
    let volumes = volumes-allowed fields.next_volid.0 fields.volumes are.volumes in
    let records = records-allowed fields.next_ssid.0 indexed fields.records are.records in
    let indexes = all-as (λ listed. IsIndexIf indexed listed.index) (λ listed. AreEntries listed.index) (λ listed is. index-are indexed listed.index is) fields.records records.indexes in
    let entries = all-as (λ listed. IsIndexIf indexed listed.index) (λ listed. AllByRecursion FitsEntry listed.index) (λ listed is. index-fits indexed listed.index is) fields.records records.indexes in (
      record {
        number = are.number.1;
        last_moment = are.last_moment;
        next_ssid = are.next_ssid;
        next_volid = are.next_volid;
        resources = resources.resources;
        slots = slots.0;
        volumes = volumes.0;
        records = records.rows;
        indexes = λ ssid. (index-holds AreEntries no-entries fields.records indexes ssid, index-none fields.records ssid);
      },
      record {
        pools = resources.pools;
        schedules = resources.schedules;
        volumes = volumes.1;
        records = records.fits;
        indexes = index-holds (λ xs. AllByRecursion FitsEntry xs) tt fields.records entries;
      },
    )

pub text-same : (indexed : Bool) (fields : SnapshotFields) → AreFieldsIf indexed fields → fields_text indexed fields ≡ snapshot_text indexed (catalogue_in fields)
text-same indexed fields are =
    let records = records-allowed fields.next_ssid.0 indexed fields.records are.records in
    ap (λ (t : List ℕ). front_text (catalogue_in fields) ++ lists_text fields.lists ++ slots_text fields.slots ++ volumes_text fields.volumes ++ t) (sym (rows-same indexed fields.records records.order))

-- what is read without indexes has none
pub kept-same : (indexed : Bool) (fields : SnapshotFields) → AreFieldsIf indexed fields → catalogue_in fields ≡ kept_in indexed (catalogue_in fields)
kept-same true fields are = refl
kept-same false fields are =
    let records = records-allowed fields.next_ssid.0 false fields.records are.records in
    let none : (ssid : ℕ) → index_in fields.records ssid ≡ [] = index-holds (λ xs. xs ≡ []) refl fields.records records.indexes in
    let same : index_in fields.records ≡ (λ ssid. []) = fun_ext none in
    ap (λ (index : ℕ → List IndexEntry). record (catalogue_in fields) { index = index }) same

-- ---- what was made of the fields

pub made-same : (fields : SnapshotFields) (snapshot : Snapshot) → AreMade fields snapshot → catalogue_read snapshot ≡ catalogue_in fields
made-same fields snapshot made =
    rw (made.number, made.last_moment, made.next_ssid, made.next_volid, made.policies, made.pools, made.clients, made.schedules, made.groups, made.slots, made.volumes, made.records, made.index) refl

pub is-spelled : (indexed : Bool) (bytes : List ℕ) (snapshot : Snapshot) → AreBytes bytes → IsReadTo indexed bytes snapshot → IsSpelled indexed bytes snapshot
is-spelled indexed bytes snapshot fits is =
    let fields = is.fields in
    let found = taken (snapshot_at indexed) (fields_text indexed) (AreFieldsIf indexed) (fields-read indexed) bytes fields [] fits is.read in
    let allowed = fields-allowed indexed fields found.1 in
    let same = made-same fields snapshot is.made in
    let kept = kept-same indexed fields found.1 ∙ ap (kept_in indexed) (sym same) in
    record {
      is = record {
        allowed = subst IsCatalogue (sym same) allowed.0;
        fits = subst FitsCatalogue kept allowed.1;
        text = found.0.parts ∙ append-nil (fields_text indexed fields) ∙ text-same indexed fields found.1 ∙ ap (snapshot_text indexed) (sym same);
      };
      kept = same ∙ kept;
    }
