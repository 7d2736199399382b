-- Snapshots: what is read is spelled so and allowed, and what is allowed is read.
use Rattle.std.proofs.Common.{ℕ, ◌≤◌, Bool, List, ◌++◌, refl, arith}
use Rattle.room_base.specs.Numbers.{max_moment}
use Rattle.catalog_change.specs.Catalogues.{max_number}
use Rattle.catalog_spelling.specs.Spelled.{Reads}
use Rattle.catalog_spelling.specs.Fields.{byte_text, number_bytes}
use Rattle.catalog_spelling.proofs.Steps.{start, begin, took, after, then-found}
use Rattle.catalog_spelling.proofs.Fields.{u64-within, moment-reads}
use Rattle.catalog_spelling.specs.declared.snapshot_fields.SnapshotFields.{SnapshotFields}
use Rattle.catalog_spelling.specs.Media.{slots_text, volumes_text}
use Rattle.catalog_spelling.specs.Records.{records_text}
use Rattle.catalog_spelling.specs.SnapshotResources.{has_lasting, lists_text}
use Rattle.catalog_spelling.specs.Snapshots.{snapshot_at}
use Rattle.snapshot_laws.proofs.HeadLaws.{given_byte-reads}
use Rattle.snapshot_laws.proofs.ListLaws.{AreListsIf, lists-read}
use Rattle.snapshot_laws.proofs.MediaLaws.{AreSlotsIf, slots-read, AreVolumesIf, volumes-read}
use Rattle.snapshot_laws.proofs.RecordLaws.{AreRecordsIf, records-read}

-- how the fields of a snapshot are spelled
abbrev pub fields_text : Bool → SnapshotFields → List ℕ
fields_text indexed fields =
    byte_text 0x42 ++ byte_text 1 ++ number_bytes 8 fields.number ++ number_bytes 8 fields.last_moment.0 ++ number_bytes 8 fields.next_ssid.0 ++ number_bytes 8 fields.next_volid.0 ++ lists_text fields.lists
    ++ slots_text fields.slots ++ volumes_text fields.volumes ++ records_text indexed fields.records

-- fields that are allowed, each by those before it
pub record AreFieldsIf (indexed : Bool) (fields : SnapshotFields) : Type 0 where
  pub number : (0 ≤ fields.number) × (fields.number ≤ max_number)
  pub last_moment : fields.last_moment.0 ≤ max_moment
  pub next_ssid : (1 ≤ fields.next_ssid.0) × (fields.next_ssid.0 ≤ max_number)
  pub next_volid : (1 ≤ fields.next_volid.0) × (fields.next_volid.0 ≤ max_number)
  pub lists : AreListsIf fields.lists
  pub slots : AreSlotsIf (has_lasting fields.lists) fields.slots
  pub volumes : AreVolumesIf fields.next_volid.0 fields.volumes
  pub records : AreRecordsIf fields.next_ssid.0 indexed fields.records

pub fields-read : (indexed : Bool) → Reads (snapshot_at indexed) (fields_text indexed) (AreFieldsIf indexed)
unfolding snapshot_at
fields-read indexed = record {
  found = λ bytes are.
      then-found (given_byte-reads 0x42) _ _ (begin (snapshot_at indexed) bytes are) (λ kind rest kind-is goes.
      then-found (given_byte-reads 1) _ _ goes (λ form rest form-is goes.
      then-found (u64-within 0 max_number (omega arith)) _ _ goes (λ number rest number-is goes.
      then-found moment-reads _ _ goes (λ last_moment rest last_moment-is goes.
      then-found (u64-within 1 max_number (omega arith)) _ _ goes (λ next_ssid rest next_ssid-is goes.
      then-found (u64-within 1 max_number (omega arith)) _ _ goes (λ next_volid rest next_volid-is goes.
      then-found lists-read _ _ goes (λ lists rest lists-are goes.
      then-found (slots-read (has_lasting lists)) _ _ goes (λ slots rest slots-are goes.
      then-found (volumes-read next_volid) _ _ goes (λ volumes rest volumes-are goes.
      then-found (records-read next_ssid indexed) _ _ goes (λ records rest records-are goes. (
        took _ goes,
        record {
          number = number-is;
          last_moment = last_moment-is;
          next_ssid = next_ssid-is;
          next_volid = next_volid-is;
          lists = lists-are;
          slots = slots-are;
          volumes = volumes-are;
          records = records-are;
        },
      )))))))))));
  again = λ fields rest is.
      (after (records-read fields.next_ssid.0 indexed) _ fields.records is.records
      (after (volumes-read fields.next_volid.0) _ fields.volumes is.volumes
      (after (slots-read (has_lasting fields.lists)) _ fields.slots is.slots
      (after lists-read _ fields.lists is.lists
      (after (u64-within 1 max_number (omega arith)) _ fields.next_volid.0 is.next_volid
      (after (u64-within 1 max_number (omega arith)) _ fields.next_ssid.0 is.next_ssid
      (after moment-reads _ fields.last_moment.0 is.last_moment
      (after (u64-within 0 max_number (omega arith)) _ fields.number is.number
      (after (given_byte-reads 1) _ 1 refl
      (after (given_byte-reads 0x42) _ 0x42 refl (start (snapshot_at indexed)))))))))))).goes rest;
}
