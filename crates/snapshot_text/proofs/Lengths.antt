-- How long the parts of a snapshot are.
use Rattle.std.proofs.Common.{◌≡◌, ◌+◌, ◌*◌, Bool, List, ◌++◌, length, arith}
use Rattle.std.specs.List.{flat_map}
use Rattle.std.proofs.lemmas.List.{length-append}
use Rattle.media_db.specs.Streams.{head_of}
use Rattle.media_db.specs.declared.copies.SetCopy.{SetCopy}
use Rattle.media_db.specs.declared.copies.Section.{Section}
use Rattle.media_db.specs.declared.records.Record.{Record}
use Rattle.media_db.specs.declared.volumes.VolumeRec.{VolumeRec}
use Rattle.save_stream.specs.Spelling.{head_text}
use Rattle.save_stream.specs.declared.entry.IndexEntry.{IndexEntry}
use Rattle.catalog_change.specs.Catalogues.{Catalogue}
use Rattle.catalog_change.specs.declared.resource.Resource.TheVariants as resources
use Rattle.catalog_change.specs.declared.slot.FilledSlot.{FilledSlot}
use Rattle.catalog_spelling.specs.Entries.{entry_text, index_text}
use Rattle.catalog_spelling.specs.Resources.{resource_text}
use Rattle.catalog_spelling.specs.Sections.{section_text}
use Rattle.catalog_text.proofs.Lengths.{u32_length, u64_length, length_section}
use Rattle.catalog_text.proofs.ResourceLengths.{same-items}
use Rattle.catalog_spelling.specs.declared.snapshot_fields.ListedRecord.{ListedRecord}
use Rattle.catalog_spelling.specs.Media.{copy_text, slot_text, slots_text, volume_text, volumes_text}
use Rattle.catalog_spelling.specs.Records.{index_if_text, listed_text, record_text}
use Rattle.catalog_spelling.specs.Snapshots.{front_text, lists_of, rows_text, snapshot_text}
use Rattle.catalog_spelling.specs.declared.snapshot_fields.ResourceLists.{ResourceLists}
use Rattle.catalog_spelling.specs.SnapshotResources.{lists_text}
use Rattle.snapshot_text.specs.Writing.{listed_by, rows_by}
use Rattle.client_index.specs.declared.index.SetIndex.{SetIndex}

sections-length : (sections : List Section) → length (flat_map section_text sections) ≡ length sections * 48
sections-length sections = same-items section_text 48 length_section sections

pub length_slot : (filled : FilledSlot) → length (slot_text filled) ≡ 5
length_slot filled = simp (length-append, u32_length) (omega arith)

pub length_volume : (volume : VolumeRec) → length (volume_text volume) ≡ 25 + length volume.pool
length_volume volume = simp (length-append, u32_length, u64_length) (omega arith)

pub length_copy : (copy : SetCopy) → length (copy_text copy) ≡ 9 + 48 * length copy.sections
length_copy copy = simp (length-append, u32_length, sections-length) (omega arith)

pub length_row : (row : Record) → length (record_text row) ≡ length (head_text (head_of row)) + 28 + length row.digest + length (flat_map copy_text row.copies)
length_row row = simp (length-append, u32_length, u64_length) (omega arith)

pub length_index : (index : List IndexEntry) → length (index_text index) ≡ 4 + length (flat_map entry_text index)
length_index index = simp (length-append, u32_length) (omega arith)

pub length_listed : (indexed : Bool) (listed : ListedRecord) → length (listed_text indexed listed) ≡ length (record_text listed.row) + length (index_if_text indexed listed.index)
length_listed indexed listed = length-append (record_text listed.row) (index_if_text indexed listed.index)

length-front : (catalogue : Catalogue) → length (front_text catalogue) ≡ 34
length-front catalogue = simp (length-append, u64_length) (omega arith)

slots-length : (slots : List FilledSlot) → length (flat_map slot_text slots) ≡ length slots * 5
slots-length slots = same-items slot_text 5 length_slot slots

pub length_slots : (slots : List FilledSlot) → length (slots_text slots) ≡ 1 + 5 * length slots
length_slots slots = simp (length-append, slots-length) (omega arith)

pub length_volumes : (volumes : List VolumeRec) → length (volumes_text volumes) ≡ 4 + length (flat_map volume_text volumes)
length_volumes volumes = simp (length-append, u32_length) (omega arith)

pub length_rows : (sets : List SetIndex) (indexed : Bool) (rows : List Record) → length (rows_by sets indexed rows) ≡ 4 + length (flat_map (λ row. listed_text indexed (listed_by sets row)) rows)
length_rows sets indexed rows = simp (length-append, u32_length) (omega arith)

pub length_lists : (lists : ResourceLists)
    → length (lists_text lists)
    ≡ 4 + length (flat_map (λ policy. resource_text (resources.Policy policy)) lists.policies) + length (flat_map (λ pool. resource_text (resources.Pool pool)) lists.pools)
    + length (flat_map (λ client. resource_text (resources.Client client)) lists.clients) + length (flat_map (λ schedule. resource_text (resources.Schedule schedule)) lists.schedules)
    + length (flat_map (λ group. resource_text (resources.Group group)) lists.groups)
length_lists lists = simp (length-append, u32_length) (omega arith)

pub length_snapshot : (indexed : Bool) (catalogue : Catalogue)
    → length (snapshot_text indexed catalogue)
    ≡ 34 + length (lists_text (lists_of catalogue)) + length (slots_text catalogue.slots) + length (volumes_text catalogue.volumes) + length (rows_text indexed catalogue.index catalogue.records)
length_snapshot indexed catalogue =
    let front = front_text catalogue in
    let lists = lists_text (lists_of catalogue) in
    let slots = slots_text catalogue.slots in
    let volumes = volumes_text catalogue.volumes in
    omega (
      arith,
      length-front catalogue,
      length-append front lists,
      length-append (front ++ lists) slots,
      length-append (front ++ lists ++ slots) volumes,
      length-append (front ++ lists ++ slots ++ volumes) (rows_text indexed catalogue.index catalogue.records),
    )
