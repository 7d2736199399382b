-- How long changes are.
use Rattle.std.proofs.Common.{◌≡◌, ℕ, ◌+◌, ◌*◌, ◌<◌, ◌^◌, List, length, arith}
use Rattle.std.specs.List.{flat_map}
use Rattle.std.proofs.lemmas.List.{length-append}
use Rattle.media_db.specs.declared.copies.Section.{Section}
use Rattle.room_base.specs.declared.numbers.Cart.{Cart}
use Rattle.room_base.specs.declared.numbers.CopyNo.{CopyNo}
use Rattle.room_base.specs.declared.numbers.Moment.{Moment}
use Rattle.room_base.specs.declared.numbers.Ssid.{Ssid}
use Rattle.room_base.specs.declared.numbers.Volid.{Volid}
use Rattle.save_stream.specs.Spelling.{IsHead, head_text}
use Rattle.save_stream.specs.declared.entry.IndexEntry.{IndexEntry}
use Rattle.save_stream.specs.declared.head.SetHead.{SetHead}
use Rattle.save_stream.proofs.Lengths.{length-head_text}
use Rattle.catalog_change.specs.declared.change.Change.{Change}
use Rattle.catalog_change.specs.declared.change.Change.TheVariants.{Defined, Dropped, Loaded, Labelled, Finished, Amended, Purged, CopyBegun, CopyDone, IndexPart}
use Rattle.catalog_change.specs.declared.resource.Resource.{Resource}
use Rattle.catalog_change.specs.declared.resource.ResourceKind.{ResourceKind}
use Rattle.catalog_spelling.specs.Sections.{section_text}
use Rattle.catalog_spelling.specs.Entries.{entry_text}
use Rattle.catalog_spelling.specs.Resources.{resource_text}
use Rattle.catalog_spelling.specs.Changes.{ssid_text, stream_text, fields_text, change_text}
use Rattle.catalog_text.proofs.Lengths.{u32_length, u64_length, length_section}
use Rattle.catalog_text.proofs.ResourceLengths.{same-items}

pub length_change : (moment : ℕ) (change : Change) → length (change_text moment change) ≡ 9 + length (fields_text change)
length_change moment change = simp (length-append, u64_length) (omega arith)

sections-length : (sections : List Section) → length (flat_map section_text sections) ≡ length sections * 48
sections-length sections = same-items section_text 48 length_section sections

ssids-length : (ssids : List Ssid) → length (flat_map ssid_text ssids) ≡ length ssids * 8
ssids-length ssids = same-items ssid_text 8 (λ ssid. u64_length ssid.0) ssids

pub length_stream : (ssid : Ssid) (files bytes : ℕ) (digest : List ℕ) (sections : List Section) → length (stream_text ssid files bytes digest sections) ≡ 24 + length digest + 48 * length sections
length_stream ssid files bytes digest sections = simp (length-append, u32_length, u64_length, sections-length) (omega arith)

pub length-defined : (resources : List Resource) → length (fields_text (Defined resources)) ≡ 4 + length (flat_map resource_text resources)
length-defined resources = simp (length-append, u32_length) (omega arith)

pub length-dropped : (kind : ResourceKind) (name : List ℕ) → length (fields_text (Dropped kind name)) ≡ 2 + length name
length-dropped kind name = omega arith

pub length-loaded : (slot : ℕ) (cart : Cart) → length (fields_text (Loaded slot cart)) ≡ 5
length-loaded slot cart = omega (arith, u32_length cart.0)

pub length-labelled : (volid : Volid) (cart : Cart) (pool : List ℕ) (capacity : ℕ) (was : Volid) → length (fields_text (Labelled volid cart pool capacity was)) ≡ 25 + length pool
length-labelled volid cart pool capacity was = simp (length-append, u32_length, u64_length) (omega arith)

pub length-finished : (ssid : Ssid) (files bytes : ℕ) (digest : List ℕ) (sections : List Section) (index : List IndexEntry)
    → length (fields_text (Finished ssid files bytes digest sections index)) ≡ 28 + length digest + 48 * length sections + length (flat_map entry_text index)
length-finished ssid files bytes digest sections index = simp (length-append, u32_length, u64_length, sections-length) (omega arith)

pub length-amended : (ssid : Ssid) (browse retain : Moment) (hold : _) → length (fields_text (Amended ssid browse retain hold)) ≡ 25
length-amended ssid browse retain hold = simp (length-append, u64_length) (omega arith)

pub length-purged : (ssids : List Ssid) → length (fields_text (Purged ssids)) ≡ 4 + 8 * length ssids
length-purged ssids = simp (length-append, u32_length, ssids-length) (omega arith)

pub length-copy_begun : (ssid : Ssid) (copy : CopyNo) → length (fields_text (CopyBegun ssid copy)) ≡ 12
length-copy_begun ssid copy = simp (length-append, u32_length, u64_length) (omega arith)

pub length-copy_done : (ssid : Ssid) (copy : CopyNo) (sections : List Section) (removed : CopyNo) → length (fields_text (CopyDone ssid copy sections removed)) ≡ 20 + 48 * length sections
length-copy_done ssid copy sections removed = simp (length-append, u32_length, u64_length, sections-length) (omega arith)

pub length-index_part : (ssid : Ssid) (part : ℕ) (index : List IndexEntry) → length (fields_text (IndexPart ssid part index)) ≡ 16 + length (flat_map entry_text index)
length-index_part ssid part index = simp (length-append, u32_length, u64_length) (omega arith)

pub head-bound : (head : SetHead) → IsHead head → length (head_text head) < 2 ^ 60
head-bound head is = omega (arith, length-head_text head, is.client.0.1, is.set.0.1, is.group.0, is.pool.0.1)

pub ruleset change_lengths = (u64_length, length_stream, length-defined, length-dropped, length-loaded, length-labelled, length-finished, length-amended, length-purged, length-copy_begun, length-copy_done, length-index_part, head-bound)
