-- Slots, volumes and copies: what is read is spelled so and allowed, and what is allowed is read.
use Rattle.std.proofs.Common.{◌≡◌, ℕ, ◌≤◌, ◌<◌, ◌^◌, Bool, true, List, [], Some, Err, refl, sym, subst, arith}
use Rattle.std.proofs.lemmas.List.{nil_from_length}
use Rattle.media_db.specs.Edits.{copy_no}
use Rattle.media_db.specs.Rows.{volid_of}
use Rattle.media_db.specs.declared.copies.CopyState.{CopyState}
use Rattle.media_db.specs.declared.copies.CopyState.TheVariants as copies
use Rattle.media_db.specs.declared.copies.Section.{Section}
use Rattle.media_db.specs.declared.copies.SetCopy.{SetCopy}
use Rattle.media_db.specs.declared.records.RecordState.{RecordState}
use Rattle.media_db.specs.declared.volumes.VolumeRec.{VolumeRec}
use Rattle.save_stream.specs.Spelling.{IsNameTo}
use Rattle.catalog_change.specs.declared.slot.FilledSlot.{FilledSlot}
use Rattle.catalog_change.specs.Catalogues.{max_copy, max_number, slot_cart, volume_cart}
use Rattle.catalog_spelling.specs.Reading.{checked}
use Rattle.catalog_spelling.specs.Spelled.{Reads}
use Rattle.catalog_spelling.specs.Fields.{byte_text, byte_at, number_bytes, number_at, coded, code_at}
use Rattle.catalog_spelling.specs.Lists.{list_at}
use Rattle.catalog_spelling.specs.Sections.{section_at, section_text, sections_text}
use Rattle.catalog_spelling.specs.Changes.{max_count}
use Rattle.catalog_spelling.proofs.Steps.{start, begin, took, after, then-found, checked-reads, reads-as}
use Rattle.catalog_spelling.proofs.Fields.{byte-reads, u32-reads, u64-reads, u32-within, number-empty, name-reads, code-reads}
use Rattle.catalog_spelling.proofs.Lists.{list-reads, IsListOf}
use Rattle.catalog_spelling.proofs.SectionLaws.{IsNext, AreWhole, section-reads, sections-read}
use Rattle.catalog_spelling.specs.Media.{is_next_slot, is_free_cart, is_next_drawn, slot_text, slot_at, slots_text, slots_at, count_if_at, volume_text, volume_at, volumes_text, volumes_at, copy_kinds, copy_byte, copy_text, copy_sections_at, copy_at, copies_text, copies_at, fits_state}

byte-if : (allows : ℕ → Bool) → Reads (λ bytes. checked allows bytes (byte_at bytes)) byte_text (λ n. (n < 256) × (allows n ≡ true))
byte-if allows = checked-reads byte-reads allows refl

u32-if : (allows : ℕ → Bool) → Reads (λ bytes. checked allows bytes (number_at 4 bytes)) (number_bytes 4) (λ n. (n < 2 ^ 32) × (allows n ≡ true))
u32-if allows = checked-reads u32-reads allows (number-empty 4 (omega arith))

u64-if : (allows : ℕ → Bool) → Reads (λ bytes. checked allows bytes (number_at 8 bytes)) (number_bytes 8) (λ n. (n < 2 ^ 64) × (allows n ≡ true))
u64-if allows = checked-reads u64-reads allows (number-empty 8 (omega arith))

-- ---- slots

abbrev pub IsNextSlot : List FilledSlot → FilledSlot → Type 0
IsNextSlot before filled =
    ((filled.slot < 256) × (is_next_slot before filled.slot ≡ true)) × ((filled.cart.0 < 2 ^ 32) × (is_free_cart slot_cart before filled.cart.0 ≡ true))

pub slot-reads : (before : List FilledSlot) → Reads (slot_at before) slot_text (IsNextSlot before)
unfolding slot_at
slot-reads before = record {
  found = λ bytes are.
      then-found (byte-if (is_next_slot before)) _ _ (begin (slot_at before) bytes are) (λ slot rest slot-is goes.
      then-found (u32-if (is_free_cart slot_cart before)) _ _ goes (λ cart rest cart-is goes. (took _ goes, (slot-is, cart-is))));
  again = λ filled rest is.
      (after (u32-if (is_free_cart slot_cart before)) _ filled.cart.0 is.1
      (after (byte-if (is_next_slot before)) _ filled.slot is.0 (start (slot_at before)))).goes rest;
}

count_if-reads : (allowed : Bool) → Reads (count_if_at allowed) byte_text (λ n. (n < 256) × (allowed ≡ true))
unfolding count_if_at
count_if-reads allowed = byte-if (λ n. allowed)

abbrev pub AreSlotsIf : Bool → List FilledSlot → Type 0
AreSlotsIf allowed = IsListOf (λ n. (n < 256) × (allowed ≡ true)) IsNextSlot

pub slots-read : (allowed : Bool) → Reads (slots_at allowed) slots_text (AreSlotsIf allowed)
slots-read allowed = list-reads (count_if-reads allowed) slot_at slot_text IsNextSlot slot-reads

-- ---- volumes

abbrev pub IsNextVolume : ℕ → List VolumeRec → VolumeRec → Type 0
IsNextVolume next before volume =
    ((volume.volid.0 < 2 ^ 64) × (is_next_drawn max_number next volid_of before volume.volid.0 ≡ true))
    × ((volume.cart.0 < 2 ^ 32) × (is_free_cart volume_cart before volume.cart.0 ≡ true))
    × IsNameTo 64 volume.pool
    × ((67 ≤ volume.capacity) × (volume.capacity ≤ 1000000))
    × (volume.was.0 < 2 ^ 64)

pub volume-reads : (next : ℕ) (before : List VolumeRec) → Reads (volume_at next before) volume_text (IsNextVolume next before)
unfolding volume_at
volume-reads next before = record {
  found = λ bytes are.
      then-found (u64-if (is_next_drawn max_number next volid_of before)) _ _ (begin (volume_at next before) bytes are) (λ volid rest volid-is goes.
      then-found (u32-if (is_free_cart volume_cart before)) _ _ goes (λ cart rest cart-is goes.
      then-found (name-reads 64 (omega arith)) _ _ goes (λ pool rest pool-is goes.
      then-found (u32-within 67 1000000 (omega arith)) _ _ goes (λ capacity rest capacity-is goes.
      then-found u64-reads _ _ goes (λ was rest was-is goes. (took _ goes, (volid-is, cart-is, pool-is, capacity-is, was-is)))))));
  again = λ volume rest is.
      (after u64-reads _ volume.was.0 is.4
      (after (u32-within 67 1000000 (omega arith)) _ volume.capacity is.3
      (after (name-reads 64 (omega arith)) _ volume.pool is.2
      (after (u32-if (is_free_cart volume_cart before)) _ volume.cart.0 is.1
      (after (u64-if (is_next_drawn max_number next volid_of before)) _ volume.volid.0 is.0 (start (volume_at next before))))))).goes rest;
}

abbrev pub AreVolumesIf : ℕ → List VolumeRec → Type 0
AreVolumesIf next = IsListOf (λ n. (0 ≤ n) × (n ≤ max_count)) (IsNextVolume next)

pub volumes-read : (next : ℕ) → Reads (volumes_at next) volumes_text (AreVolumesIf next)
volumes-read next = list-reads (u32-within 0 max_count (omega arith)) (volume_at next) volume_text (IsNextVolume next) (volume-reads next)

-- ---- copies

copy_kind-again : (state : CopyState) → coded copy_kinds (copy_byte state) ≡ Some state
copy_kind-again copies.Begun = refl
copy_kind-again copies.Done = refl

copy_kind-reads : Reads (code_at copy_kinds) (λ state. byte_text (copy_byte state)) (λ state. Unit {0})
copy_kind-reads = code-reads copy_kinds copy_byte (λ state. Unit {0}) ((refl, tt), ((refl, tt), tt)) (λ state is. copy_kind-again state)

-- the sections of a copy that is begun or done
abbrev pub AreSectionsOf : CopyState → List Section → Type 0
AreSectionsOf copies.Begun sections = sections ≡ []
AreSectionsOf copies.Done sections = AreWhole sections

copy_sections-read : (state : CopyState) → Reads (copy_sections_at state) sections_text (AreSectionsOf state)
unfolding copy_sections_at
copy_sections-read copies.Begun =
    reads-as (list-reads (u32-within 0 0 (omega arith)) section_at section_text IsNext section-reads) (λ sections. sections ≡ [])
    (λ sections is. nil_from_length sections (omega (arith, is.0.1)))
    (λ sections is. subst (IsListOf (λ n. (0 ≤ n) × (n ≤ 0)) IsNext) (sym is) ((omega arith, omega arith), tt))
copy_sections-read copies.Done = sections-read

abbrev pub IsNextCopy : ℕ → List SetCopy → SetCopy → Type 0
IsNextCopy next before copy =
    ((copy.no.0 < 2 ^ 32) × (is_next_drawn max_copy next copy_no before copy.no.0 ≡ true)) × AreSectionsOf copy.state copy.sections

pub copy-reads : (next : ℕ) (before : List SetCopy) → Reads (copy_at next before) copy_text (IsNextCopy next before)
unfolding copy_at
copy-reads next before = record {
  found = λ bytes are.
      then-found (u32-if (is_next_drawn max_copy next copy_no before)) _ _ (begin (copy_at next before) bytes are) (λ number rest number-is goes.
      then-found copy_kind-reads _ _ goes (λ state rest state-is goes.
      then-found (copy_sections-read state) _ _ goes (λ sections rest sections-is goes. (took _ goes, (number-is, sections-is)))));
  again = λ copy rest is.
      (after (copy_sections-read copy.state) _ copy.sections is.1
      (after copy_kind-reads _ copy.state tt
      (after (u32-if (is_next_drawn max_copy next copy_no before)) _ copy.no.0 is.0 (start (copy_at next before))))).goes rest;
}

abbrev pub AreCopiesIf : RecordState → ℕ → List SetCopy → Type 0
AreCopiesIf state next list = IsListOf (λ n. n < 256) (IsNextCopy next) list × (fits_state state list ≡ true)

none-listed : (next : ℕ) → list_at byte_at (copy_at next) [] ≡ Err 0
unfolding list_at
none-listed next = refl

pub copies-read : (state : RecordState) (next : ℕ) → Reads (copies_at state next) copies_text (AreCopiesIf state next)
unfolding copies_at
copies-read state next = checked-reads (list-reads byte-reads (copy_at next) copy_text (IsNextCopy next) (copy-reads next)) (fits_state state) (none-listed next)
