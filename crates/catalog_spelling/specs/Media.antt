-- Slots, volumes and copies as bytes.
use Rattle.std.specs.Prelude.{ℕ, Bool, true, false, not, ◌&&◌, ◌||◌, ◌==◌, nat_lt, nat_le}
use Rattle.std.specs.Prelude.{List, [], ◌∷◌, ◌++◌, Ok}
use Rattle.std.specs.List.{list_any}
use Rattle.media_db.specs.Edits.{copy_no, has_done, is_done}
use Rattle.media_db.specs.Rows.{volid_of}
use Rattle.media_db.specs.declared.copies.CopyState.{CopyState}
use Rattle.media_db.specs.declared.copies.CopyState.TheVariants as copies
use Rattle.media_db.specs.declared.copies.Section.{Section}
use Rattle.media_db.specs.declared.copies.SetCopy.{SetCopy}
use Rattle.media_db.specs.declared.records.RecordState.{RecordState}
use Rattle.media_db.specs.declared.records.RecordState.TheVariants as states
use Rattle.media_db.specs.declared.volumes.VolumeRec.{VolumeRec}
use Rattle.save_stream.specs.Spelling.{short_text}
use Rattle.catalog_change.specs.declared.slot.FilledSlot.{FilledSlot}
use Rattle.catalog_change.specs.Catalogues.{
  max_copy,
  max_number,
  slot_cart,
  slot_number,
  volume_cart,
}
use Rattle.catalog_spelling.specs.Reading.{Part, ◌>>=◌, checked}
use Rattle.catalog_spelling.specs.Fields.{byte_text, byte_at, number_bytes, number_at, number_within_at, is_within, code_at, name_at}
use Rattle.catalog_spelling.specs.Lists.{list_at, list_text, last_item, by_item}
use Rattle.catalog_spelling.specs.Sections.{section_at, sections_at, sections_text}
use Rattle.catalog_spelling.specs.Changes.{max_count}

-- a number stands above that of the last of these items
abbrev pub is_above : {X : Type 0} → (X → ℕ) → List X → ℕ → Bool
is_above key before number = by_item true (λ last. nat_lt (key last) number) (last_item before)

-- none of these items has the number
abbrev pub is_free : {X : Type 0} → (X → ℕ) → List X → ℕ → Bool
is_free key before number = not (list_any (λ other. key other == number) before)

-- a cartridge that none of these items is on
abbrev pub is_free_cart : {X : Type 0} → (X → ℕ) → List X → ℕ → Bool
is_free_cart key before cart = is_within 1 256 cart && is_free key before cart

-- a number is below the next one, unless that is the greatest one
abbrev pub is_drawn : ℕ → ℕ → ℕ → Bool
is_drawn greatest next number = nat_lt number next || (next == greatest)

-- a number of an item that may stand behind these
abbrev pub is_next_drawn : {X : Type 0} → ℕ → ℕ → (X → ℕ) → List X → ℕ → Bool
is_next_drawn greatest next key before number =
    nat_le 1 number && is_drawn greatest next number && is_above key before number

-- ---- slots

abbrev pub slot_text : FilledSlot → List ℕ
slot_text filled = byte_text filled.slot ++ number_bytes 4 filled.cart.0

abbrev pub is_next_slot : List FilledSlot → ℕ → Bool
is_next_slot before slot = is_within 1 32 slot && is_above slot_number before slot

unfoldable pub slot_at : List FilledSlot → List ℕ → Part FilledSlot
slot_at before bytes = do
  slot ← checked (is_next_slot before) bytes (byte_at bytes)
  cart ← checked (is_free_cart slot_cart before) slot.1 (number_at 4 slot.1)
  Ok (record { slot = slot.0; cart = record { 0 = cart.0 } }, cart.1)

abbrev pub slots_text : List FilledSlot → List ℕ
slots_text slots = list_text byte_text slot_text slots

-- a count that is allowed where this holds
unfoldable pub count_if_at : Bool → List ℕ → Part ℕ
count_if_at allowed bytes = checked (λ count. allowed) bytes (byte_at bytes)

abbrev pub slots_at : Bool → List ℕ → Part (List FilledSlot)
slots_at allowed bytes = list_at (count_if_at allowed) slot_at bytes

-- ---- volumes

abbrev pub volume_text : VolumeRec → List ℕ
volume_text volume =
    number_bytes 8 volume.volid.0 ++ number_bytes 4 volume.cart.0 ++ short_text volume.pool
    ++ number_bytes 4 volume.capacity ++ number_bytes 8 volume.was.0

unfoldable pub volume_at : ℕ → List VolumeRec → List ℕ → Part VolumeRec
volume_at next before bytes = do
  volid ← checked (is_next_drawn max_number next volid_of before) bytes (number_at 8 bytes)
  cart ← checked (is_free_cart volume_cart before) volid.1 (number_at 4 volid.1)
  pool ← name_at 64 cart.1
  capacity ← number_within_at 4 67 1000000 pool.1
  was ← number_at 8 capacity.1
  Ok (
    record {
      volid = record { 0 = volid.0 };
      cart = record { 0 = cart.0 };
      pool = pool.0;
      capacity = capacity.0;
      was = record { 0 = was.0 };
    },
    was.1,
  )

abbrev pub volumes_text : List VolumeRec → List ℕ
volumes_text volumes = list_text (number_bytes 4) volume_text volumes

abbrev pub volumes_at : ℕ → List ℕ → Part (List VolumeRec)
volumes_at next bytes = list_at (number_within_at 4 0 max_count) (volume_at next) bytes

-- ---- copies

abbrev pub copy_kinds : List (ℕ × CopyState)
copy_kinds = (0, copies.Begun) ∷ (1, copies.Done) ∷ []

abbrev pub copy_byte : CopyState → ℕ
copy_byte copies.Begun = 0
copy_byte copies.Done = 1

abbrev pub copy_text : SetCopy → List ℕ
copy_text copy =
    number_bytes 4 copy.no.0 ++ byte_text (copy_byte copy.state) ++ sections_text copy.sections

-- a copy that is begun has no sections
unfoldable pub copy_sections_at : CopyState → List ℕ → Part (List Section)
copy_sections_at copies.Begun bytes = list_at (number_within_at 4 0 0) section_at bytes
copy_sections_at copies.Done bytes = sections_at bytes

unfoldable pub copy_at : ℕ → List SetCopy → List ℕ → Part SetCopy
copy_at next before bytes = do
  number ← checked (is_next_drawn max_copy next copy_no before) bytes (number_at 4 bytes)
  state ← code_at copy_kinds number.1
  sections ← copy_sections_at state.0 state.1
  Ok (
    record { no = record { 0 = number.0 }; state = state.0; sections = sections.0 },
    sections.1,
  )

-- copy 1 alone, which is begun
abbrev pub is_first_begun : List SetCopy → Bool
is_first_begun [] = false
is_first_begun (copy ∷ []) = (copy.no.0 == 1) && not (is_done copy.state)
is_first_begun (copy ∷ (other ∷ others)) = false

-- the copies of a record that is begun, complete or aborted
abbrev pub fits_state : RecordState → List SetCopy → Bool
fits_state states.Begun list = is_first_begun list
fits_state states.Complete list = has_done list
fits_state states.Aborted list = true

abbrev pub copies_text : List SetCopy → List ℕ
copies_text list = list_text byte_text copy_text list

-- the list is judged at its count
unfoldable pub copies_at : RecordState → ℕ → List ℕ → Part (List SetCopy)
copies_at state next bytes =
    checked (fits_state state) bytes (list_at byte_at (copy_at next) bytes)
