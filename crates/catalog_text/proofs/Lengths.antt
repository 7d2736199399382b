-- How long texts are.
use Rattle.std.proofs.Common.{◌≡◌, ℕ, ◌+◌, length, refl, arith}
use Rattle.std.proofs.lemmas.List.{length-append}
use Rattle.media_db.specs.declared.copies.Section.{Section}
use Rattle.room_rules.specs.declared.schedule.Override.{Override}
use Rattle.save_stream.specs.declared.entry.IndexEntry.{IndexEntry}
use Rattle.save_stream.specs.Spelling.{short_number_text}
use Rattle.catalog_spelling.specs.Fields.{number_bytes}
use Rattle.catalog_spelling.specs.Sections.{section_text}
use Rattle.catalog_spelling.specs.Entries.{entry_text}
use Rattle.catalog_spelling.specs.Resources.{override_text}

pub u16_length : (number : ℕ) → length (number_bytes 2 number) ≡ 2
unfolding number_bytes
u16_length number = refl

pub u32_length : (number : ℕ) → length (number_bytes 4 number) ≡ 4
unfolding number_bytes
u32_length number = refl

pub u64_length : (number : ℕ) → length (number_bytes 8 number) ≡ 8
unfolding number_bytes
u64_length number = refl

pub short_number_length : (number : ℕ) → length (short_number_text number) ≡ 2
unfolding short_number_text
short_number_length number = refl

pub length_section : (section : Section) → length (section_text section) ≡ 48
unfolding number_bytes
length_section section = refl

pub length_entry : (entry : IndexEntry) → length (entry_text entry) ≡ 27 + length entry.path
length_entry entry =
    simp (length-append, u64_length, short_number_length) (omega arith)

pub length_override : (one : Override) → length (override_text one) ≡ 5
unfolding number_bytes
length_override one = refl
