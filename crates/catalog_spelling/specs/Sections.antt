-- Sections of copies as bytes.
use Rattle.std.specs.Prelude.{ℕ, ◌<◌, ◌^◌, List, ◌++◌, Ok}
use Rattle.media_db.specs.declared.copies.Section.{Section}
use Rattle.catalog_spelling.specs.Reading.{Part, ◌>>=◌}
use Rattle.catalog_spelling.specs.Fields.{
  number_bytes,
  number_at,
  number_from_at,
  number_above_at,
  given_number_at,
  number_within_at,
}
use Rattle.catalog_spelling.specs.Lists.{list_at, list_text, last_item, by_item}

-- where the last of these sections ends, and 0 where there is none
abbrev pub end_of : List Section → ℕ
end_of before = by_item 0 (λ section. section.to) (last_item before)

abbrev pub section_text : Section → List ℕ
section_text section =
    number_bytes 8 section.volid.0 ++ number_bytes 8 section.mark ++ number_bytes 8 section.first
    ++ number_bytes 8 section.last ++ number_bytes 8 section.from ++ number_bytes 8 section.to

-- a section that begins where the last of these ends
unfoldable pub section_at : List Section → List ℕ → Part Section
section_at before bytes = do
  volid ← number_at 8 bytes
  mark ← number_at 8 volid.1
  first ← number_at 8 mark.1
  last ← number_from_at 8 first.0 first.1
  from ← given_number_at 8 (end_of before) last.1
  to ← number_above_at 8 from.0 from.1
  Ok (
    record {
      volid = record { 0 = volid.0 };
      mark = mark.0;
      first = first.0;
      last = last.0;
      from = from.0;
      to = to.0;
    },
    to.1,
  )

-- the sections of a copy that is done
abbrev pub sections_text : List Section → List ℕ
sections_text sections = list_text (number_bytes 4) section_text sections

abbrev pub sections_at : List ℕ → Part (List Section)
sections_at bytes = list_at (number_within_at 4 1 4294967295) section_at bytes

-- the numbers of a section are of eight bytes
pub record FitsSection (section : Section) : Type 0 where
  pub volid : section.volid.0 < 2 ^ 64
  pub mark : section.mark < 2 ^ 64
  pub last : section.last < 2 ^ 64
  pub to : section.to < 2 ^ 64
