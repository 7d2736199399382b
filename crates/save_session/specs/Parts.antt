-- The sections of what a session sent, which grow by the parts that its pieces are placed in.
use Rattle.std.specs.Prelude.{◌≡◌, ℕ, ◌≤◌, ◌<◌, ◌==◌, Bool, ◌&&◌, false, List, [], ◌∷◌, ◌++◌}
use Rattle.std.specs.Prelude.{if◌then◌else◌, max, min}
use Rattle.media_db.specs.declared.copies.Section.{Section}

-- two sections lie in one file of one volume
abbrev pub is_same_file : Section → Section → Bool
is_same_file one other = (one.volid.0 == other.volid.0) && (one.mark == other.mark)

-- the last section lies in the file of the part
abbrev pub end_in_file_of : Section → List Section → Bool
end_in_file_of part [] = false
end_in_file_of part (section ∷ []) = is_same_file section part
end_in_file_of part (section ∷ next ∷ sections) = end_in_file_of part (next ∷ sections)

-- a section with the part behind it: its blocks are those from the least to the greatest of both
abbrev pub lengthened : Section → Section → Section
lengthened section part = record section {
  first = min section.first part.first;
  last = max section.last part.last;
  to = part.to;
}

-- the last section is lengthened by the part
abbrev pub lengthen_last : Section → List Section → List Section
lengthen_last part [] = []
lengthen_last part (section ∷ []) = lengthened section part ∷ []
lengthen_last part (section ∷ next ∷ sections) = section ∷ lengthen_last part (next ∷ sections)

-- Sections with one more part. It lengthens the last one where that lies in its file.
abbrev pub with_part : Section → List Section → List Section
with_part part sections =
    if end_in_file_of part sections then lengthen_last part sections else sections ++ part ∷ []

-- a section has bytes, and its least block isn't above its greatest
pub record IsSection (section : Section) : Type 0 where
  pub bytes : section.from < section.to
  pub blocks : section.first ≤ section.last

-- sections, each of which begins where the one before ends, the first at this offset
abbrev pub AreSectionsFrom : ℕ → List Section → Type 0
AreSectionsFrom place [] = Unit {0}
AreSectionsFrom place (section ∷ sections) =
    (section.from ≡ place) × IsSection section × AreSectionsFrom section.to sections

-- sections that follow each other from the stream's beginning on
abbrev pub AreSections : List Section → Type 0
AreSections sections = AreSectionsFrom 0 sections

-- where sections end that begin at this offset
abbrev pub end_from : ℕ → List Section → ℕ
end_from place [] = place
end_from place (section ∷ sections) = end_from section.to sections

-- where sections end; 0 for none
abbrev pub end_of : List Section → ℕ
end_of sections = end_from 0 sections

-- a part may follow these sections: it begins where they end
pub record IsNextPart (part : Section) (sections : List Section) : Type 0 where
  pub from : part.from ≡ end_of sections
  pub run : IsSection part
