-- What the sections of parts are: the longest runs that lie in one file of one volume.
use Rattle.std.specs.Prelude.{◌≡◌, ◌⊎◌, ◌≤◌, true, false, List, [], ◌∷◌, ◌++◌}
use Rattle.std.specs.List.{AllByRecursion}
use Rattle.media_db.specs.declared.copies.Section.{Section}
use Rattle.save_session.specs.Parts.{IsNextPart, AreSectionsFrom, end_from, is_same_file, with_part}

-- sections with several more parts, one after the other
abbrev pub with_parts : List Section → List Section → List Section
with_parts [] sections = sections
with_parts (part ∷ parts) sections = with_parts parts (with_part part sections)

-- each part may follow the sections of those before it
abbrev pub MayFollow : List Section → List Section → Type 0
MayFollow [] sections = Unit {0}
MayFollow (part ∷ parts) sections =
    IsNextPart part sections × MayFollow parts (with_part part sections)

-- one of the sections has it
abbrev pub OneHas : (Section → Type 0) → List Section → Type 0
OneHas P [] = ⊥
OneHas P (section ∷ sections) = P section ⊎ OneHas P sections

-- A section is these parts: they lie in its file, follow one another from its beginning to its end,
-- and its first and last block are the least and the greatest of theirs.
pub record IsRunOf (section : Section) (parts : List Section) : Type 0 where
  pub file : AllByRecursion (λ part. is_same_file section part ≡ true) parts
  pub follow : AreSectionsFrom section.from parts
  pub end : end_from section.from parts ≡ section.to
  pub least : AllByRecursion (λ part. section.first ≤ part.first) parts
  pub least_of_one : OneHas (λ part. part.first ≡ section.first) parts
  pub greatest : AllByRecursion (λ part. part.last ≤ section.last) parts
  pub greatest_of_one : OneHas (λ part. part.last ≡ section.last) parts

-- the next section lies in another file
abbrev pub ApartFrom : Section → List Section → Type 0
ApartFrom section [] = Unit {0}
ApartFrom section (next ∷ sections) = is_same_file section next ≡ false

-- sections are the longest runs of parts
abbrev pub AreLongestRuns : List Section → List Section → Type 0
AreLongestRuns [] parts = parts ≡ []
AreLongestRuns (section ∷ sections) parts =
    (run : List Section)
    × ((rest : List Section) × (parts ≡ run ++ rest) × IsRunOf section run
    × ApartFrom section sections × AreLongestRuns sections rest)
