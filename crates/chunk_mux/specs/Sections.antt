-- The sections of a copy: the longest runs of its chunks, in order of offset, that lie in one
-- committed file of one volume.
use Rattle.std.specs.Prelude.{◌≡◌, ◌≢◌, ◌⊎◌, ℕ, ◌+◌, ◌≤◌, ◌<◌, List, [], ◌∷◌, ◌++◌, Bool, ◌==◌}
use Rattle.std.specs.Prelude.{◌&&◌, if◌then◌else◌, min, max}
use Rattle.std.specs.List.{AllByRecursion, AllZip, Contains, flat_map, fold}
use Rattle.chunk_mux.specs.declared.tiling.Placed.{Placed}

-- A run of chunks in the file of a volume that has its mark at `mark`: the first and the last data
-- block that hold bytes of the run, and the offsets of its first byte and behind its last.
pub record SectionText : Type 0 where
  pub volid : ℕ
  pub mark : ℕ
  pub first : ℕ
  pub last : ℕ
  pub from : ℕ
  pub to : ℕ

-- a chunk as a section
abbrev pub section_of : Placed → SectionText
section_of chunk = record {
  volid = chunk.volid.0;
  mark = chunk.mark;
  first = chunk.block;
  last = chunk.block;
  from = chunk.offset;
  to = chunk.offset + chunk.length;
}

-- the section with the chunk behind it
abbrev pub grown : SectionText → Placed → SectionText
grown section chunk = record section {
  first = min section.first chunk.block;
  last = max section.last chunk.block;
  to = chunk.offset + chunk.length;
}

abbrev pub is_same_file : SectionText → Placed → Bool
is_same_file section chunk = (section.volid == chunk.volid.0) && (section.mark == chunk.mark)

-- the sections with a chunk behind them
abbrev pub add_section : List SectionText → Placed → List SectionText
add_section [] chunk = section_of chunk ∷ []
add_section (last ∷ []) chunk =
    if is_same_file last chunk then grown last chunk ∷ [] else last ∷ section_of chunk ∷ []
add_section (section ∷ next ∷ more) chunk = section ∷ add_section (next ∷ more) chunk

-- the sections of chunks in order
abbrev pub sections_of : List Placed → List SectionText
sections_of run = fold add_section [] run

-- ---- what sections are

-- the section of chunks that follow each other in one file
pub record IsSectionOf (run : List Placed) (section : SectionText) : Type 0 where
  pub in_file : AllByRecursion
      (λ (chunk : Placed). (chunk.volid.0 ≡ section.volid) × (chunk.mark ≡ section.mark)) run
  pub within : AllByRecursion
      (λ (chunk : Placed). (section.first ≤ chunk.block) × (chunk.block ≤ section.last)) run
  pub first : (chunk : Placed) × Contains run chunk × (chunk.block ≡ section.first)
  pub last : (chunk : Placed) × Contains run chunk × (chunk.block ≡ section.last)
  pub from : (chunk : Placed) × (behind : List Placed) × (run ≡ chunk ∷ behind)
      × (section.from ≡ chunk.offset)
  pub to : (chunk : Placed) × (before : List Placed) × (run ≡ before ++ chunk ∷ [])
      × (section.to ≡ chunk.offset + chunk.length)

-- each is in another file than the one before it
abbrev pub ChangeFiles : List SectionText → Type 0
ChangeFiles [] = Unit {0}
ChangeFiles (section ∷ []) = Unit {0}
ChangeFiles (section ∷ next ∷ more) =
    ((section.volid ≢ next.volid) ⊎ (section.mark ≢ next.mark)) × ChangeFiles (next ∷ more)

-- the chunks are split into the runs of these sections, none of which could be longer
pub record SplitInto (chunks : List Placed) (sections : List SectionText) : Type 0 where
  pub runs : List (List Placed)
  pub whole : flat_map (λ (run : List Placed). run) runs ≡ chunks
  pub each : AllZip IsSectionOf runs sections
  pub longest : ChangeFiles sections

-- the sections have bytes, follow each other from this place on, and end at that one
abbrev pub JoinSections : ℕ → List SectionText → ℕ → Type 0
JoinSections place [] end = place ≡ end
JoinSections place (section ∷ more) end =
    (section.from ≡ place) × (section.from < section.to) × JoinSections section.to more end
