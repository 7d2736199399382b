-- What a part makes of sections.
use Rattle.std.proofs.Common.{◌≡◌, ℕ, suc, ◌-◌, ◌<◌, Bool, true, false, List, [], ◌∷◌, ◌++◌, length, get_or, set, cond, refl, sym, ap, ◌∙◌, arith}
use Rattle.std.proofs.lemmas.Bool.{cond-true, cond-false, true≢false}
use Rattle.media_db.specs.declared.copies.Section.{Section}
use Rattle.save_session.specs.Parts.{IsSection, AreSectionsFrom, end_from, end_in_file_of, is_same_file, lengthened, lengthen_last, with_part}

-- ---- in a list

back : (section next : Section) (sections : List Section) → length (section ∷ next ∷ sections) - 1 ≡ suc (length (next ∷ sections) - 1)
back section next sections = omega arith

-- the last section is in the file, or isn't
pub last_in_file : (sections : List Section) (last part : Section) → 0 < length sections → last ≡ get_or sections (length sections - 1) last
    → is_same_file last part ≡ end_in_file_of part sections
last_in_file [] last part some is = absurd (omega arith)
last_in_file (section ∷ []) last part some is = ap (λ (s : Section). is_same_file s part) is
last_in_file (section ∷ next ∷ sections) last part some is =
    last_in_file (next ∷ sections) last part (omega arith) (is ∙ ap (λ i. get_or (section ∷ next ∷ sections) i last) (back section next sections))

pub none_in_file : (sections : List Section) (part : Section) → length sections ≡ 0 → false ≡ end_in_file_of part sections
none_in_file [] part none = refl
none_in_file (section ∷ sections) part none = absurd (omega arith)

pub in_file_some : (sections : List Section) (part : Section) → end_in_file_of part sections ≡ true → 0 < length sections
in_file_some [] part is = absurd (true≢false (sym is))
in_file_some (section ∷ sections) part is = omega arith

lengthened_at : (sections : List Section) (last part : Section) → 0 < length sections → last ≡ get_or sections (length sections - 1) last
    → set sections (length sections - 1) (lengthened last part) ≡ lengthen_last part sections
lengthened_at [] last part some is = absurd (omega arith)
lengthened_at (section ∷ []) last part some is = ap (λ (s : Section). lengthened s part ∷ []) is
lengthened_at (section ∷ next ∷ sections) last part some is =
    ap (λ i. set (section ∷ next ∷ sections) i (lengthened last part)) (back section next sections)
    ∙ ap (λ rest. section ∷ rest)
    (lengthened_at (next ∷ sections) last part (omega arith) (is ∙ ap (λ i. get_or (section ∷ next ∷ sections) i last) (back section next sections)))

-- the last section is lengthened
pub part_joins : (sections : List Section) (last part : Section) → end_in_file_of part sections ≡ true → last ≡ get_or sections (length sections - 1) last
    → set sections (length sections - 1) (lengthened last part) ≡ with_part part sections
part_joins sections last part one is =
    lengthened_at sections last part (in_file_some sections part one) is
    ∙ sym (cond-true (end_in_file_of part sections) (lengthen_last part sections) (sections ++ part ∷ []) one)

-- or the part is added
pub part_added : (sections : List Section) (part : Section) → end_in_file_of part sections ≡ false → sections ++ part ∷ [] ≡ with_part part sections
part_added sections part other = sym (cond-false (end_in_file_of part sections) (lengthen_last part sections) (sections ++ part ∷ []) other)

-- ---- the last section

-- the sections end where it ends
pub last_ends : (place : ℕ) (sections : List Section) (last : Section) → 0 < length sections → last ≡ get_or sections (length sections - 1) last → end_from place sections ≡ last.to
last_ends place [] last some is = absurd (omega arith)
last_ends place (section ∷ []) last some is = ap (λ (s : Section). s.to) (sym is)
last_ends place (section ∷ next ∷ sections) last some is =
    last_ends section.to (next ∷ sections) last (omega arith) (is ∙ ap (λ i. get_or (section ∷ next ∷ sections) i last) (back section next sections))

-- ---- sections follow each other

module _ (part : Section) (run : IsSection part) where
  longer_follow : (place : ℕ) (sections : List Section) → AreSectionsFrom place sections → part.from ≡ end_from place sections
      → AreSectionsFrom place (lengthen_last part sections)
  longer_follow place [] follow next = tt
  longer_follow place (section ∷ []) follow next =
      (follow.0, record { bytes = omega (arith, follow.1.bytes, run.bytes, next); blocks = omega (arith, follow.1.blocks, run.blocks) }, tt)
  longer_follow place (section ∷ other ∷ sections) follow next =
      (follow.0, follow.1, longer_follow section.to (other ∷ sections) follow.2 next)

  pub one_more_follows : (place : ℕ) (sections : List Section) → AreSectionsFrom place sections → part.from ≡ end_from place sections → AreSectionsFrom place (sections ++ part ∷ [])
  one_more_follows place [] follow next = (next, run, tt)
  one_more_follows place (section ∷ sections) follow next = (follow.0, follow.1, one_more_follows section.to sections follow.2 next)

  pub part_follows : (place : ℕ) (sections : List Section) → AreSectionsFrom place sections → part.from ≡ end_from place sections
      → AreSectionsFrom place (with_part part sections)
  part_follows place sections follow next = by (end_in_file_of part sections)
    where
      by : (one : Bool) → AreSectionsFrom place (cond one (lengthen_last part sections) (sections ++ part ∷ []))
      by true = longer_follow place sections follow next
      by false = one_more_follows place sections follow next

  longer_ends : (place : ℕ) (sections : List Section) → end_in_file_of part sections ≡ true → end_from place (lengthen_last part sections) ≡ part.to
  longer_ends place [] is = absurd (true≢false (sym is))
  longer_ends place (section ∷ []) is = refl
  longer_ends place (section ∷ other ∷ sections) is = longer_ends section.to (other ∷ sections) is

  pub one_more_ends : (place : ℕ) (sections : List Section) → end_from place (sections ++ part ∷ []) ≡ part.to
  one_more_ends place [] = refl
  one_more_ends place (section ∷ sections) = one_more_ends section.to sections

  -- the sections end where the part ends
  pub part_ends : (place : ℕ) (sections : List Section) → end_from place (with_part part sections) ≡ part.to
  part_ends place sections = by (end_in_file_of part sections) refl
    where
      by : (one : Bool) → end_in_file_of part sections ≡ one → end_from place (cond one (lengthen_last part sections) (sections ++ part ∷ [])) ≡ part.to
      by true is = longer_ends place sections is
      by false is = one_more_ends place sections
