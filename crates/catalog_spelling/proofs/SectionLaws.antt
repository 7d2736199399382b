-- Sections: what is read is spelled so, and sections that follow each other are those that are read.
use Rattle.std.proofs.Common.{◌≡◌, ℕ, List, [], ◌∷◌, ◌++◌, sym, ap, subst, arith}
use Rattle.std.specs.List.{AllByRecursion}
use Rattle.media_db.specs.declared.copies.Section.{Section}
use Rattle.catalog_change.specs.Changes.{IsSection, FollowFrom, AreSections}
use Rattle.catalog_spelling.specs.Spelled.{Reads}
use Rattle.catalog_spelling.specs.Lists.{AllBehind, by_item}
use Rattle.catalog_spelling.specs.Sections.{end_of, section_text, section_at, sections_text, sections_at, FitsSection}
use Rattle.catalog_spelling.proofs.Steps.{start, begin, took, after, then-found, reads-as}
use Rattle.catalog_spelling.proofs.Fields.{u32-within, u64-reads, u64-from, u64-above, u64-given}
use Rattle.catalog_spelling.proofs.Lists.{list-reads}
use Rattle.catalog_spelling.proofs.Behind.{last-is}

-- a section that begins where the last one ends
abbrev pub IsNext : List Section → Section → Type 0
IsNext before section = IsSection section × (section.from ≡ end_of before) × FitsSection section

pub section-reads : (before : List Section) → Reads (section_at before) section_text (IsNext before)
unfolding section_at
section-reads before = record {
  found = λ bytes are.
      then-found u64-reads _ _ (begin (section_at before) bytes are) (λ volid rest volid-is goes.
      then-found u64-reads _ _ goes (λ mark rest mark-is goes.
      then-found u64-reads _ _ goes (λ first rest first-is goes.
      then-found (u64-from first) _ _ goes (λ last rest last-is goes.
      then-found (u64-given (end_of before)) _ _ goes (λ from rest from-is goes.
      then-found (u64-above from) _ _ goes (λ to rest to-is goes. (
        took _ goes,
        (
          record { blocks = last-is.1; bytes = to-is.1 },
          from-is.1,
          record { volid = volid-is; mark = mark-is; last = last-is.0; to = to-is.0 },
        ),
      )))))));
  again = λ section rest is.
      let fits = is.2 in
      (after (u64-above section.from) _ section.to (fits.to, is.0.bytes)
      (after (u64-given (end_of before)) _ section.from (omega (arith, is.0.bytes, fits.to), is.1)
      (after (u64-from section.first) _ section.last (fits.last, is.0.blocks)
      (after u64-reads _ section.first (omega (arith, is.0.blocks, fits.last))
      (after u64-reads _ section.mark fits.mark
      (after u64-reads _ section.volid.0 fits.volid (start (section_at before)))))))).goes rest;
}

follow-is : (before sections : List Section) → AllBehind IsNext before sections → FollowFrom (end_of before) sections × AllByRecursion FitsSection sections
follow-is before [] each = (tt, tt)
follow-is before (section ∷ sections) each =
    let more = follow-is (before ++ section ∷ []) sections each.1 in
    let from : end_of (before ++ section ∷ []) ≡ section.to = ap (by_item 0 (λ (s : Section). s.to)) (last-is before section) in
    ((each.0.0, each.0.1, subst (λ (n : ℕ). FollowFrom n sections) from more.0), (each.0.2, more.1))

follow-behind : (before sections : List Section) → FollowFrom (end_of before) sections → AllByRecursion FitsSection sections → AllBehind IsNext before sections
follow-behind before [] follow fits = tt
follow-behind before (section ∷ sections) follow fits =
    let from : end_of (before ++ section ∷ []) ≡ section.to = ap (by_item 0 (λ (s : Section). s.to)) (last-is before section) in
    ((follow.0, follow.1, fits.0), follow-behind (before ++ section ∷ []) sections (subst (λ (n : ℕ). FollowFrom n sections) (sym from) follow.2) fits.1)

-- the sections of a copy that is done
abbrev pub AreWhole : List Section → Type 0
AreWhole sections = AreSections sections × AllByRecursion FitsSection sections

pub sections-read : Reads sections_at sections_text AreWhole
sections-read =
    reads-as (list-reads (u32-within 1 4294967295 (omega arith)) section_at section_text IsNext section-reads) AreWhole
    (λ sections is.
    let parts = follow-is [] sections is.1 in
    (record { some = is.0.0; count = omega (arith, is.0.1); follow = parts.0 }, parts.1))
    (λ sections is. ((is.0.some, omega (arith, is.0.count)), follow-behind [] sections is.0.follow is.1))
