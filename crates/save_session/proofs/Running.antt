-- Sections that parts were added to are the longest runs of these parts.
use Rattle.std.proofs.Common.{◌≡◌, ℕ, ◌≤◌, Bool, true, false, List, [], ◌∷◌, ◌++◌, cond, min, max, refl, sym, ap, subst, ◌∙◌, inl, inr, arith}
use Rattle.std.specs.List.{AllByRecursion}
use Rattle.std.proofs.lemmas.Bool.{cases_lt}
use Rattle.std.proofs.lemmas.Bool.Decides.{nat_tests}
use Rattle.std.proofs.lemmas.List.{append-nil, append_assoc}
use Rattle.media_db.specs.declared.copies.Section.{Section}
use Rattle.room_base.proofs.OrderedLaws.{each_weaker}
use Rattle.save_session.specs.Parts.{IsSection, AreSections, AreSectionsFrom, end_from, end_in_file_of, is_same_file, lengthened, lengthen_last, with_part}
use Rattle.save_session.specs.Runs.{ApartFrom, AreLongestRuns, IsRunOf, MayFollow, OneHas, with_parts}
use Rattle.save_session.proofs.Placing.{one_more_ends, one_more_follows, part_follows}

each_more : (P : Section → Type 0) (sections : List Section) (section : Section) → AllByRecursion P sections → P section → AllByRecursion P (sections ++ section ∷ [])
each_more P [] section each one = (one, tt)
each_more P (first ∷ sections) section each one = (each.0, each_more P sections section each.1 one)

one_more : (P : Section → Type 0) (sections : List Section) (section : Section) → OneHas P sections → OneHas P (sections ++ section ∷ [])
one_more P [] section has = absurd has
one_more P (first ∷ sections) section has = elim has [
  | inl first ↦ inl first
  | inr more ↦ inr (one_more P sections section more)
]

last_has : (P : Section → Type 0) (sections : List Section) (section : Section) → P section → OneHas P (sections ++ section ∷ [])
last_has P [] section has = inl has
last_has P (first ∷ sections) section has = inr (last_has P sections section has)

one_weaker : (P Q : Section → Type 0) → ((section : Section) → P section → Q section) → (sections : List Section) → OneHas P sections → OneHas Q sections
one_weaker P Q weaker [] has = absurd has
one_weaker P Q weaker (section ∷ sections) has = elim has [
  | inl first ↦ inl (weaker section first)
  | inr more ↦ inr (one_weaker P Q weaker sections more)
]

module _ (part : Section) (run : IsSection part) where
  alone : IsRunOf part (part ∷ [])
  alone = record {
    file = (grind (arith, nat_tests), tt);
    follow = (refl, run, tt);
    end = refl;
    least = (omega arith, tt);
    least_of_one = inl refl;
    greatest = (omega arith, tt);
    greatest_of_one = inl refl;
  }

  least_push : (first : ℕ) (parts : List Section) → OneHas (λ p. p.first ≡ first) parts → OneHas (λ p. p.first ≡ min first part.first) (parts ++ part ∷ [])
  least_push first parts has = elim (cases_lt part.first first) [
    | inl less ↦ last_has (λ p. p.first ≡ min first part.first) parts part (omega (arith, less))
    | inr more ↦ one_more (λ p. p.first ≡ min first part.first) parts part (one_weaker (λ p. p.first ≡ first) (λ p. p.first ≡ min first part.first) (λ p is. omega (arith, is, more)) parts has)
  ]

  most_push : (last : ℕ) (parts : List Section) → OneHas (λ p. p.last ≡ last) parts → OneHas (λ p. p.last ≡ max last part.last) (parts ++ part ∷ [])
  most_push last parts has = elim (cases_lt last part.last) [
    | inl less ↦ last_has (λ p. p.last ≡ max last part.last) parts part (omega (arith, less))
    | inr more ↦ one_more (λ p. p.last ≡ max last part.last) parts part (one_weaker (λ p. p.last ≡ last) (λ p. p.last ≡ max last part.last) (λ p is. omega (arith, is, more)) parts has)
  ]

  -- a longer section is its run with the part
  longer_run : (section : Section) (parts : List Section) → is_same_file section part ≡ true → part.from ≡ section.to
      → IsRunOf section parts → IsRunOf (lengthened section part) (parts ++ part ∷ [])
  longer_run section parts one next is = record {
    file = each_more (λ p. is_same_file section p ≡ true) parts part is.file one;
    follow = one_more_follows part run section.from parts is.follow (next ∙ sym is.end);
    end = one_more_ends part run section.from parts;
    least = each_more (λ p. min section.first part.first ≤ p.first) parts part
        (each_weaker (λ p. section.first ≤ p.first) (λ p. min section.first part.first ≤ p.first) (λ p above. omega (arith, above)) parts is.least) (omega arith);
    least_of_one = least_push section.first parts is.least_of_one;
    greatest = each_more (λ p. p.last ≤ max section.last part.last) parts part
        (each_weaker (λ p. p.last ≤ section.last) (λ p. p.last ≤ max section.last part.last) (λ p below. omega (arith, below)) parts is.greatest) (omega arith);
    greatest_of_one = most_push section.last parts is.greatest_of_one;
  }

  behind : (section next : Section) (sections : List Section) → with_part part (section ∷ next ∷ sections) ≡ section ∷ with_part part (next ∷ sections)
  behind section next sections = by (end_in_file_of part (next ∷ sections))
    where
      by : (one : Bool) → cond one (section ∷ lengthen_last part (next ∷ sections)) (section ∷ next ∷ (sections ++ part ∷ []))
          ≡ section ∷ cond one (lengthen_last part (next ∷ sections)) (next ∷ (sections ++ part ∷ []))
      by true = refl
      by false = refl

  apart_stays : (section next : Section) (sections : List Section) → ApartFrom section (next ∷ sections) → ApartFrom section (with_part part (next ∷ sections))
  apart_stays section next [] apart = by (is_same_file next part)
    where
      by : (one : Bool) → ApartFrom section (cond one (lengthened next part ∷ []) (next ∷ part ∷ []))
      by true = apart
      by false = apart
  apart_stays section next (other ∷ sections) apart = subst (ApartFrom section) (sym (behind next other sections)) apart

  -- with one more part they are the runs of one part more
  pub runs_more : (place : ℕ) (sections parts : List Section) → AreSectionsFrom place sections → part.from ≡ end_from place sections → AreLongestRuns sections parts → AreLongestRuns (with_part part sections) (parts ++ part ∷ [])
  runs_more place [] parts follow next is =
      (part ∷ [], ([], ap (λ ps. ps ++ part ∷ []) is, alone, tt, refl))
  runs_more place (section ∷ []) parts follow next (now, (rest, split, of, apart, none)) = by (is_same_file section part) refl
    where
      all : parts ≡ now
      all = split ∙ ap (λ ps. now ++ ps) none ∙ append-nil now

      by : (one : Bool) → is_same_file section part ≡ one → AreLongestRuns (cond one (lengthened section part ∷ []) (section ∷ part ∷ [])) (parts ++ part ∷ [])
      by true is = (now ++ part ∷ [], ([], ap (λ ps. ps ++ part ∷ []) all ∙ sym (append-nil (now ++ part ∷ [])), longer_run section now is next of, tt, refl))
      by false is = (now, (part ∷ [], ap (λ ps. ps ++ part ∷ []) all, of, is, (part ∷ [], ([], refl, alone, tt, refl))))
  runs_more place (section ∷ other ∷ sections) parts follow next (now, (rest, split, of, apart, more)) =
      subst (λ ss. AreLongestRuns ss (parts ++ part ∷ [])) (sym (behind section other sections)) (
        now,
        (
          rest ++ part ∷ [],
          ap (λ ps. ps ++ part ∷ []) split ∙ append_assoc now rest (part ∷ []),
          of,
          apart_stays section other sections apart,
          runs_more section.to (other ∷ sections) rest follow.2 next more,
        ),
      )

all_runs : (sections done parts : List Section) → AreSections sections → AreLongestRuns sections done → MayFollow parts sections
    → AreLongestRuns (with_parts parts sections) (done ++ parts)
all_runs sections done [] are is follow = subst (AreLongestRuns sections) (sym (append-nil done)) is
all_runs sections done (part ∷ parts) are is follow =
    let next = follow.0 in
    subst (AreLongestRuns (with_parts parts (with_part part sections))) (append_assoc done (part ∷ []) parts)
    (all_runs (with_part part sections) (done ++ part ∷ []) parts (part_follows part next.run 0 sections are next.from)
    (runs_more part next.run 0 sections done are next.from is) follow.1)

pub parts_are_runs : (parts : List Section) → MayFollow parts [] → AreLongestRuns (with_parts parts []) parts
parts_are_runs parts follow = all_runs [] [] parts tt refl follow

all_sections : (sections parts : List Section) → AreSections sections → MayFollow parts sections → AreSections (with_parts parts sections)
all_sections sections [] are follow = are
all_sections sections (part ∷ parts) are follow =
    let next = follow.0 in
    all_sections (with_part part sections) parts (part_follows part next.run 0 sections are next.from) follow.1

pub parts_are_sections : (parts : List Section) → MayFollow parts [] → AreSections (with_parts parts [])
parts_are_sections parts follow = all_sections [] parts tt follow
