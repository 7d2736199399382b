-- The sections of chunks in order.
use Rattle.std.proofs.Common.{◌≡◌, ℕ, ◌+◌, ◌≤◌, List, [], ◌∷◌, ◌++◌, Bool, true, false, cond, ◌&&◌, ◌==◌, min, max, All, refl, sym, ap, subst, ◌∙◌, arith, append_assoc, inl, inr, ◌⊎◌}
use Rattle.std.proofs.lemmas.Bool.{cases_lt}
use Rattle.std.proofs.lemmas.Bool.Decides.{nat_tests}
use Rattle.std.proofs.lemmas.List.{append-nil}
use Rattle.std.proofs.lemmas.List.Elements.{All-head, All-tail, Contains-append_left, Contains-push}
use Rattle.std.specs.List.{AllByRecursion, AllZip, Contains, flat_map, fold}
use Rattle.std.specs.Prelude.{◌≢◌, nat_lt}
use Rattle.chunk_mux.specs.Sections.{SectionText, section_of, grown, is_same_file, add_section, sections_of, IsSectionOf, ChangeFiles, SplitInto, JoinSections}
use Rattle.chunk_mux.specs.Tiles.{IsInStream, tiling_from}
use Rattle.chunk_mux.specs.declared.tiling.Placed.{Placed}
use Rattle.chunk_mux.specs.declared.tiling.Tiling.TheVariants.{Whole}
use Rattle.chunk_mux.proofs.Walking.{goes_on, same_place, whole_same}

-- ---- one file or another

file_same : (one two three four : ℕ) → ((one == two) && (three == four)) ≡ true → (one ≡ two) × (three ≡ four)
file_same one two three four is = (grind (arith, nat_tests), grind (arith, nat_tests))

not_same : (one two : ℕ) → (one == two) ≡ false → one ≢ two
not_same one two is = λ same. grind (arith, nat_tests)

file_other : (one two three four : ℕ) → ((one == two) && (three == four)) ≡ false → (one ≢ two) ⊎ (three ≢ four)
file_other one two three four is = tests (one == two) refl
  where
    tests : (test : Bool) → (one == two) ≡ test → (one ≢ two) ⊎ (three ≢ four)
    tests false first = inl (not_same one two first)
    tests true first = inr (not_same three four (ap (λ (b : Bool). b && (three == four)) (sym first) ∙ is))

-- ---- one chunk more

abbrev InFile : SectionText → List Placed → Type 0
InFile section run = AllByRecursion (λ (chunk : Placed). (chunk.volid.0 ≡ section.volid) × (chunk.mark ≡ section.mark)) run

file_push : (section : SectionText) (run : List Placed) (chunk : Placed) → InFile section run → chunk.volid.0 ≡ section.volid
    → chunk.mark ≡ section.mark → InFile section (run ++ chunk ∷ [])
file_push section [] chunk all volid mark = ((volid, mark), tt)
file_push section (one ∷ run) chunk all volid mark = (all.0, file_push section run chunk all.1 volid mark)

within_push : (first last : ℕ) (run : List Placed) (chunk : Placed)
    → AllByRecursion (λ (one : Placed). (first ≤ one.block) × (one.block ≤ last)) run
    → AllByRecursion (λ (one : Placed). (min first chunk.block ≤ one.block) × (one.block ≤ max last chunk.block)) (run ++ chunk ∷ [])
within_push first last [] chunk all = ((omega arith, omega arith), tt)
within_push first last (one ∷ run) chunk all = ((omega (arith, all.0), omega (arith, all.0)), within_push first last run chunk all.1)

abbrev HasBlock : ℕ → List Placed → Type 0
HasBlock block run = (one : Placed) × Contains run one × (one.block ≡ block)

least_push : (first : ℕ) (run : List Placed) (chunk : Placed) → HasBlock first run → HasBlock (min first chunk.block) (run ++ chunk ∷ [])
least_push first run chunk (one, among, is) = elim (cases_lt chunk.block first) [
  | inl less ↦ (chunk, Contains-push run chunk, omega arith)
  | inr more ↦ (one, Contains-append_left run (chunk ∷ []) one among, omega (arith, is))
]

most_push : (last : ℕ) (run : List Placed) (chunk : Placed) → HasBlock last run → HasBlock (max last chunk.block) (run ++ chunk ∷ [])
most_push last run chunk (one, among, is) = elim (cases_lt last chunk.block) [
  | inl less ↦ (chunk, Contains-push run chunk, omega arith)
  | inr more ↦ (one, Contains-append_left run (chunk ∷ []) one among, omega (arith, is))
]

section_grown : (run : List Placed) (section : SectionText) (chunk : Placed) → IsSectionOf run section → chunk.volid.0 ≡ section.volid
    → chunk.mark ≡ section.mark → IsSectionOf (run ++ chunk ∷ []) (grown section chunk)
section_grown run section chunk is volid mark = record {
  in_file = file_push section run chunk is.in_file volid mark;
  within = within_push section.first section.last run chunk is.within;
  first = least_push section.first run chunk is.first;
  last = most_push section.last run chunk is.last;
  from = (is.from.0, is.from.1 ++ chunk ∷ [], ap (λ (xs : List Placed). xs ++ chunk ∷ []) is.from.2, is.from.3);
  to = (chunk, run, refl, refl);
}

section_one : (chunk : Placed) → IsSectionOf (chunk ∷ []) (section_of chunk)
section_one chunk = record {
  in_file = ((refl, refl), tt);
  within = ((omega arith, omega arith), tt);
  first = (chunk, Contains-push [] chunk, refl);
  last = (chunk, Contains-push [] chunk, refl);
  from = (chunk, [], refl, refl);
  to = (chunk, [], refl, refl);
}

abbrev all_of : List (List Placed) → List Placed
all_of runs = flat_map (λ (run : List Placed). run) runs

-- the sections with a chunk behind them
record Added (runs : List (List Placed)) (sections : List SectionText) (chunk : Placed) : Type 0 where
  pub more : List (List Placed)
  pub whole : all_of more ≡ all_of runs ++ chunk ∷ []
  pub each : AllZip IsSectionOf more (add_section sections chunk)
  pub longest : ChangeFiles (add_section sections chunk)

-- the first section stays in its file
record HasFirst (section : SectionText) (sections : List SectionText) : Type 0 where
  pub first : SectionText
  pub rest : List SectionText
  pub is : sections ≡ first ∷ rest
  pub volid : first.volid ≡ section.volid
  pub mark : first.mark ≡ section.mark

has_first : (section : SectionText) (more : List SectionText) (chunk : Placed) → HasFirst section (add_section (section ∷ more) chunk)
has_first section [] chunk = at_end (is_same_file section chunk)
  where
    at_end : (same : Bool) → HasFirst section (cond same (grown section chunk ∷ []) (section ∷ section_of chunk ∷ []))
    at_end true = record { first = grown section chunk; rest = []; is = refl; volid = refl; mark = refl }
    at_end false = record { first = section; rest = section_of chunk ∷ []; is = refl; volid = refl; mark = refl }
has_first section (next ∷ more) chunk =
    record { first = section; rest = add_section (next ∷ more) chunk; is = refl; volid = refl; mark = refl }

change_front : (section next : SectionText) (sections : List SectionText) → (section.volid ≢ next.volid) ⊎ (section.mark ≢ next.mark)
    → HasFirst next sections → ChangeFiles sections → ChangeFiles (section ∷ sections)
change_front section next sections differ has change =
    let here : (section.volid ≢ has.first.volid) ⊎ (section.mark ≢ has.first.mark) = elim differ [
      | inl volids ↦ inl (λ same. volids (same ∙ has.volid))
      | inr marks ↦ inr (λ same. marks (same ∙ has.mark))
    ] in
    subst (λ (all : List SectionText). ChangeFiles (section ∷ all)) (sym has.is) (here, subst ChangeFiles has.is change)

at_end : (run : List Placed) (section : SectionText) (chunk : Placed) (same : Bool) → is_same_file section chunk ≡ same → IsSectionOf run section
    → Added (run ∷ []) (section ∷ []) chunk
at_end run section chunk true is each =
    let file = file_same section.volid chunk.volid.0 section.mark chunk.mark is in
    let now : add_section (section ∷ []) chunk ≡ grown section chunk ∷ [] =
    ap (λ (same : Bool). cond same (grown section chunk ∷ []) (section ∷ section_of chunk ∷ [])) is in
    record {
      more = (run ++ chunk ∷ []) ∷ [];
      whole = append-nil (run ++ chunk ∷ []) ∙ ap (λ (xs : List Placed). xs ++ chunk ∷ []) (sym (append-nil run));
      each = subst (AllZip IsSectionOf ((run ++ chunk ∷ []) ∷ [])) (sym now)
          (section_grown run section chunk each (sym file.0) (sym file.1), tt);
      longest = subst ChangeFiles (sym now) tt;
    }
at_end run section chunk false is each =
    let file = file_other section.volid chunk.volid.0 section.mark chunk.mark is in
    let now : add_section (section ∷ []) chunk ≡ section ∷ section_of chunk ∷ [] =
    ap (λ (same : Bool). cond same (grown section chunk ∷ []) (section ∷ section_of chunk ∷ [])) is in
    record {
      more = run ∷ (chunk ∷ []) ∷ [];
      whole = ap (λ (xs : List Placed). xs ++ chunk ∷ []) (sym (append-nil run));
      each = subst (AllZip IsSectionOf (run ∷ (chunk ∷ []) ∷ [])) (sym now) (each, (section_one chunk, tt));
      longest = subst ChangeFiles (sym now) (file, tt);
    }

added : (runs : List (List Placed)) (sections : List SectionText) (chunk : Placed) → AllZip IsSectionOf runs sections → ChangeFiles sections
    → Added runs sections chunk
added [] [] chunk each longest =
    record { more = (chunk ∷ []) ∷ []; whole = refl; each = (section_one chunk, tt); longest = tt }
added [] (section ∷ sections) chunk each longest = absurd each
added (run ∷ runs) [] chunk each longest = absurd each
added (run ∷ []) (section ∷ []) chunk each longest = at_end run section chunk (is_same_file section chunk) refl each.0
added (run ∷ []) (section ∷ next ∷ sections) chunk each longest = absurd each.1
added (run ∷ other ∷ runs) (section ∷ []) chunk each longest = absurd each.1
added (run ∷ other ∷ runs) (section ∷ next ∷ sections) chunk each longest =
    let rest = added (other ∷ runs) (next ∷ sections) chunk each.1 longest.1 in
    record {
      more = run ∷ rest.more;
      whole = ap (λ (xs : List Placed). run ++ xs) rest.whole ∙ sym (append_assoc run (all_of (other ∷ runs)) (chunk ∷ []));
      each = (each.0, rest.each);
      longest = change_front section next (add_section (next ∷ sections) chunk) longest.0 (has_first next sections chunk) rest.longest;
    }

split_on : (done rest : List Placed) (sections : List SectionText) → SplitInto done sections → SplitInto (done ++ rest) (fold add_section sections rest)
split_on done [] sections split = subst (λ (chunks : List Placed). SplitInto chunks sections) (sym (append-nil done)) split
split_on done (chunk ∷ rest) sections split =
    let next = added split.runs sections chunk split.each split.longest in
    subst (λ (chunks : List Placed). SplitInto chunks (fold add_section (add_section sections chunk) rest)) (append_assoc done (chunk ∷ []) rest)
    (split_on (done ++ chunk ∷ []) rest (add_section sections chunk) (record {
      runs = next.more;
      whole = next.whole ∙ ap (λ (xs : List Placed). xs ++ chunk ∷ []) split.whole;
      each = next.each;
      longest = next.longest;
    }))

pub sections_split : (run : List Placed) → SplitInto run (sections_of run)
sections_split run = split_on [] run [] (record { runs = []; whole = refl; each = tt; longest = tt })

-- ---- sections that join

join_end : (place end : ℕ) (last : SectionText) (chunk : Placed) (same : Bool) → JoinSections place (last ∷ []) end → chunk.offset ≡ end
    → 1 ≤ chunk.length
    → JoinSections place (cond same (grown last chunk ∷ []) (last ∷ section_of chunk ∷ [])) (end + chunk.length)
join_end place end last chunk true joins at some = (joins.0, omega (arith, joins.1, joins.2), omega arith)
join_end place end last chunk false joins at some = (joins.0, joins.1, (at ∙ sym joins.2, omega arith, omega arith))

join_more : (place end : ℕ) (sections : List SectionText) (chunk : Placed) → JoinSections place sections end → chunk.offset ≡ end → 1 ≤ chunk.length
    → JoinSections place (add_section sections chunk) (end + chunk.length)
join_more place end [] chunk joins at some = (at ∙ sym joins, omega arith, omega arith)
join_more place end (last ∷ []) chunk joins at some = join_end place end last chunk (is_same_file last chunk) joins at some
join_more place end (section ∷ next ∷ more) chunk joins at some =
    (joins.0, joins.1, join_more section.to end (next ∷ more) chunk joins.2 at some)

joins_on : (place end : ℕ) (sections : List SectionText) (run : List Placed) → JoinSections 0 sections place → All IsInStream run
    → tiling_from place run ≡ Whole end → JoinSections 0 (fold add_section sections run) end
joins_on place end sections [] joins each is = subst (JoinSections 0 sections) (whole_same place end is) joins
joins_on place end sections (chunk ∷ run) joins each is =
    let on = goes_on (nat_lt place chunk.offset) (nat_lt chunk.offset place) place chunk.offset end (tiling_from (place + chunk.length) run) is in
    let at : chunk.offset ≡ place = same_place place chunk.offset on.0 on.1 in
    joins_on (place + chunk.length) end (add_section sections chunk) run
    (join_more 0 place sections chunk joins at (All-head IsInStream chunk run each).0) (All-tail IsInStream chunk run each) on.2

pub sections_join : (end : ℕ) (run : List Placed) → All IsInStream run → tiling_from 0 run ≡ Whole end → JoinSections 0 (sections_of run) end
sections_join end run each is = joins_on 0 end [] run refl each is
