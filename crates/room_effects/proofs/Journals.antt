-- The journal's files stay those that the room knows.
use Rattle.std.proofs.Common.{◌≡◌, ◌≢◌, ℕ, ◌+◌, ◌^◌, ◌<◌, ◌≤◌, List, [], length, refl, sym, subst, arith, inl, inr}
use Rattle.std.proofs.lemmas.Bool.{cases_eq}
use Rattle.std.specs.Prelude.{Option, Some, None, IsSome, IsTrue, Ok}
use Rattle.room_disk.specs.Crash.{IsAnew, AnewTorn}
use Rattle.room_disk.specs.Disk.{DiskView, Image, Others, Quiet, Settled}
use Rattle.room_disk.specs.Writing.{WritesFile}
use Rattle.room_disk.proofs.Runs.{settled_others, settled_quiet}
use Rattle.cat_journal.specs.Contents.{Contents, IsFront, contents_of, with_payload}
use Rattle.cat_journal.specs.Images.{HasContents, IsJournal}
use Rattle.cat_journal.specs.Journal.{JournalView, AddsEntry, IsKnown, IsPart, KnowsFiles, MayAddEntry, StandOn, file_of, form_of, new_text, next_file, next_generation, next_head, turned_over}
use Rattle.cat_journal.specs.Layout.{HasForm}
use Rattle.cat_journal.specs.Meaning.{Begins, Front, Shut, Open, Bad, CurrentMeans, FrontsMean, Meaning, Means}
use Rattle.cat_journal.specs.declared.current.CurrentFile.{CurrentFile}
use Rattle.cat_journal.proofs.Images.{entry_stands, has_as, number_change, number_part, turned_stands}
use Rattle.room_effects.specs.Effects.{behind_change, behind_part}

-- ---- the meaning of files 0 and 1 needs no other file

fronts_alike : (files image : Image) (first second : Front) (meaning : Meaning) → image 0 ≡ files 0 → image 1 ≡ files 1
    → FrontsMean files first second meaning → FrontsMean image first second meaning
fronts_alike files image Bad second meaning zero one is = is
fronts_alike files image Shut Bad meaning zero one is = is
fronts_alike files image Shut Shut meaning zero one is = is
fronts_alike files image (Open head snapshot) Bad meaning zero one is = is
fronts_alike files image (Open head snapshot) Shut meaning zero one is =
    let P : List ℕ → Type 0 = λ bytes. CurrentMeans 0 bytes head snapshot meaning in subst P (sym zero) is
fronts_alike files image Shut (Open head snapshot) meaning zero one is =
    let P : List ℕ → Type 0 = λ bytes. CurrentMeans 1 bytes head snapshot meaning in subst P (sym one) is
fronts_alike files image (Open head snapshot) (Open other late) meaning zero one (inl second) =
    let P : List ℕ → Type 0 = λ bytes. CurrentMeans 1 bytes other late meaning in inl (second.0, subst P (sym one) second.1)
fronts_alike files image (Open head snapshot) (Open other late) meaning zero one (inr first) =
    let P : List ℕ → Type 0 = λ bytes. CurrentMeans 0 bytes head snapshot meaning in inr (first.0, subst P (sym zero) first.1)

pub means_alike : (files image : Image) (meaning : Meaning) → image 0 ≡ files 0 → image 1 ≡ files 1 → Means files meaning → Means image meaning
means_alike files image meaning zero one means =
    let P : List ℕ → Type 0 = λ bytes. Begins bytes means.first in
    let Q : List ℕ → Type 0 = λ bytes. Begins bytes means.second in
    record {
      first = means.first;
      second = means.second;
      begins = subst P (sym zero) means.begins;
      also = subst Q (sym one) means.also;
      is = fronts_alike files image means.first means.second meaning zero one means.is;
    }

stand_alike : (current : Option CurrentFile) (last : ℕ) (files image : Image) → image 0 ≡ files 0 → image 1 ≡ files 1
    → StandOn current last files → StandOn current last image
stand_alike None last files image zero one stands = means_alike files image _ zero one stands
stand_alike (Some current) last files image zero one stands = (stands.0, stands.1, means_alike files image _ zero one stands.2)

pub knows_alike : (journal : JournalView) (files image : Image) → image 0 ≡ files 0 → image 1 ≡ files 1 → KnowsFiles journal files → KnowsFiles journal image
knows_alike journal files image zero one knows = stand_alike journal.current journal.last files image zero one knows

-- ---- calls on other files

pub journal_other : (journal : JournalView) (file : ℕ) (before now : DiskView) → 2 ≤ file → Others file before now → IsJournal journal before → IsJournal journal now
journal_other journal file before now other others is =
    let first : 0 ≢ file = λ same. omega (arith, other, same) in
    let second : 1 ≢ file = λ same. omega (arith, other, same) in
    record {
      knows = knows_alike journal before.reads now.reads (others.reads 0 first) (others.reads 1 second) is.knows;
      first = settled_others file 0 before now first others is.first;
      second = settled_others file 1 before now second others is.second;
    }

pub journal_quiet : (journal : JournalView) (before now : DiskView) → Quiet before now → IsJournal journal before → IsJournal journal now
journal_quiet journal before now quiet is = record {
  knows = knows_alike journal before.reads now.reads (quiet.reads 0) (quiet.reads 1) is.knows;
  first = settled_quiet before now 0 quiet is.first;
  second = settled_quiet before now 1 quiet is.second;
}

-- ---- which file is written

pub current_is : (current : Option CurrentFile) → IsKnown current → file_of current ≤ 1
current_is None known = omega arith
current_is (Some current) known = known.file

pub next_is : (current : Option CurrentFile) → next_file current ≤ 1
next_is None = omega arith
next_is (Some current) = omega arith

pub settled_one : (journal : JournalView) (file : ℕ) (disk : DiskView) → file ≤ 1 → IsJournal journal disk → Settled disk file
settled_one journal file disk le is =
    let P : ℕ → Type 0 = λ n. Settled disk n in
    elim (cases_eq file 0) [
      | inl first ↦ subst P (sym first) is.first
      | inr other ↦ (let second : file ≡ 1 = omega (arith, le, other) in subst P (sym second) is.second)
    ]

-- ---- entries

-- the contents of a journal that is open
journal_contents : (current : Option CurrentFile) (last spare : ℕ) (disk : DiskView) → IsSome current
    → IsJournal (record { current = current; last = last; spare = spare }) disk
    → (contents : Contents) × HasContents (record { current = current; last = last; spare = spare }) contents disk
journal_contents None last spare disk some is = absurd (cc some)
journal_contents (Some current) last spare disk some is =
    (is.knows.0, record { knows = is.knows.1; means = is.knows.2; first = is.first; second = is.second })

journal_with : (current : Option CurrentFile) (last spare : ℕ) (contents : Contents) (disk : DiskView)
    → HasContents (record { current = current; last = last; spare = spare }) contents disk
    → IsJournal (record { current = current; last = last; spare = spare }) disk
journal_with None last spare contents disk has = absurd has.knows
journal_with (Some current) last spare contents disk has =
    record { knows = (contents, has.knows, has.means); first = has.first; second = has.second }

-- a journal of these contents is one
pub has_is_journal : (journal : JournalView) (contents : Contents) (disk : DiskView) → HasContents journal contents disk → IsJournal journal disk
has_is_journal journal contents disk has = journal_with journal.current journal.last journal.spare contents disk has

-- a change was written
pub journal_entered : {T E : Type 0} (journal : JournalView) (payload : List ℕ) (value : T) (before now : DiskView) → IsTrue before.tells
    → IsSome journal.current → ¬ IsPart journal payload → IsJournal journal before
    → WritesFile {T = T} {E = E} (file_of journal.current) (AddsEntry journal payload) (MayAddEntry journal payload) before now (Ok value)
    → IsJournal (behind_change (length payload) journal) now
journal_entered {T} {E} journal payload value before now told some change is wrote =
    let has = journal_contents journal.current journal.last journal.spare before some is in
    let more = with_payload has.0 payload in
    let late = behind_change (length payload) journal in
    has_is_journal late more now
    (has_as journal late payload (journal.last + 1) more now refl (number_change (form_of journal.current) journal.last payload change)
    (entry_stands {T = T} {E = E} {value = value} before now journal has.0 payload told has.1 wrote))

-- a part was written
pub journal_with_part : {T E : Type 0} (journal : JournalView) (payload : List ℕ) (value : T) (before now : DiskView) → IsTrue before.tells
    → IsSome journal.current → IsPart journal payload → IsJournal journal before
    → WritesFile {T = T} {E = E} (file_of journal.current) (AddsEntry journal payload) (MayAddEntry journal payload) before now (Ok value)
    → IsJournal (behind_part (length payload) journal) now
journal_with_part {T} {E} journal payload value before now told some part is wrote =
    let has = journal_contents journal.current journal.last journal.spare before some is in
    let more = with_payload has.0 payload in
    let late = behind_part (length payload) journal in
    has_is_journal late more now
    (has_as journal late payload journal.last more now refl (number_part (form_of journal.current) journal.last payload part)
    (entry_stands {T = T} {E = E} {value = value} before now journal has.0 payload told has.1 wrote))

-- the journal went on in its other file
pub journal_turned : {T E : Type 0} (journal : JournalView) (snapshot : List ℕ) (value : T) (before now : DiskView) → IsTrue before.tells
    → IsFront (next_head journal) snapshot → IsJournal journal before
    → WritesFile {T = T} {E = E} (next_file journal.current) (IsAnew 0x4A (new_text (next_head journal) snapshot))
    (AnewTorn 0x4A (new_text (next_head journal) snapshot)) before now (Ok value)
    → IsJournal (turned_over journal (length snapshot)) now
journal_turned {T} {E} journal snapshot value before now told allowed is wrote =
    has_is_journal (turned_over journal (length snapshot)) (contents_of (next_head journal) snapshot []) now
    (turned_stands {T = T} {E = E} {value = value} before now journal snapshot told is allowed wrote)

-- ---- the next generation

-- the form and the generation of a current file are in their ranges
abbrev pub HasRange : Option CurrentFile → Type 0
HasRange None = Unit {0}
HasRange (Some current) = HasForm current.form current.generation × (1 ≤ current.generation)

pub range_of : (current : Option CurrentFile) → IsKnown current → HasRange current
range_of None known = tt
range_of (Some current) known = (known.form, known.first)

-- the next generation, where there is one, is in its range
pub next_in_range : (current : Option CurrentFile) → HasRange current → next_generation current ≢ 2 ^ 64
    → (1 ≤ next_generation current) × (next_generation current < 2 ^ 64)
next_in_range None range next = (omega arith, omega arith)
next_in_range (Some current) range next = (
  omega arith,
  elim range.0 [
    | inl first ↦ omega (arith, first.1)
    | inr second ↦ omega (arith, second.1, next)
  ],
)
