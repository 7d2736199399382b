-- The images of a call that writes one file of a journal.
use Rattle.std.proofs.Common.{◌≡◌, ◌≢◌, ℕ, ◌+◌, ◌-◌, ◌≤◌, Bool, true, false, if◌then◌else◌, List, [], length, refl, sym, subst, arith, inl, inr}
use Rattle.std.specs.Prelude.{IsTrue, Result, Ok, Err, OnOk, Option, Some, None}
use Rattle.std.proofs.lemmas.Bool.{cases_eq}
use Rattle.room_disk.specs.Disk.{DiskView, Image, Leaves, OnFile, Settled}
use Rattle.room_disk.specs.Crash.{IsAnew, AnewTorn}
use Rattle.room_disk.specs.Writing.{ComesOf, WritesFile}
use Rattle.room_disk.proofs.Runs.{leaves_weaker, settled_others}
use Rattle.room_disk.proofs.Writing.{Step, settled_comes}
use Rattle.cat_journal.specs.Contents.{Contents, contents_of, with_payload, is_part, number_after, IsFront}
use Rattle.cat_journal.specs.Meaning.{Means, Stands}
use Rattle.cat_journal.specs.Journal.{JournalView, IsJournalFile, file_of, form_of, behind_entry, behind_payload, AddsEntry, MayAddEntry, next_file, next_generation, next_head, new_text, turned_over, first_head, MakesAnew, in_new_file}
use Rattle.cat_journal.specs.Images.{HasContents, IsJournal, IsEntryImage, IsTurnedImage}
use Rattle.cat_journal.specs.declared.current.CurrentFile.{CurrentFile}
use Rattle.cat_journal.proofs.Standing.{may_stand_with, stands_with, current_holds, file_is, knows_behind}
use Rattle.cat_journal.proofs.Turning.{turned, turned_whole, knows_new, first_is_new}

-- ---- one of two files

one_of : (file : ℕ) → file ≤ 1 → IsJournalFile file
one_of file le = elim (cases_eq file 0) [
  | inl first ↦ inl first
  | inr other ↦ inr (omega (arith, le, other))
]

settled_one : (disk : DiskView) (file : ℕ) → file ≤ 1 → Settled disk 0 → Settled disk 1 → Settled disk file
settled_one disk file le first second = elim (one_of file le) [
  | inl is ↦ (let P : ℕ → Type 0 = Settled disk in subst P (sym is) first)
  | inr is ↦ (let P : ℕ → Type 0 = Settled disk in subst P (sym is) second)
]

other_is_not : (file : ℕ) → 1 - file ≢ file
other_is_not file same = absurd (omega (arith, same))

-- the file that was written, and the other one, in an image
record TwoFiles (file : ℕ) (Torn : Step) (before : DiskView) (image : Image) : Type 0 where
  torn : Torn (before.reads file) (image file)
  same : image (1 - file) ≡ before.reads (1 - file)

two_files : (file : ℕ) (Torn : Step) (before : DiskView) (image : Image) → file ≤ 1 → Settled before 0 → Settled before 1
    → OnFile file (ComesOf Torn before file) before image → TwoFiles file Torn before image
two_files file Torn before image le first second on = record {
  torn = settled_comes file Torn before (image file) (settled_one before file le first second) on.this;
  same = settled_one before (1 - file) (omega arith) first second (image (1 - file)) (on.others (1 - file) (other_is_not file));
}

others_as_left : (file : ℕ) (Torn : Step) (before : DiskView) (image : Image) → file ≤ 1 → OnFile file (ComesOf Torn before file) before image
    → (other : ℕ) → ¬ IsJournalFile other → before.leaves other (image other)
others_as_left file Torn before image le on other not =
    let P : ℕ → Type 0 = IsJournalFile in on.others other (λ same. not (subst P (sym same) (one_of file le)))

-- nothing is pending behind the write either
settled_now : {T E : Type 0} {value : T} (file : ℕ) (Whole Torn : Step) (before now : DiskView) → file ≤ 1 → IsTrue before.tells → Settled before 0 → Settled before 1
    → WritesFile {E = E} file Whole Torn before now (Ok value) → (which : ℕ) → which ≤ 1 → Settled now which
settled_now file Whole Torn before now le told first second does which one = elim (cases_eq which file) [
  | inl here ↦ (let P : ℕ → Type 0 = Settled now in subst P (sym here) (does.settled told))
  | inr other ↦ settled_others file which before now other (does.others told) (settled_one before which one first second)
]

settled_both : {T E : Type 0} {value : T} (file : ℕ) (Whole Torn : Step) (before now : DiskView) → file ≤ 1 → IsTrue before.tells → Settled before 0 → Settled before 1
    → WritesFile {E = E} file Whole Torn before now (Ok value) → Settled now 0 × Settled now 1
settled_both file Whole Torn before now le told first second does = (
  settled_now file Whole Torn before now le told first second does 0 (omega arith),
  settled_now file Whole Torn before now le told first second does 1 (omega arith),
)

-- the file stays the same behind one entry more
file_behind : (place : Option CurrentFile) (payload : List ℕ) → file_of (behind_entry place (length payload)) ≡ file_of place
file_behind None payload = refl
file_behind (Some current) payload = refl

-- the next file is one of the two
next_is : (place : Option CurrentFile) → next_file place ≤ 1
next_is None = omega arith
next_is (Some current) = omega arith

-- ---- one entry more

pub entry_images : {T E : Type 0} {answer : Result T E} (before now : DiskView) (journal : JournalView) (contents : Contents) (payload : List ℕ)
    → IsTrue before.tells → HasContents journal contents before
    → WritesFile (file_of journal.current) (AddsEntry journal payload) (MayAddEntry journal payload) before now answer
    → Leaves before now (IsEntryImage journal contents payload before)
entry_images before now journal contents payload told has does =
    let file = file_of journal.current in
    let le = file_is before.reads file contents has.means in
    leaves_weaker before now (OnFile file (ComesOf (MayAddEntry journal payload) before file) before) (IsEntryImage journal contents payload before)
    (does.moments told)
    (λ image on. (let two = two_files file (MayAddEntry journal payload) before image le has.first has.second on in record {
      files = may_stand_with before.reads image journal contents payload has.means has.knows two.torn
          (current_holds before.reads file contents has.means) two.same;
      others = others_as_left file (MayAddEntry journal payload) before image le on;
    }))

pub entry_stands : {T E : Type 0} {value : T} (before now : DiskView) (journal : JournalView) (contents : Contents) (payload : List ℕ)
    → IsTrue before.tells → HasContents journal contents before
    → WritesFile {E = E} (file_of journal.current) (AddsEntry journal payload) (MayAddEntry journal payload) before now (Ok value)
    → HasContents (behind_payload journal payload) (with_payload contents payload) now
entry_stands before now journal contents payload told has does =
    let file = file_of journal.current in
    let le = file_is before.reads file contents has.means in
    let held = current_holds before.reads file contents has.means in
    let same = (does.others told).reads (1 - file) (other_is_not file) in
    let settled = settled_both file (AddsEntry journal payload) (MayAddEntry journal payload) before now le told has.first has.second does in
    let stays = file_behind journal.current payload in
    let P : ℕ → Type 0 = λ f. Means now.reads (Stands f (with_payload contents payload)) in
    record {
      knows = knows_behind journal.current journal.last contents payload has.knows;
      means = subst P (sym stays) (stands_with before.reads now.reads file contents (with_payload contents payload) has.means refl refl
          (does.whole told contents has.knows held) same);
      first = settled.0;
      second = settled.1;
    }

-- ---- a turn-over

pub turned_images : {T E : Type 0} {answer : Result T E} (before now : DiskView) (journal : JournalView) (snapshot : List ℕ)
    → IsTrue before.tells → IsJournal journal before → IsFront (next_head journal) snapshot
    → WritesFile (next_file journal.current) (IsAnew 0x4A (new_text (next_head journal) snapshot)) (AnewTorn 0x4A (new_text (next_head journal) snapshot)) before now answer
    → Leaves before now (IsTurnedImage journal snapshot before)
turned_images before now journal snapshot told is allowed does =
    let file = next_file journal.current in
    let Torn = AnewTorn 0x4A (new_text (next_head journal) snapshot) in
    let le = next_is journal.current in
    leaves_weaker before now (OnFile file (ComesOf Torn before file) before) (IsTurnedImage journal snapshot before) (does.moments told)
    (λ image on. (let two = two_files file Torn before image le is.first is.second on in record {
      files = turned before.reads image journal snapshot is.knows allowed two.same two.torn;
      others = others_as_left file Torn before image le on;
    }))

pub turned_stands : {T E : Type 0} {value : T} (before now : DiskView) (journal : JournalView) (snapshot : List ℕ)
    → IsTrue before.tells → IsJournal journal before → IsFront (next_head journal) snapshot
    → WritesFile {E = E} (next_file journal.current) (IsAnew 0x4A (new_text (next_head journal) snapshot)) (AnewTorn 0x4A (new_text (next_head journal) snapshot)) before now (Ok value)
    → HasContents (turned_over journal (length snapshot)) (contents_of (next_head journal) snapshot []) now
turned_stands before now journal snapshot told is allowed does =
    let file = next_file journal.current in
    let text = new_text (next_head journal) snapshot in
    let same = (does.others told).reads (1 - file) (other_is_not file) in
    let settled = settled_both file (IsAnew 0x4A text) (AnewTorn 0x4A text) before now (next_is journal.current) told is.first is.second does in
    record {
      knows = knows_new file (next_generation journal.current) journal.last snapshot;
      means = turned_whole before.reads now.reads journal snapshot is.knows allowed same (does.whole told);
      first = settled.0;
      second = settled.1;
    }

-- ---- the calls

if_not : (b : Bool) (x y : ℕ) → ¬ IsTrue b → y ≡ (if b then x else y)
if_not true x y not_so = absurd (not_so refl)
if_not false x y not_so = refl

if_is : (b : Bool) (x y : ℕ) → IsTrue b → x ≡ (if b then x else y)
if_is true x y so = refl
if_is false x y so = absurd (cc so)

pub number_change : (form last : ℕ) (payload : List ℕ) → ¬ IsTrue (is_part form payload) → last + 1 ≡ number_after form last payload
number_change form last payload change = if_not (is_part form payload) last (last + 1) change

pub number_part : (form last : ℕ) (payload : List ℕ) → IsTrue (is_part form payload) → last ≡ number_after form last payload
number_part form last payload part = if_is (is_part form payload) last (last + 1) part

-- the journal as a call leaves it
pub has_as : (journal late : JournalView) (payload : List ℕ) (number : ℕ) (contents : Contents) (disk : DiskView)
    → late ≡ record journal { current = behind_entry journal.current (length payload); last = number }
    → number ≡ number_after (form_of journal.current) journal.last payload → HasContents (behind_payload journal payload) contents disk
    → HasContents late contents disk
has_as journal late payload number contents disk is counted has =
    let P : ℕ → Type 0 = λ n. HasContents (record journal { current = behind_entry journal.current (length payload); last = n }) contents disk in
    let Q : JournalView → Type 0 = λ v. HasContents v contents disk in
    subst Q (sym is) (subst P (sym counted) has)

-- a fresh journal
pub fresh_stands : {T E : Type 0} {value : T} (before now : DiskView) (number : ℕ) (snapshot : List ℕ) → IsTrue before.tells → IsFront (first_head number) snapshot
    → MakesAnew {E = E} (new_text (first_head number) snapshot) before now (Ok value)
    → HasContents (in_new_file 0 1 (record { current = None; last = number; spare = 0 }) (length snapshot)) (contents_of (first_head number) snapshot []) now
fresh_stands before now number snapshot told allowed makes =
    let whole = makes.whole told in
    let settled = makes.settled told in
    record {
      knows = knows_new 0 1 number snapshot;
      means = first_is_new now.reads (first_head number) snapshot allowed whole.0 whole.1;
      first = settled.0;
      second = settled.1;
    }

-- ---- whatever the call answers

pub entry_stands_on : {T E : Type 0} (answer : Result T E) (before now : DiskView) (journal late : JournalView) (contents : Contents) (payload : List ℕ) (number : ℕ)
    → IsTrue before.tells → HasContents journal contents before
    → OnOk answer (late ≡ record journal { current = behind_entry journal.current (length payload); last = number })
    → number ≡ number_after (form_of journal.current) journal.last payload
    → WritesFile (file_of journal.current) (AddsEntry journal payload) (MayAddEntry journal payload) before now answer
    → OnOk answer (HasContents late (with_payload contents payload) now)
entry_stands_on (Ok value) before now journal late contents payload number told has moved counted does =
    has_as journal late payload number (with_payload contents payload) now moved counted (entry_stands before now journal contents payload told has does)
entry_stands_on (Err fault) before now journal late contents payload number told has moved counted does = tt

pub turned_stands_on : {T E : Type 0} (answer : Result T E) (before now : DiskView) (journal late : JournalView) (snapshot : List ℕ)
    → IsTrue before.tells → IsJournal journal before → IsFront (next_head journal) snapshot → OnOk answer (late ≡ turned_over journal (length snapshot))
    → WritesFile (next_file journal.current) (IsAnew 0x4A (new_text (next_head journal) snapshot)) (AnewTorn 0x4A (new_text (next_head journal) snapshot)) before now answer
    → OnOk answer (HasContents late (contents_of (next_head journal) snapshot []) now)
turned_stands_on (Ok value) before now journal late snapshot told is allowed moved does =
    let P : JournalView → Type 0 = λ v. HasContents v (contents_of (next_head journal) snapshot []) now in
    subst P (sym moved) (turned_stands before now journal snapshot told is allowed does)
turned_stands_on (Err fault) before now journal late snapshot told is allowed moved does = tt
