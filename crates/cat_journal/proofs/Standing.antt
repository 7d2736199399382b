-- A journal whose files are those that it knows: what is so again once a call has written one of them.
use Rattle.std.proofs.Common.{◌≡◌, ◌⊎◌, ℕ, ◌+◌, ◌-◌, List, [], ◌∷◌, ◌++◌, length, refl, sym, ap, subst, ◌∙◌, append_assoc, arith, inl, inr, ◌≤◌, Option, Some, None}
use Rattle.std.proofs.lemmas.List.{append-nil, length-append}
use Rattle.room_disk.specs.Disk.{Image}
use Rattle.cat_journal.specs.Layout.{Head, front_text}
use Rattle.cat_journal.specs.Contents.{Contents, contents_of, with_payload, gate_of, last_number, number_after, entries_text, IsFront, Holds}
use Rattle.cat_journal.specs.Meaning.{Front, Shut, Open, Bad, HasFront, Begins, Stands, CurrentMeans, FrontsMean, Means}
use Rattle.cat_journal.specs.Journal.{JournalView, EndAt, KnowsContents, file_of, MayAddEntry, new_text, IsAt, behind_entry, form_of}
use Rattle.cat_journal.specs.declared.current.CurrentFile.{CurrentFile}
use Rattle.cat_journal.proofs.Spelling.{last_more, length-front_text}
use Rattle.cat_journal.proofs.Adding.{gate_more}

-- ---- one file

pub front_of_held : (bytes : List ℕ) (contents : Contents) → Holds bytes contents → HasFront bytes contents.head contents.snapshot
front_of_held bytes contents held =
    let front = 0x4A ∷ front_text contents.head contents.snapshot in
    let entries = entries_text contents.head.form contents.head.number contents.payloads in
    record {
      allowed = held.allowed.front;
      rest = entries ++ held.rest;
      text = held.text ∙ append_assoc front entries held.rest;
    }

-- a new file holds its snapshot, and no entry
pub new_holds : (bytes : List ℕ) (head : Head) (snapshot : List ℕ) → IsFront head snapshot → bytes ≡ 0x4A ∷ new_text head snapshot
    → Holds bytes (contents_of head snapshot [])
new_holds bytes head snapshot allowed is =
    let front = 0x4A ∷ front_text head snapshot in
    record {
      allowed = record { front = allowed; entries = tt };
      rest = 0 ∷ [];
      text = is ∙ ap (λ (t : List ℕ). t ++ 0 ∷ []) (sym (append-nil front));
      closed = λ opens. absurd (omega (arith, opens));
    }

pub new_gate : (head : Head) (snapshot : List ℕ) → gate_of (contents_of head snapshot []) ≡ 64 + length snapshot
new_gate head snapshot =
    length-append (0x4A ∷ front_text head snapshot) [] ∙ omega (arith, length-front_text head snapshot)

pub begins_same : (one other : List ℕ) (front : Front) → one ≡ other → Begins other front → Begins one front
begins_same one other front same begins = subst (λ (t : List ℕ). Begins t front) (sym same) begins

-- ---- one entry more

-- the other file of the two
abbrev pub other_file : ℕ → ℕ
other_file file = 1 - file

pub current_again : (file which : ℕ) (files image : Image) (head : Head) (snapshot : List ℕ) (contents more : Contents)
    → CurrentMeans which (files which) head snapshot (Stands file contents) → more.head ≡ contents.head → more.snapshot ≡ contents.snapshot
    → Holds (image file) more → (file ≡ which) × HasFront (image which) head snapshot × CurrentMeans which (image which) head snapshot (Stands file more)
current_again file which files image head snapshot contents more is heads snapshots held =
    let P : ℕ → Type 0 = λ w. Holds (image w) more in
    let here = subst P is.0 held in
    let Q : Head → Type 0 = λ h. HasFront (image which) h snapshot in
    let R : List ℕ → Type 0 = λ s. HasFront (image which) more.head s in (
      is.0,
      subst Q (heads ∙ is.1) (subst R (snapshots ∙ is.2) (front_of_held (image which) more here)),
      (is.0, heads ∙ is.1, snapshots ∙ is.2, here),
    )

stands_of : (files image : Image) (file : ℕ) (contents more : Contents) (first second : Front) → Begins (files 0) first → Begins (files 1) second
    → FrontsMean files first second (Stands file contents) → more.head ≡ contents.head → more.snapshot ≡ contents.snapshot
    → Holds (image file) more → image (other_file file) ≡ files (other_file file) → Means image (Stands file more)
stands_of files image file contents more Bad second begins also is heads snapshots held same = absurd (cc is)
stands_of files image file contents more Shut Bad begins also is heads snapshots held same = absurd (cc is)
stands_of files image file contents more (Open head snapshot) Bad begins also is heads snapshots held same = absurd (cc is)
stands_of files image file contents more Shut Shut begins also is heads snapshots held same = absurd (cc is)
stands_of files image file contents more (Open head snapshot) Shut begins also is heads snapshots held same =
    let again = current_again file 0 files image head snapshot contents more is heads snapshots held in
    let P : ℕ → Type 0 = λ f. image (1 - f) ≡ files (1 - f) in
    record { first = Open head snapshot; second = Shut; begins = again.1; also = begins_same (image 1) (files 1) Shut (subst P again.0 same) also; is = again.2 }
stands_of files image file contents more Shut (Open head snapshot) begins also is heads snapshots held same =
    let again = current_again file 1 files image head snapshot contents more is heads snapshots held in
    let P : ℕ → Type 0 = λ f. image (1 - f) ≡ files (1 - f) in
    record { first = Shut; second = Open head snapshot; begins = begins_same (image 0) (files 0) Shut (subst P again.0 same) begins; also = again.1; is = again.2 }
stands_of files image file contents more (Open head snapshot) (Open twin late) begins also (inl is) heads snapshots held same =
    let again = current_again file 1 files image twin late contents more is.1 heads snapshots held in
    let P : ℕ → Type 0 = λ f. image (1 - f) ≡ files (1 - f) in
    record {
      first = Open head snapshot;
      second = Open twin late;
      begins = begins_same (image 0) (files 0) (Open head snapshot) (subst P again.0 same) begins;
      also = again.1;
      is = inl (is.0, again.2);
    }
stands_of files image file contents more (Open head snapshot) (Open twin late) begins also (inr is) heads snapshots held same =
    let again = current_again file 0 files image head snapshot contents more is.1 heads snapshots held in
    let P : ℕ → Type 0 = λ f. image (1 - f) ≡ files (1 - f) in
    record {
      first = Open head snapshot;
      second = Open twin late;
      begins = again.1;
      also = begins_same (image 1) (files 1) (Open twin late) (subst P again.0 same) also;
      is = inr (is.0, again.2);
    }

-- the contents of the current file are others, behind the same front
pub stands_with : (files image : Image) (file : ℕ) (contents more : Contents) → Means files (Stands file contents) → more.head ≡ contents.head
    → more.snapshot ≡ contents.snapshot → Holds (image file) more → image (other_file file) ≡ files (other_file file) → Means image (Stands file more)
stands_with files image file contents more means heads snapshots held same =
    stands_of files image file contents more means.first means.second means.begins means.also means.is heads snapshots held same

-- what an image means whose current file may have one entry more
pub may_stand_with : (files image : Image) (journal : JournalView) (contents : Contents) (payload : List ℕ) → Means files (Stands (file_of journal.current) contents)
    → KnowsContents journal contents → MayAddEntry journal payload (files (file_of journal.current)) (image (file_of journal.current))
    → Holds (files (file_of journal.current)) contents
    → image (other_file (file_of journal.current)) ≡ files (other_file (file_of journal.current))
    → Means image (Stands (file_of journal.current) contents) ⊎ Means image (Stands (file_of journal.current) (with_payload contents payload))
may_stand_with files image journal contents payload means knows may held same = elim (may contents knows held) [
  | inl kept ↦ inl (stands_with files image (file_of journal.current) contents contents means refl refl kept same)
  | inr more ↦ inr (stands_with files image (file_of journal.current) contents (with_payload contents payload) means refl refl more same)
]

holds_here : (files : Image) (file which : ℕ) (head : Head) (snapshot : List ℕ) (contents : Contents) → CurrentMeans which (files which) head snapshot (Stands file contents)
    → Holds (files file) contents
holds_here files file which head snapshot contents is = let P : ℕ → Type 0 = λ w. Holds (files w) contents in subst P (sym is.0) is.3

holds_of : (files : Image) (file : ℕ) (contents : Contents) (first second : Front) → FrontsMean files first second (Stands file contents) → Holds (files file) contents
holds_of files file contents Bad second is = absurd (cc is)
holds_of files file contents Shut Bad is = absurd (cc is)
holds_of files file contents (Open head snapshot) Bad is = absurd (cc is)
holds_of files file contents Shut Shut is = absurd (cc is)
holds_of files file contents (Open head snapshot) Shut is = holds_here files file 0 head snapshot contents is
holds_of files file contents Shut (Open head snapshot) is = holds_here files file 1 head snapshot contents is
holds_of files file contents (Open head snapshot) (Open twin late) (inl is) = holds_here files file 1 twin late contents is.1
holds_of files file contents (Open head snapshot) (Open twin late) (inr is) = holds_here files file 0 head snapshot contents is.1

-- the current file of a journal that stands holds its contents
pub current_holds : (files : Image) (file : ℕ) (contents : Contents) → Means files (Stands file contents) → Holds (files file) contents
current_holds files file contents means = holds_of files file contents means.first means.second means.is

-- the journal behind one entry more
pub knows_more : (current : CurrentFile) (last : ℕ) (contents : Contents) (payload : List ℕ) → EndAt current last contents
    → EndAt (record current { gate = current.gate + (45 + length payload) }) (number_after current.form last payload) (with_payload contents payload)
knows_more current last contents payload at =
    let form = contents.head.form in
    record {
      form = at.form;
      generation = at.generation;
      gate = omega (arith, at.gate, gate_more contents payload);
      number = ap (λ (n : ℕ). number_after current.form n payload) at.number
          ∙ ap (λ (f : ℕ). number_after f (last_number contents) payload) at.form
          ∙ sym (last_more form contents.head.number contents.payloads payload);
    }

file_of_fronts : (files : Image) (file : ℕ) (contents : Contents) (first second : Front) → FrontsMean files first second (Stands file contents) → file ≤ 1
file_of_fronts files file contents Bad second is = absurd (cc is)
file_of_fronts files file contents Shut Bad is = absurd (cc is)
file_of_fronts files file contents (Open head snapshot) Bad is = absurd (cc is)
file_of_fronts files file contents Shut Shut is = absurd (cc is)
file_of_fronts files file contents (Open head snapshot) Shut is = omega (arith, is.0)
file_of_fronts files file contents Shut (Open head snapshot) is = omega (arith, is.0)
file_of_fronts files file contents (Open head snapshot) (Open twin late) (inl is) = omega (arith, is.1.0)
file_of_fronts files file contents (Open head snapshot) (Open twin late) (inr is) = omega (arith, is.1.0)

-- the current file is one of the two
pub file_is : (files : Image) (file : ℕ) (contents : Contents) → Means files (Stands file contents) → file ≤ 1
file_is files file contents means = file_of_fronts files file contents means.first means.second means.is

pub knows_behind : (place : Option CurrentFile) (last : ℕ) (contents : Contents) (payload : List ℕ) → IsAt place last contents
    → IsAt (behind_entry place (length payload)) (number_after (form_of place) last payload) (with_payload contents payload)
knows_behind None last contents payload knows = absurd knows
knows_behind (Some current) last contents payload knows = knows_more current last contents payload knows
