-- What is found as a journal is opened, and what the two files mean.
use Rattle.std.proofs.Common.{◌≡◌, ℕ, ◌+◌, ◌<◌, ◌≤◌, Bool, not, true, false, List, [], ◌∷◌, ◌++◌, length, take, drop, refl, sym, ap, subst, ◌∙◌, append_assoc, arith, inl, inr}
use Rattle.std.specs.Prelude.{Option, Some, Result, Ok, Err}
use Rattle.std.proofs.lemmas.List.{length-append, length-take, length-drop, drop_at}
use Rattle.room_disk.specs.Disk.{Image}
use Rattle.cat_journal.specs.Layout.{Head, front_text}
use Rattle.cat_journal.specs.Contents.{Contents, contents_of, contents_text, gate_of, last_number, entries_text, AreContents, IsBroken}
use Rattle.cat_journal.specs.Meaning.{Shut, Open, Bad, HasFront, Begins, Meaning, Unopened, Damaged, Stands, CurrentMeans, Means}
use Rattle.cat_journal.specs.Reads.{PiecesView, ahead}
use Rattle.cat_journal.specs.Entries.{entries_of, FindsEntries}
use Rattle.cat_journal.specs.Heads.{FindsHead, IsFileHead, head_of, HasSnapshot, ChecksSnapshot}
use Rattle.cat_journal.specs.Journal.{JournalView}
use Rattle.cat_journal.specs.Opening.{GivesContents, Gives, Opens, IsBadFile, ChecksFront, OpensFile, OpensAlone}
use Rattle.cat_journal.specs.declared.entry_list.EntryList.{EntryList}
use Rattle.cat_journal.specs.declared.front.FileHead.{FileHead}
use Rattle.cat_journal.specs.declared.front.FrontRead.{FrontRead}
use Rattle.cat_journal.specs.declared.front.FrontRead.TheVariants as read
use Rattle.cat_journal.specs.declared.opening.Opened.{Opened}
use Rattle.cat_journal.specs.declared.opening.OpenFault.{OpenFault}
use Rattle.cat_journal.specs.declared.opening.OpenFault.TheVariants as faults
use Rattle.cat_journal.proofs.EveryMeaning.{every_front}
use Rattle.cat_journal.proofs.HeadsRead.{begins_broken, has_front}
use Rattle.cat_journal.proofs.Spelling.{length-front_text}

-- ---- the front of one file

pub front_checked : (bytes : List ℕ) (head : FileHead) → FindsHead (take 64 bytes) (length bytes) (read.Open head) → IsFileHead head
    → ChecksSnapshot bytes head true → (snapshot : List ℕ) × HasFront bytes (head_of head) snapshot
front_checked bytes head found is checks =
    let snapshot = checks.0 in
    let has = checks.1 in
    let sized : length snapshot ≡ head.size =
    ap length has.1 ∙ omega (arith, length-take head.size (drop 64 bytes), length-drop 64 bytes, has.0) in
    (snapshot, has_front bytes head snapshot found is has sized)

pub bad_file : (file : ℕ) (bytes : List ℕ) (head : FileHead) → FindsHead (take 64 bytes) (length bytes) (read.Open head)
    → ((snapshot : List ℕ) → ¬ HasSnapshot bytes head snapshot) → IsBadFile file bytes (faults.Damaged file 0)
bad_file file bytes head found none = (refl, refl, begins_broken bytes head found none)

pub ends_with_file : (bytes text : List ℕ) (head : FileHead) → FindsHead text (length bytes) (read.Open head) → head.end ≡ length bytes
ends_with_file bytes text head found = ap (λ (h : FileHead). h.end) found.2

-- ---- the entries behind it

-- what is ahead behind a front
pub ahead_front : (bytes : List ℕ) (head : Head) (snapshot : List ℕ) (size : ℕ) (pieces : PiecesView) (has : HasFront bytes head snapshot)
    → length snapshot ≡ size → pieces.unread ≡ [] → pieces.next ≡ 64 + size → ahead pieces bytes ≡ has.rest
ahead_front bytes head snapshot size pieces has sized none next =
    let front = 0x4A ∷ front_text head snapshot in
    let long : length front ≡ 64 + size = omega (arith, length-front_text head snapshot, sized) in
    ap (λ (t : List ℕ). t ++ drop pieces.next bytes) none ∙ ap (λ (n : ℕ). drop n bytes) next
    ∙ ap (drop (64 + size)) has.text ∙ drop_at front has.rest (64 + size) long

-- the file's bytes behind its front
pub left_of_front : (bytes : List ℕ) (head : Head) (snapshot : List ℕ) (size : ℕ) (has : HasFront bytes head snapshot) → length snapshot ≡ size
    → length bytes ≡ 64 + size + length has.rest
left_of_front bytes head snapshot size has sized =
    ap length has.text ∙ omega (arith, length-append (0x4A ∷ front_text head snapshot) has.rest, length-front_text head snapshot, sized)

-- where the entries were read
record Behind (bytes : List ℕ) (head : Head) (snapshot : List ℕ) (payloads : List (List ℕ)) (rest : List ℕ) (list : EntryList) : Type 0 where
  allowed : AreContents (contents_of head snapshot payloads)
  text : bytes ≡ contents_text (contents_of head snapshot payloads) ++ rest
  gate : list.gate ≡ gate_of (contents_of head snapshot payloads)
  last : list.last ≡ last_number (contents_of head snapshot payloads)

behind_front : (bytes : List ℕ) (head : Head) (snapshot : List ℕ) (size : ℕ) (list : EntryList) (has : HasFront bytes head snapshot) → length snapshot ≡ size
    → (found : FindsEntries head.form head.number (64 + size) has.rest list) → Behind bytes head snapshot found.payloads found.rest list
behind_front bytes head snapshot size list has sized found =
    let front = 0x4A ∷ front_text head snapshot in
    let entries = entries_text head.form head.number found.payloads in
    record {
      allowed = record { front = has.allowed; entries = found.are };
      text = has.text ∙ ap (λ (t : List ℕ). front ++ t) found.text ∙ sym (append_assoc front entries found.rest);
      gate = found.placed ∙ omega (arith, length-append front entries, length-front_text head snapshot, sized);
      last = found.final;
    }

subst_last : (rest : List ℕ) (list : EntryList) (last : ℕ) → list.last ≡ last → IsBroken (list.last + 1) rest → IsBroken (last + 1) rest
subst_last rest list last is broken = let P : ℕ → Type 0 = λ n. IsBroken (n + 1) rest in subst P is broken

-- what is given out
abbrev pub given : ℕ → FileHead → List ℕ → EntryList → Opened
given file head snapshot list = record {
  journal = record {
    current = Some (record { file = file; form = head.form; generation = head.generation; gate = list.gate });
    last = list.last;
    spare = 0;
  };
  file = Some file;
  number = head.number;
  snapshot = snapshot;
  entries = list.entries;
}

journal_at : ℕ → ℕ → ℕ → ℕ → ℕ → JournalView
journal_at file form generation gate last = record {
  current = Some (record { file = file; form = form; generation = generation; gate = gate });
  last = last;
  spare = 0;
}

same_journal : (file form generation gate other last late : ℕ) → gate ≡ other → last ≡ late
    → journal_at file form generation gate last ≡ journal_at file form generation other late
same_journal file form generation gate other last late gates lasts = cc

pub opens_held : (file : ℕ) (bytes : List ℕ) (head : FileHead) (snapshot : List ℕ) (list : EntryList) (opened : Opened) (has : HasFront bytes (head_of head) snapshot)
    → length snapshot ≡ head.size → FindsEntries head.form head.number (64 + head.size) has.rest list → list.closed ≡ true
    → opened ≡ given file head snapshot list → OpensFile file bytes (head_of head) snapshot (Ok opened)
unfolding journal_at
opens_held file bytes head snapshot list opened has sized found closed is =
    let made = behind_front bytes (head_of head) snapshot head.size list has sized found in
    let contents = contents_of (head_of head) snapshot found.payloads in
    let place : 64 + head.size ≡ 64 + length snapshot = omega (arith, sized) in
    let P : Opened → Type 0 = λ o. (other : Contents) × CurrentMeans file bytes (head_of head) snapshot (Stands file other)
    × GivesContents file other o × (o.file ≡ Some file) in
    subst P (sym is) (
      contents,
      (refl, refl, refl, record { allowed = made.allowed; rest = found.rest; text = made.text; closed = (rw closed at found.ends) }),
      record {
        number = refl;
        snapshot = refl;
        entries = found.listed ∙ ap (λ (n : ℕ). entries_of head.form head.number n found.payloads) place;
        journal = same_journal file head.form head.generation list.gate (gate_of contents) list.last (last_number contents) made.gate made.last;
      },
      refl,
    )

pub opens_broken : (file : ℕ) (bytes : List ℕ) (head : FileHead) (snapshot : List ℕ) (list : EntryList) (has : HasFront bytes (head_of head) snapshot)
    → length snapshot ≡ head.size → FindsEntries head.form head.number (64 + head.size) has.rest list → list.closed ≡ false
    → OpensFile file bytes (head_of head) snapshot (Err (faults.Damaged file list.gate))
opens_broken file bytes head snapshot list has sized found open_end =
    let made = behind_front bytes (head_of head) snapshot head.size list has sized found in (
      refl,
      (found.payloads, record { allowed = made.allowed; rest = found.rest; text = made.text; broken = subst_last found.rest list (last_number (contents_of (head_of head) snapshot found.payloads)) made.last (rw open_end at found.ends) }, made.gate),
    )

-- ---- both files

pub bad_first : (files : Image) → Begins (files 0) Bad → Means files (Damaged 0 0)
bad_first files bad =
    let second = every_front (files 1) in
    record { first = Bad; second = second.0; begins = bad; also = second.1; is = refl }

pub bad_behind_shut : (files : Image) → Begins (files 0) Shut → Begins (files 1) Bad → Means files (Damaged 1 0)
bad_behind_shut files shut bad = record { first = Shut; second = Bad; begins = shut; also = bad; is = refl }

pub bad_behind_open : (files : Image) (head : Head) (snapshot : List ℕ) → HasFront (files 0) head snapshot → Begins (files 1) Bad → Means files (Damaged 1 0)
bad_behind_open files head snapshot has bad = record { first = Open head snapshot; second = Bad; begins = has; also = bad; is = refl }

pub none_open : (files : Image) → Begins (files 0) Shut → Begins (files 1) Shut → Means files Unopened
none_open files one two = record { first = Shut; second = Shut; begins = one; also = two; is = refl }

pub first_alone : (files : Image) (head : Head) (snapshot : List ℕ) → HasFront (files 0) head snapshot → Begins (files 1) Shut
    → (meaning : Meaning) → CurrentMeans 0 (files 0) head snapshot meaning → Means files meaning
first_alone files head snapshot has shut meaning means =
    record { first = Open head snapshot; second = Shut; begins = has; also = shut; is = means }

pub second_alone : (files : Image) (head : Head) (snapshot : List ℕ) → Begins (files 0) Shut → HasFront (files 1) head snapshot
    → (meaning : Meaning) → CurrentMeans 1 (files 1) head snapshot meaning → Means files meaning
second_alone files head snapshot shut has meaning means =
    record { first = Shut; second = Open head snapshot; begins = shut; also = has; is = means }

pub second_greater : (files : Image) (head other : Head) (snapshot late : List ℕ) → HasFront (files 0) head snapshot → HasFront (files 1) other late
    → head.generation < other.generation → (meaning : Meaning) → CurrentMeans 1 (files 1) other late meaning → Means files meaning
second_greater files head other snapshot late has also less meaning means =
    record { first = Open head snapshot; second = Open other late; begins = has; also = also; is = inl (less, means) }

pub first_greater : (files : Image) (head other : Head) (snapshot late : List ℕ) → HasFront (files 0) head snapshot → HasFront (files 1) other late
    → other.generation ≤ head.generation → (meaning : Meaning) → CurrentMeans 0 (files 0) head snapshot meaning → Means files meaning
first_greater files head other snapshot late has also more meaning means =
    record { first = Open head snapshot; second = Open other late; begins = has; also = also; is = inr (more, means) }

-- what opening the current file answers
pub opens_current : (files : Image) (file : ℕ) (head : Head) (snapshot : List ℕ) (answer : Result Opened OpenFault)
    → ((meaning : Meaning) → CurrentMeans file (files file) head snapshot meaning → Means files meaning)
    → OpensFile file (files file) head snapshot answer → Opens files answer
opens_current files file head snapshot (Ok opened) means found =
    let P : Option ℕ → Type 0 = Gives files opened in
    subst P (sym found.3) (found.0, means (Stands file found.0) found.1, found.2)
opens_current files file head snapshot (Err (faults.Damaged which place)) means found = means (Damaged which place) found
opens_current files file head snapshot (Err (faults.Failed which)) means found = tt
opens_current files file head snapshot (Err faults.Memory) means found = tt

-- a bad file
pub opens_bad : (files : Image) (file : ℕ) (fault : OpenFault) → (Begins (files file) Bad → Means files (Damaged file 0))
    → IsBadFile file (files file) fault → Opens files (Err fault)
opens_bad files file (faults.Damaged which place) means bad =
    let P : ℕ → ℕ → Type 0 = λ w p. Means files (Damaged w p) in
    subst (λ (w : ℕ). P w place) (sym bad.0) (subst (P file) (sym bad.1) (means bad.2))
opens_bad files file (faults.Failed which) means bad = tt
opens_bad files file faults.Memory means bad = tt

-- a file that is open alone, or the later of two
pub opens_alone : (files : Image) (file : ℕ) (head : Head) (answer : Result Opened OpenFault) → (Begins (files file) Bad → Means files (Damaged file 0))
    → ((snapshot : List ℕ) → HasFront (files file) head snapshot → (meaning : Meaning) → CurrentMeans file (files file) head snapshot meaning → Means files meaning)
    → OpensAlone file (files file) head answer → Opens files answer
opens_alone files file head (Ok opened) bad means found = opens_current files file head found.0 (Ok opened) (means found.0 found.1) found.2
opens_alone files file head (Err fault) bad means (inl broken) = opens_bad files file fault bad broken
opens_alone files file head (Err fault) bad means (inr found) = opens_current files file head found.0 (Err fault) (means found.0 found.1) found.2

-- ---- answers

pub not_true : (b : Bool) → not b ≡ true → b ≡ false
not_true true is = absurd (cc is)
not_true false is = refl

pub not_false : (b : Bool) → not b ≡ false → b ≡ true
not_false true is = refl
not_false false is = absurd (cc is)

-- a file reads the same
pub finds_same : (bytes other : List ℕ) (front : FrontRead) → bytes ≡ other → FindsHead (take 64 bytes) (length bytes) front
    → FindsHead (take 64 other) (length other) front
finds_same bytes other front same found = subst (λ (t : List ℕ). FindsHead (take 64 t) (length t) front) same found

pub opens_alone_same : (file : ℕ) (bytes other : List ℕ) (head : FileHead) (answer : Result Opened OpenFault) → bytes ≡ other
    → (FindsHead (take 64 bytes) (length bytes) (read.Open head) → OpensAlone file bytes (head_of head) answer)
    → FindsHead (take 64 other) (length other) (read.Open head) → OpensAlone file other (head_of head) answer
opens_alone_same file bytes other head answer same opens =
    subst (λ (t : List ℕ). FindsHead (take 64 t) (length t) (read.Open head) → OpensAlone file t (head_of head) answer) same opens

pub checks_same : {T : Type 0} (file : ℕ) (bytes other : List ℕ) (head : FileHead) (answer : Result T OpenFault) → bytes ≡ other
    → (FindsHead (take 64 bytes) (length bytes) (read.Open head) → ChecksFront file bytes head answer)
    → FindsHead (take 64 other) (length other) (read.Open head) → ChecksFront file other head answer
checks_same {T = T} file bytes other head answer same checks =
    subst (λ (t : List ℕ). FindsHead (take 64 t) (length t) (read.Open head) → ChecksFront {T = T} file t head answer) same checks

pub opens_file_same : (file : ℕ) (bytes other : List ℕ) (head : FileHead) (snapshot : List ℕ) (answer : Result Opened OpenFault) → bytes ≡ other
    → (HasFront bytes (head_of head) snapshot → head.end ≡ length bytes → OpensFile file bytes (head_of head) snapshot answer)
    → HasFront other (head_of head) snapshot → head.end ≡ length other → OpensFile file other (head_of head) snapshot answer
opens_file_same file bytes other head snapshot answer same opens =
    subst (λ (t : List ℕ). HasFront t (head_of head) snapshot → head.end ≡ length t → OpensFile file t (head_of head) snapshot answer) same opens
