-- A journal that is turned over, and one that is made anew.
use Rattle.std.proofs.Common.{◌≡◌, ◌⊎◌, ℕ, ◌+◌, ◌-◌, ◌<◌, ◌≤◌, List, [], ◌∷◌, length, refl, sym, ap, subst, arith, inl, inr}
use Rattle.std.specs.Prelude.{Option, Some, None}
use Rattle.room_disk.specs.Disk.{Image}
use Rattle.room_disk.specs.Crash.{AnewTorn}
use Rattle.cat_journal.specs.Layout.{Head}
use Rattle.cat_journal.specs.Contents.{Contents, contents_of, IsFront, Holds}
use Rattle.cat_journal.specs.Meaning.{Front, Shut, Open, Bad, HasFront, Begins, Meaning, Unopened, Stands, CurrentMeans, FrontsMean, Means}
use Rattle.cat_journal.specs.Journal.{JournalView, KnowsFiles, next_head, StandOn, EndAt, next_file, next_generation, new_head, new_text, IsShut}
use Rattle.cat_journal.specs.declared.current.CurrentFile.{CurrentFile}
use Rattle.cat_journal.proofs.Opens.{none_open, first_alone, second_alone, second_greater, first_greater}
use Rattle.cat_journal.proofs.Standing.{front_of_held, new_holds, new_gate, begins_same, current_again, current_holds, file_is}

-- ---- where no file is open

shut_first : (files : Image) (first second : Front) → FrontsMean files first second Unopened → Begins (files 0) first → Begins (files 1) second
    → Begins (files 0) Shut × Begins (files 1) Shut
shut_first files Bad second is begins also = absurd (cc is)
shut_first files Shut Bad is begins also = absurd (cc is)
shut_first files (Open head snapshot) Bad is begins also = absurd (cc is)
shut_first files Shut Shut is begins also = (begins, also)
shut_first files (Open head snapshot) Shut is begins also = absurd is
shut_first files Shut (Open head snapshot) is begins also = absurd is
shut_first files (Open head snapshot) (Open twin late) (inl is) begins also = absurd is.1
shut_first files (Open head snapshot) (Open twin late) (inr is) begins also = absurd is.1

both_shut : (files : Image) → Means files Unopened → Begins (files 0) Shut × Begins (files 1) Shut
both_shut files means = shut_first files means.first means.second means.is means.begins means.also

-- a new file as the current one
new_current : (file : ℕ) (bytes : List ℕ) (head : Head) (snapshot : List ℕ) → Holds bytes (contents_of head snapshot [])
    → CurrentMeans file bytes head snapshot (Stands file (contents_of head snapshot []))
new_current file bytes head snapshot held = (refl, refl, refl, held)

pub first_is_new : (image : Image) (head : Head) (snapshot : List ℕ) → IsFront head snapshot → image 0 ≡ 0x4A ∷ new_text head snapshot → IsShut (image 1)
    → Means image (Stands 0 (contents_of head snapshot []))
first_is_new image head snapshot allowed whole shut =
    let held = new_holds (image 0) head snapshot allowed whole in
    first_alone image head snapshot (front_of_held (image 0) (contents_of head snapshot []) held) shut
    (Stands 0 (contents_of head snapshot [])) (new_current 0 (image 0) head snapshot held)

-- ---- where one is open

-- the other file is closed, or begins as before, or is the new one
abbrev Other : List ℕ → Front → Head → List ℕ → Type 0
Other bytes front head snapshot = IsShut bytes ⊎ Begins bytes front ⊎ (bytes ≡ 0x4A ∷ new_text head snapshot)

abbrev Turns : Image → ℕ → Contents → Head → List ℕ → Type 0
Turns image file contents head snapshot =
    Means image (Stands file contents) ⊎ Means image (Stands (1 - file) (contents_of head snapshot []))

-- file 0 is current, and file 1 is closed or lesser
abbrev IsLesser : Front → Head → Type 0
IsLesser Shut head = Unit {0}
IsLesser (Open other late) head = other.generation ≤ head.generation
IsLesser Bad head = ⊥

first_stays : (image : Image) (head : Head) (snapshot : List ℕ) (front : Front) (meaning : Meaning) → HasFront (image 0) head snapshot
    → Begins (image 1) front → IsLesser front head → CurrentMeans 0 (image 0) head snapshot meaning → Means image meaning
first_stays image head snapshot Shut meaning has begins lesser means = first_alone image head snapshot has begins meaning means
first_stays image head snapshot (Open other late) meaning has begins lesser means =
    first_greater image head other snapshot late has begins lesser meaning means
first_stays image head snapshot Bad meaning has begins lesser means = absurd lesser

first_turns : (files image : Image) (file : ℕ) (head : Head) (snapshot : List ℕ) (front : Front) (contents : Contents) (next : Head) (late : List ℕ)
    → CurrentMeans 0 (files 0) head snapshot (Stands file contents) → IsLesser front head → Holds (image file) contents → IsFront next late
    → head.generation < next.generation → Other (image (1 - file)) front next late → Turns image file contents next late
first_turns files image file head snapshot front contents next late is lesser held allowed less other =
    let again = current_again file 0 files image head snapshot contents contents is refl refl held in
    let P : ℕ → Type 0 = λ f. Other (image (1 - f)) front next late in
    let Q : ℕ → Type 0 = λ f. Turns image f contents next late in
    let again_here : CurrentMeans 0 (image 0) head snapshot (Stands 0 contents) =
    (let R : ℕ → Type 0 = λ f. CurrentMeans 0 (image 0) head snapshot (Stands f contents) in subst R again.0 again.2) in
    subst Q (sym again.0) (elim (subst P again.0 other) [
      | inl shut ↦ inl (first_stays image head snapshot Shut (Stands 0 contents) again.1 shut tt again_here)
      | inr (inl begins) ↦ inl (first_stays image head snapshot front (Stands 0 contents) again.1 begins lesser again_here)
      | inr (inr whole) ↦ (let new = new_holds (image 1) next late allowed whole in
          inr (second_greater image head next snapshot late again.1 (front_of_held (image 1) (contents_of next late []) new) less
          (Stands 1 (contents_of next late [])) (new_current 1 (image 1) next late new)))
    ])

-- file 1 is current, and file 0 is closed or lesser
abbrev IsBelow : Front → Head → Type 0
IsBelow Shut head = Unit {0}
IsBelow (Open other late) head = other.generation < head.generation
IsBelow Bad head = ⊥

second_stays : (image : Image) (head : Head) (snapshot : List ℕ) (front : Front) (meaning : Meaning) → HasFront (image 1) head snapshot
    → Begins (image 0) front → IsBelow front head → CurrentMeans 1 (image 1) head snapshot meaning → Means image meaning
second_stays image head snapshot Shut meaning has begins below means = second_alone image head snapshot begins has meaning means
second_stays image head snapshot (Open other late) meaning has begins below means =
    second_greater image other head late snapshot begins has below meaning means
second_stays image head snapshot Bad meaning has begins below means = absurd below

second_turns : (files image : Image) (file : ℕ) (head : Head) (snapshot : List ℕ) (front : Front) (contents : Contents) (next : Head) (late : List ℕ)
    → CurrentMeans 1 (files 1) head snapshot (Stands file contents) → IsBelow front head → Holds (image file) contents → IsFront next late
    → head.generation < next.generation → Other (image (1 - file)) front next late → Turns image file contents next late
second_turns files image file head snapshot front contents next late is below held allowed less other =
    let again = current_again file 1 files image head snapshot contents contents is refl refl held in
    let P : ℕ → Type 0 = λ f. Other (image (1 - f)) front next late in
    let Q : ℕ → Type 0 = λ f. Turns image f contents next late in
    let again_here : CurrentMeans 1 (image 1) head snapshot (Stands 1 contents) =
    (let R : ℕ → Type 0 = λ f. CurrentMeans 1 (image 1) head snapshot (Stands f contents) in subst R again.0 again.2) in
    subst Q (sym again.0) (elim (subst P again.0 other) [
      | inl shut ↦ inl (second_stays image head snapshot Shut (Stands 1 contents) again.1 shut tt again_here)
      | inr (inl begins) ↦ inl (second_stays image head snapshot front (Stands 1 contents) again.1 begins below again_here)
      | inr (inr whole) ↦ (let new = new_holds (image 0) next late allowed whole in
          inr (first_greater image next head late snapshot (front_of_held (image 0) (contents_of next late []) new) again.1 (omega (arith, less))
          (Stands 0 (contents_of next late [])) (new_current 0 (image 0) next late new)))
    ])

-- the other file, where it was torn
other_of : (bytes old : List ℕ) (front : Front) (head : Head) (snapshot : List ℕ) → Begins old front
    → AnewTorn 0x4A (new_text head snapshot) old bytes → Other bytes front head snapshot
other_of bytes old front head snapshot begins (inl same) = inr (inl (begins_same bytes old front same begins))
other_of bytes old front head snapshot begins (inr (inl shut)) = inl shut
other_of bytes old front head snapshot begins (inr (inr whole)) = inr (inr whole)

abbrev Torn_at : Image → Image → ℕ → Head → List ℕ → Type 0
Torn_at files image file head snapshot = AnewTorn 0x4A (new_text head snapshot) (files file) (image file)

turns_of : (files image : Image) (file : ℕ) (contents : Contents) (first second : Front) (next : Head) (late : List ℕ) → Begins (files 0) first
    → Begins (files 1) second → FrontsMean files first second (Stands file contents) → Holds (image file) contents → IsFront next late
    → contents.head.generation < next.generation → Torn_at files image (1 - file) next late → Turns image file contents next late
turns_of files image file contents Bad second next late begins also is held allowed less torn = absurd (cc is)
turns_of files image file contents Shut Bad next late begins also is held allowed less torn = absurd (cc is)
turns_of files image file contents (Open head snapshot) Bad next late begins also is held allowed less torn = absurd (cc is)
turns_of files image file contents Shut Shut next late begins also is held allowed less torn = absurd (cc is)
turns_of files image file contents (Open head snapshot) Shut next late begins also is held allowed less torn =
    let other : Other (image (1 - file)) Shut next late =
    (let P : ℕ → Type 0 = λ f. Torn_at files image (1 - f) next late → Other (image (1 - f)) Shut next late in
    subst P (sym is.0) (other_of (image 1) (files 1) Shut next late also) torn) in
    first_turns files image file head snapshot Shut contents next late is tt held allowed (omega (arith, ap (λ (h : Head). h.generation) is.1, less)) other
turns_of files image file contents Shut (Open head snapshot) next late begins also is held allowed less torn =
    let other : Other (image (1 - file)) Shut next late =
    (let P : ℕ → Type 0 = λ f. Torn_at files image (1 - f) next late → Other (image (1 - f)) Shut next late in
    subst P (sym is.0) (other_of (image 0) (files 0) Shut next late begins) torn) in
    second_turns files image file head snapshot Shut contents next late is tt held allowed (omega (arith, ap (λ (h : Head). h.generation) is.1, less)) other
turns_of files image file contents (Open head snapshot) (Open twin twin_snapshot) next late begins also (inl is) held allowed less torn =
    let other : Other (image (1 - file)) (Open head snapshot) next late =
    (let P : ℕ → Type 0 = λ f. Torn_at files image (1 - f) next late → Other (image (1 - f)) (Open head snapshot) next late in
    subst P (sym is.1.0) (other_of (image 0) (files 0) (Open head snapshot) next late begins) torn) in
    second_turns files image file twin twin_snapshot (Open head snapshot) contents next late is.1 is.0 held allowed
    (omega (arith, ap (λ (h : Head). h.generation) is.1.1, less)) other
turns_of files image file contents (Open head snapshot) (Open twin twin_snapshot) next late begins also (inr is) held allowed less torn =
    let other : Other (image (1 - file)) (Open twin twin_snapshot) next late =
    (let P : ℕ → Type 0 = λ f. Torn_at files image (1 - f) next late → Other (image (1 - f)) (Open twin twin_snapshot) next late in
    subst P (sym is.1.0) (other_of (image 1) (files 1) (Open twin twin_snapshot) next late also) torn) in
    first_turns files image file head snapshot (Open twin twin_snapshot) contents next late is.1 is.0 held allowed
    (omega (arith, ap (λ (h : Head). h.generation) is.1.1, less)) other

-- ---- a journal

turned_from : (files image : Image) (place : Option CurrentFile) (last : ℕ) (snapshot : List ℕ) → StandOn place last files
    → IsFront (new_head (next_generation place) last) snapshot → image (1 - next_file place) ≡ files (1 - next_file place)
    → Torn_at files image (next_file place) (new_head (next_generation place) last) snapshot
    → StandOn place last image ⊎ Means image (Stands (next_file place) (contents_of (new_head (next_generation place) last) snapshot []))
turned_from files image None last snapshot knows allowed same torn =
    let shut = both_shut files knows in
    let second = begins_same (image 1) (files 1) Shut same shut.1 in
    elim (other_of (image 0) (files 0) Shut (new_head 1 last) snapshot shut.0 torn) [
      | inl closed ↦ inl (none_open image closed second)
      | inr (inl closed) ↦ inl (none_open image closed second)
      | inr (inr whole) ↦ inr (first_is_new image (new_head 1 last) snapshot allowed whole second)
    ]
turned_from files image (Some current) last snapshot (contents, at, means) allowed same torn =
    let next = new_head (current.generation + 1) last in
    let file : 1 - (1 - current.file) ≡ current.file = (let two = file_is files current.file contents means in omega (arith, two)) in
    let P : ℕ → Type 0 = λ f. image f ≡ files f in
    let held : Holds (image current.file) contents =
    (let Q : List ℕ → Type 0 = λ t. Holds t contents in subst Q (sym (subst P file same)) (current_holds files current.file contents means)) in
    elim (turns_of files image current.file contents means.first means.second next snapshot means.begins means.also means.is held allowed
    (omega (arith, at.generation)) torn) [
      | inl kept ↦ inl (contents, at, kept)
      | inr new ↦ inr new
    ]

pub turned : (files image : Image) (journal : JournalView) (snapshot : List ℕ) → KnowsFiles journal files → IsFront (next_head journal) snapshot
    → image (1 - next_file journal.current) ≡ files (1 - next_file journal.current)
    → AnewTorn 0x4A (new_text (next_head journal) snapshot) (files (next_file journal.current)) (image (next_file journal.current))
    → KnowsFiles journal image ⊎ Means image (Stands (next_file journal.current) (contents_of (next_head journal) snapshot []))
turned files image journal snapshot knows allowed same torn = turned_from files image journal.current journal.last snapshot knows allowed same torn

-- the journal behind its new file
pub knows_new : (file : ℕ) (generation last : ℕ) (snapshot : List ℕ)
    → EndAt (record { file = file; form = 2; generation = generation; gate = 64 + length snapshot }) last (contents_of (new_head generation last) snapshot [])
knows_new file generation last snapshot =
    record { form = refl; generation = refl; gate = sym (new_gate (new_head generation last) snapshot); number = refl }

-- ---- once it is written

whole_first : (image : Image) (head : Head) (snapshot : List ℕ) (next : Head) (late : List ℕ) → HasFront (image 1) head snapshot
    → IsFront next late → head.generation < next.generation → image 0 ≡ 0x4A ∷ new_text next late → Means image (Stands 0 (contents_of next late []))
whole_first image head snapshot next late has allowed less whole =
    let new = new_holds (image 0) next late allowed whole in
    first_greater image next head late snapshot (front_of_held (image 0) (contents_of next late []) new) has (omega (arith, less))
    (Stands 0 (contents_of next late [])) (new_current 0 (image 0) next late new)

whole_second : (image : Image) (head : Head) (snapshot : List ℕ) (next : Head) (late : List ℕ) → HasFront (image 0) head snapshot
    → IsFront next late → head.generation < next.generation → image 1 ≡ 0x4A ∷ new_text next late → Means image (Stands 1 (contents_of next late []))
whole_second image head snapshot next late has allowed less whole =
    let new = new_holds (image 1) next late allowed whole in
    second_greater image head next snapshot late has (front_of_held (image 1) (contents_of next late []) new) less
    (Stands 1 (contents_of next late [])) (new_current 1 (image 1) next late new)

-- the front of the current file, in an image in which it is as it was
record Kept (image : Image) (file which : ℕ) (contents : Contents) (head : Head) (snapshot : List ℕ) : Type 0 where
  here : file ≡ which
  has : HasFront (image which) head snapshot
  generation : contents.head.generation ≡ head.generation

kept_front : (files image : Image) (file which : ℕ) (contents : Contents) (head : Head) (snapshot : List ℕ)
    → CurrentMeans which (files which) head snapshot (Stands file contents) → HasFront (files which) head snapshot → image file ≡ files file
    → Kept image file which contents head snapshot
kept_front files image file which contents head snapshot is has same =
    let P : ℕ → Type 0 = λ f. image f ≡ files f in
    let Q : List ℕ → Type 0 = λ t. HasFront t head snapshot in
    record { here = is.0; has = subst Q (sym (subst P is.0 same)) has; generation = ap (λ (h : Head). h.generation) is.1 }

new_second : (files image : Image) (file : ℕ) (contents : Contents) (head : Head) (snapshot : List ℕ) (next : Head) (late : List ℕ)
    → Kept image file 0 contents head snapshot → IsFront next late → contents.head.generation < next.generation
    → image (1 - file) ≡ 0x4A ∷ new_text next late → Means image (Stands (1 - file) (contents_of next late []))
new_second files image file contents head snapshot next late kept allowed less whole =
    let P : ℕ → Type 0 = λ f. image (1 - f) ≡ 0x4A ∷ new_text next late in
    let Q : ℕ → Type 0 = λ f. Means image (Stands (1 - f) (contents_of next late [])) in
    subst Q (sym kept.here) (whole_second image head snapshot next late kept.has allowed (omega (arith, kept.generation, less)) (subst P kept.here whole))

new_first : (files image : Image) (file : ℕ) (contents : Contents) (head : Head) (snapshot : List ℕ) (next : Head) (late : List ℕ)
    → Kept image file 1 contents head snapshot → IsFront next late → contents.head.generation < next.generation
    → image (1 - file) ≡ 0x4A ∷ new_text next late → Means image (Stands (1 - file) (contents_of next late []))
new_first files image file contents head snapshot next late kept allowed less whole =
    let P : ℕ → Type 0 = λ f. image (1 - f) ≡ 0x4A ∷ new_text next late in
    let Q : ℕ → Type 0 = λ f. Means image (Stands (1 - f) (contents_of next late [])) in
    subst Q (sym kept.here) (whole_first image head snapshot next late kept.has allowed (omega (arith, kept.generation, less)) (subst P kept.here whole))

new_of : (files image : Image) (file : ℕ) (contents : Contents) (first second : Front) (next : Head) (late : List ℕ) → Begins (files 0) first
    → Begins (files 1) second → FrontsMean files first second (Stands file contents) → image file ≡ files file → IsFront next late
    → contents.head.generation < next.generation → image (1 - file) ≡ 0x4A ∷ new_text next late
    → Means image (Stands (1 - file) (contents_of next late []))
new_of files image file contents Bad second next late begins also is same allowed less whole = absurd (cc is)
new_of files image file contents Shut Bad next late begins also is same allowed less whole = absurd (cc is)
new_of files image file contents (Open head snapshot) Bad next late begins also is same allowed less whole = absurd (cc is)
new_of files image file contents Shut Shut next late begins also is same allowed less whole = absurd (cc is)
new_of files image file contents (Open head snapshot) Shut next late begins also is same allowed less whole =
    new_second files image file contents head snapshot next late (kept_front files image file 0 contents head snapshot is begins same) allowed less whole
new_of files image file contents Shut (Open head snapshot) next late begins also is same allowed less whole =
    new_first files image file contents head snapshot next late (kept_front files image file 1 contents head snapshot is also same) allowed less whole
new_of files image file contents (Open head snapshot) (Open twin twin_snapshot) next late begins also (inl is) same allowed less whole =
    new_first files image file contents twin twin_snapshot next late (kept_front files image file 1 contents twin twin_snapshot is.1 also same) allowed less whole
new_of files image file contents (Open head snapshot) (Open twin twin_snapshot) next late begins also (inr is) same allowed less whole =
    new_second files image file contents head snapshot next late (kept_front files image file 0 contents head snapshot is.1 begins same) allowed less whole

new_from : (files image : Image) (place : Option CurrentFile) (last : ℕ) (snapshot : List ℕ) → StandOn place last files
    → IsFront (new_head (next_generation place) last) snapshot → image (1 - next_file place) ≡ files (1 - next_file place)
    → image (next_file place) ≡ 0x4A ∷ new_text (new_head (next_generation place) last) snapshot
    → Means image (Stands (next_file place) (contents_of (new_head (next_generation place) last) snapshot []))
new_from files image None last snapshot knows allowed same whole =
    first_is_new image (new_head 1 last) snapshot allowed whole (begins_same (image 1) (files 1) Shut same (both_shut files knows).1)
new_from files image (Some current) last snapshot (contents, at, means) allowed same whole =
    let file : 1 - (1 - current.file) ≡ current.file = (let two = file_is files current.file contents means in omega (arith, two)) in
    let P : ℕ → Type 0 = λ f. image f ≡ files f in
    new_of files image current.file contents means.first means.second (new_head (current.generation + 1) last) snapshot means.begins means.also means.is
    (subst P file same) allowed (omega (arith, at.generation)) whole

pub turned_whole : (files image : Image) (journal : JournalView) (snapshot : List ℕ) → KnowsFiles journal files → IsFront (next_head journal) snapshot
    → image (1 - next_file journal.current) ≡ files (1 - next_file journal.current)
    → image (next_file journal.current) ≡ 0x4A ∷ new_text (next_head journal) snapshot
    → Means image (Stands (next_file journal.current) (contents_of (next_head journal) snapshot []))
turned_whole files image journal snapshot knows allowed same whole = new_from files image journal.current journal.last snapshot knows allowed same whole
