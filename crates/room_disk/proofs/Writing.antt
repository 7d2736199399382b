-- Calls that write one file, one behind the other.
use Rattle.std.proofs.Common.{◌≡◌, ℕ, ◌+◌, ◌≤◌, List, [], ◌∷◌, ◌∙◌, ap, sym, subst, arith, inl, inr}
use Rattle.std.specs.Prelude.{IsTrue, Result, Ok, Err, OnOk, OnErr}
use Rattle.room_base.specs.Faults.{Rose}
use Rattle.room_base.specs.Outside.{Told}
use Rattle.room_disk.specs.Disk.{DiskView, Image, Images, IsDisk, Leaves, Quiet, Others, OnFile, Settled, FileCause}
use Rattle.room_disk.specs.Crash.{Overlays, Torn, GatedTorn, overlaid}
use Rattle.room_disk.specs.Writing.{ComesOf, ChangesFile, WritesFile, Then, TornThen}
use Rattle.room_disk.proofs.Runs.{leaves_none, leaves_then, leaves_weaker, others_then, others_quiet, on_file_then}
use Rattle.room_disk.proofs.Overlay.{overlaid_front}

-- the relation of a file's bytes before and after
abbrev pub Step : Type 1
Step = List ℕ → List ℕ → Type 0

pub on_ok : {T E : Type 0} (answer : Result T E) (P : Type 0) → P → OnOk answer P
on_ok (Ok value) P holds = holds
on_ok (Err fault) P holds = tt

on_ok_weaker : {T E : Type 0} (answer : Result T E) (P Q : Type 0) → (P → Q) → OnOk answer P → OnOk answer Q
on_ok_weaker (Ok value) P Q weaker holds = weaker holds
on_ok_weaker (Err fault) P Q weaker holds = tt

-- a fault behind other calls
rose_later : {T E : Type 0} (answer : Result T E) (before mid now : ℕ) → before ≤ mid → OnErr answer (Rose mid now) → OnErr answer (Rose before now)
rose_later (Ok value) before mid now later cause = tt
rose_later (Err fault) before mid now later cause = omega (arith, later, cause)

rose_then : {T E : Type 0} (file : ℕ) (before mid now : DiskView) (answer : Result T E) → ((other : ℕ) → before.faults other ≤ mid.faults other)
    → FileCause file mid now answer → FileCause file before now answer
rose_then file before mid now answer later cause = record {
  later = λ other. omega (arith, later other, cause.later other);
  cause = rose_later answer (before.faults file) (mid.faults file) (now.faults file) (later file) cause.cause;
}

-- ---- one call

-- what one call of the store says, in one word
pub changes_by : {T E : Type 0} {file : ℕ} {Whole Torn : Step} {before now : DiskView} {answer : Result T E}
    → FileCause file before now answer → now.tells ≡ before.tells
    → Told before.tells (OnOk answer (Whole (before.reads file) (now.reads file)))
    → Told before.tells (Others file before now)
    → Told before.tells ((after : List ℕ) → now.leaves file after → ComesOf Torn before file after)
    → Told before.tells (Leaves before now (Images now))
    → ChangesFile file Whole Torn before now answer
changes_by {file = file} {Torn = Torn} {before = before} {now = now} cause tells whole others torn run = record {
  cause = cause;
  tells = tells;
  others = others;
  whole = whole;
  torn = torn;
  moments = λ told. leaves_weaker before now (Images now) (OnFile file (ComesOf Torn before file) before) (run told)
      (λ image is. record {
        this = torn told (image file) (is file);
        others = λ other apart. (others told).leaves other (image other) apart (is other);
      });
}

-- what comes of a file on which nothing was pending comes of what it read
pub settled_comes : (file : ℕ) (Torn : Step) (disk : DiskView) (bytes : List ℕ) → Settled disk file → ComesOf Torn disk file bytes
    → Torn (disk.reads file) bytes
settled_comes file Torn disk bytes settled comes =
    let P : List ℕ → Type 0 = λ earlier. Torn earlier bytes in subst P (settled comes.0 comes.1) comes.2

-- ---- weaker words

comes_weaker : (file : ℕ) (Torn More : Step) (disk : DiskView) → ((old new : List ℕ) → Torn old new → More old new)
    → (bytes : List ℕ) → ComesOf Torn disk file bytes → ComesOf More disk file bytes
comes_weaker file Torn More disk weaker bytes comes = (comes.0, comes.1, weaker comes.0 bytes comes.2)

moments_weaker : (file : ℕ) (Torn More : Step) (before now : DiskView) → ((old new : List ℕ) → Torn old new → More old new)
    → Leaves before now (OnFile file (ComesOf Torn before file) before) → Leaves before now (OnFile file (ComesOf More before file) before)
moments_weaker file Torn More before now weaker run =
    leaves_weaker before now (OnFile file (ComesOf Torn before file) before) (OnFile file (ComesOf More before file) before) run
    (λ image on. record { this = comes_weaker file Torn More before weaker (image file) on.this; others = on.others })

pub changes_weaker : {T E : Type 0} {file : ℕ} {AlsoWhole AlsoTorn : Step} {before now : DiskView} {answer : Result T E} (Whole Torn : Step)
    → ChangesFile file Whole Torn before now answer
    → ((old new : List ℕ) → Whole old new → AlsoWhole old new) → ((old new : List ℕ) → Torn old new → AlsoTorn old new)
    → ChangesFile file AlsoWhole AlsoTorn before now answer
changes_weaker {file = file} {AlsoWhole = AlsoWhole} {AlsoTorn = AlsoTorn} {before = before} {now = now} {answer = answer} Whole Torn does whole torn = record {
  cause = does.cause;
  tells = does.tells;
  others = does.others;
  whole = λ told. on_ok_weaker answer (Whole (before.reads file) (now.reads file)) (AlsoWhole (before.reads file) (now.reads file))
      (whole (before.reads file) (now.reads file)) (does.whole told);
  torn = λ told bytes left. comes_weaker file Torn AlsoTorn before torn bytes (does.torn told bytes left);
  moments = λ told. moments_weaker file Torn AlsoTorn before now torn (does.moments told);
}

pub writes_weaker : {T E : Type 0} {file : ℕ} {AlsoWhole AlsoTorn : Step} {before now : DiskView} {answer : Result T E} (Whole Torn : Step)
    → WritesFile file Whole Torn before now answer
    → ((old new : List ℕ) → Whole old new → AlsoWhole old new) → ((old new : List ℕ) → Torn old new → AlsoTorn old new)
    → WritesFile file AlsoWhole AlsoTorn before now answer
writes_weaker {file = file} {AlsoWhole = AlsoWhole} {AlsoTorn = AlsoTorn} {before = before} {now = now} {answer = answer} Whole Torn does whole torn = record {
  cause = does.cause;
  tells = does.tells;
  others = does.others;
  settled = does.settled;
  whole = λ told. on_ok_weaker answer (Whole (before.reads file) (now.reads file)) (AlsoWhole (before.reads file) (now.reads file))
      (whole (before.reads file) (now.reads file)) (does.whole told);
  torn = λ told bytes left. comes_weaker file Torn AlsoTorn before torn bytes (does.torn told bytes left);
  moments = λ told. moments_weaker file Torn AlsoTorn before now torn (does.moments told);
}

-- another word of what the file reads, of these bytes alone
pub writes_reads : {T E : Type 0} {file : ℕ} {AlsoWhole Torn : Step} {before now : DiskView} {answer : Result T E} (Whole : Step)
    → WritesFile file Whole Torn before now answer
    → Told before.tells (Whole (before.reads file) (now.reads file) → AlsoWhole (before.reads file) (now.reads file))
    → WritesFile file AlsoWhole Torn before now answer
writes_reads {file = file} {AlsoWhole = AlsoWhole} {before = before} {now = now} {answer = answer} Whole does whole = record {
  cause = does.cause;
  tells = does.tells;
  others = does.others;
  settled = does.settled;
  whole = λ told. on_ok_weaker answer (Whole (before.reads file) (now.reads file)) (AlsoWhole (before.reads file) (now.reads file))
      (whole told) (does.whole told);
  torn = does.torn;
  moments = does.moments;
}

-- what was written with a sync is changed
pub writes_change : {T E : Type 0} {file : ℕ} {Whole Torn : Step} {before now : DiskView} {answer : Result T E}
    → WritesFile file Whole Torn before now answer → ChangesFile file Whole Torn before now answer
writes_change does = record {
  cause = does.cause;
  tells = does.tells;
  others = does.others;
  whole = does.whole;
  torn = does.torn;
  moments = does.moments;
}

-- ---- a call that failed

on_ok_failed : {T E : Type 0} {failure : E} (answer : Result T E) (P : Type 0) → answer ≡ Err failure → OnOk answer P
on_ok_failed (Ok value) P failed = absurd (cc failed)
on_ok_failed (Err fault) P failed = tt

on_err : {T E : Type 0} (answer : Result T E) (P : Type 0) → P → OnErr answer P
on_err (Ok value) P holds = tt
on_err (Err fault) P holds = holds

-- The exit of a `?`, whose answer std's `err_from_is_err_and` shows: nothing is said of what would be whole.
pub changes_failed : {T E T' E' : Type 0} {failure : E'} {file : ℕ} {AlsoWhole AlsoTorn : Step} {before now : DiskView} {fault : E} {answer : Result T' E'}
    (Whole Torn : Step) → answer ≡ Err failure → ChangesFile {T = T} file Whole Torn before now (Err fault)
    → ((old new : List ℕ) → Torn old new → AlsoTorn old new) → ChangesFile file AlsoWhole AlsoTorn before now answer
changes_failed {file = file} {AlsoWhole = AlsoWhole} {AlsoTorn = AlsoTorn} {before = before} {now = now} {answer = answer} Whole Torn failed does torn = record {
  cause = record { later = does.cause.later; cause = on_err answer (Rose (before.faults file) (now.faults file)) does.cause.cause };
  tells = does.tells;
  others = does.others;
  whole = λ told. on_ok_failed answer (AlsoWhole (before.reads file) (now.reads file)) failed;
  torn = λ told bytes left. comes_weaker file Torn AlsoTorn before torn bytes (does.torn told bytes left);
  moments = λ told. moments_weaker file Torn AlsoTorn before now torn (does.moments told);
}

pub writes_failed : {T E T' E' : Type 0} {failure : E'} {file : ℕ} {AlsoWhole AlsoTorn : Step} {before now : DiskView} {fault : E} {answer : Result T' E'}
    (Whole Torn : Step) → answer ≡ Err failure → ChangesFile {T = T} file Whole Torn before now (Err fault)
    → ((old new : List ℕ) → Torn old new → AlsoTorn old new) → WritesFile file AlsoWhole AlsoTorn before now answer
writes_failed {file = file} {AlsoWhole = AlsoWhole} {AlsoTorn = AlsoTorn} {before = before} {now = now} {answer = answer} Whole Torn failed does torn = record {
  cause = record { later = does.cause.later; cause = on_err answer (Rose (before.faults file) (now.faults file)) does.cause.cause };
  tells = does.tells;
  others = does.others;
  settled = λ told. on_ok_failed answer (Settled now file) failed;
  whole = λ told. on_ok_failed answer (AlsoWhole (before.reads file) (now.reads file)) failed;
  torn = λ told bytes left. comes_weaker file Torn AlsoTorn before torn bytes (does.torn told bytes left);
  moments = λ told. moments_weaker file Torn AlsoTorn before now torn (does.moments told);
}

-- ---- one behind the other

-- a sync behind what was changed
pub synced_then : {T E T' E' : Type 0} {file : ℕ} {Whole Torn : Step} {before now : DiskView} {value : T} {answer : Result T' E'} (mid : DiskView)
    → ChangesFile {E = E} file Whole Torn before mid (Ok value)
    → FileCause file mid now answer → now.tells ≡ mid.tells → Told mid.tells (Quiet mid now) → Told mid.tells (OnOk answer (Settled now file))
    → WritesFile file Whole Torn before now answer
synced_then {file = file} {Whole = Whole} {Torn = Torn} {before = before} {now = now} {answer = answer} mid first cause tells quiet settled =
    let told_mid : IsTrue before.tells → IsTrue mid.tells = λ told. rw first.tells told in
    record {
      cause = rose_then file before mid now answer first.cause.later cause;
      tells = tells ∙ first.tells;
      others = λ told. others_then file before mid now (first.others told) (others_quiet file mid now (quiet (told_mid told)));
      settled = λ told. settled (told_mid told);
      whole = λ told. (let P : List ℕ → Type 0 = λ bytes. Whole (before.reads file) bytes in
          on_ok answer (Whole (before.reads file) (now.reads file)) (subst P (sym ((quiet (told_mid told)).reads file)) (first.whole told)));
      torn = λ told bytes left. first.torn told bytes ((quiet (told_mid told)).leaves file bytes left);
      moments = λ told. (let P : Image → Type 0 = OnFile file (ComesOf Torn before file) before in
          leaves_then before mid now P (first.moments told) (leaves_none mid now P (quiet (told_mid told))));
    }

on_ok_then : {T E : Type 0} (answer : Result T E) (First Next : Step) (old mid new : List ℕ) → First old mid → OnOk answer (Next mid new)
    → OnOk answer (Then First Next old new)
on_ok_then (Ok value) First Next old mid new first next = (mid, first, next)
on_ok_then (Err fault) First Next old mid new first next = tt

-- changes behind changes
pub changes_then : {T E T' E' : Type 0} {file : ℕ} {before now : DiskView} {value : T} {answer : Result T' E'} {First Torn Next TornNext : Step} (mid : DiskView)
    → ChangesFile {E = E} file First Torn before mid (Ok value) → ChangesFile file Next TornNext mid now answer
    → ChangesFile file (Then First Next) (TornThen Torn Torn TornNext) before now answer
changes_then {file = file} {before = before} {now = now} {answer = answer} {First = First} {Torn = Torn} {Next = Next} {TornNext = TornNext} mid first next =
    let told_mid : IsTrue before.tells → IsTrue mid.tells = λ told. rw first.tells told in
    let Both : Step = TornThen Torn Torn TornNext in
    let comes : IsTrue before.tells → (bytes : List ℕ) → ComesOf TornNext mid file bytes → ComesOf Both before file bytes =
    λ told bytes made. (let was = first.torn told made.0 made.1 in (was.0, was.1, inr (made.0, was.2, made.2))) in
    record {
      cause = rose_then file before mid now answer first.cause.later next.cause;
      tells = next.tells ∙ first.tells;
      others = λ told. others_then file before mid now (first.others told) (next.others (told_mid told));
      whole = λ told. on_ok_then answer First Next (before.reads file) (mid.reads file) (now.reads file) (first.whole told) (next.whole (told_mid told));
      torn = λ told bytes left. comes told bytes (next.torn (told_mid told) bytes left);
      moments = λ told. (let P : Image → Type 0 = OnFile file (ComesOf Both before file) before in
          leaves_then before mid now P
          (moments_weaker file Torn Both before mid (λ old new torn. inl torn) (first.moments told))
          (leaves_weaker mid now (OnFile file (ComesOf TornNext mid file) mid) P (next.moments (told_mid told))
          (on_file_then file (ComesOf TornNext mid file) (ComesOf Both before file) before mid (first.others told) (comes told))));
    }

-- changes behind changes, of which several may be torn like one
pub changes_more : {T E T' E' : Type 0} {file : ℕ} {before now : DiskView} {value : T} {answer : Result T' E'} {First Next Torn : Step} (mid : DiskView)
    → ((old mid new : List ℕ) → Torn old mid → Torn mid new → Torn old new)
    → ChangesFile {E = E} file First Torn before mid (Ok value) → ChangesFile file Next Torn mid now answer
    → ChangesFile file (Then First Next) Torn before now answer
changes_more {First = First} {Next = Next} {Torn = Torn} mid joins first next =
    changes_weaker (Then First Next) (TornThen Torn Torn Torn) (changes_then mid first next) (λ old new whole. whole)
    (λ old new torn. elim torn [ inl one ↦ one | inr both ↦ joins old both.0 new both.1 both.2 ])

-- a write with a sync behind changes
pub changes_write : {T E T' E' : Type 0} {file : ℕ} {before now : DiskView} {value : T} {answer : Result T' E'} {First Torn Next TornNext : Step} (mid : DiskView)
    → ChangesFile {E = E} file First Torn before mid (Ok value) → WritesFile file Next TornNext mid now answer
    → WritesFile file (Then First Next) (TornThen Torn Torn TornNext) before now answer
changes_write mid first next =
    let both = changes_then mid first (writes_change next) in
    record {
      cause = both.cause;
      tells = both.tells;
      others = both.others;
      settled = λ told. next.settled (rw first.tells told);
      whole = both.whole;
      torn = both.torn;
      moments = both.moments;
    }

-- a write with a sync behind another: nothing was pending in between
pub writes_then : {T E T' E' : Type 0} {file : ℕ} {before now : DiskView} {value : T} {answer : Result T' E'} {First Torn Next TornNext : Step} (mid : DiskView)
    → IsDisk before → WritesFile {E = E} file First Torn before mid (Ok value) → WritesFile file Next TornNext mid now answer
    → WritesFile file (Then First Next) (TornThen Torn First TornNext) before now answer
writes_then {file = file} {before = before} {now = now} {answer = answer} {First = First} {Torn = Torn} {Next = Next} {TornNext = TornNext} mid is_disk first next =
    let told_mid : IsTrue before.tells → IsTrue mid.tells = λ told. rw first.tells told in
    let Both : Step = TornThen Torn First TornNext in
    let comes : IsTrue before.tells → (bytes : List ℕ) → ComesOf TornNext mid file bytes → ComesOf Both before file bytes =
    λ told bytes made. (let P : List ℕ → Type 0 = λ start. TornNext start bytes in
    (before.reads file, is_disk.reads_one file, inr (mid.reads file, first.whole told, subst P (first.settled told made.0 made.1) made.2))) in
    record {
      cause = rose_then file before mid now answer first.cause.later next.cause;
      tells = next.tells ∙ first.tells;
      others = λ told. others_then file before mid now (first.others told) (next.others (told_mid told));
      settled = λ told. next.settled (told_mid told);
      whole = λ told. on_ok_then answer First Next (before.reads file) (mid.reads file) (now.reads file) (first.whole told) (next.whole (told_mid told));
      torn = λ told bytes left. comes told bytes (next.torn (told_mid told) bytes left);
      moments = λ told. (let P : Image → Type 0 = OnFile file (ComesOf Both before file) before in
          leaves_then before mid now P
          (moments_weaker file Torn Both before mid (λ old new torn. inl torn) (first.moments told))
          (leaves_weaker mid now (OnFile file (ComesOf TornNext mid file) mid) P (next.moments (told_mid told))
          (on_file_then file (ComesOf TornNext mid file) (ComesOf Both before file) before mid (first.others told) (comes told))));
    }

-- ---- where nothing was pending

-- the images are those of what the file read
pub settled_moments : (file : ℕ) (Torn : Step) (before now : DiskView) → Settled before file
    → Leaves before now (OnFile file (ComesOf Torn before file) before) → Leaves before now (OnFile file (Torn (before.reads file)) before)
settled_moments file Torn before now settled run =
    leaves_weaker before now (OnFile file (ComesOf Torn before file) before) (OnFile file (Torn (before.reads file)) before) run
    (λ image on. record { this = settled_comes file Torn before (image file) settled on.this; others = on.others })

-- ---- a gate

-- the letter in front of what stands behind it
pub gated_whole : (at letter : ℕ) (rest old new : List ℕ) → Then (Overlays (at + 1) rest) (Overlays at (letter ∷ [])) old new
    → Overlays at (letter ∷ rest) old new
gated_whole at letter rest old new both =
    both.2 ∙ ap (overlaid at (letter ∷ [])) both.1 ∙ overlaid_front at letter rest old

pub gated_torn : (at letter : ℕ) (rest old new : List ℕ)
    → TornThen (Torn (at + 1) rest) (Overlays (at + 1) rest) (Torn at (letter ∷ [])) old new → GatedTorn at letter rest old new
gated_torn at letter rest old new (inl torn) = inl torn
gated_torn at letter rest old new (inr both) =
    let P : List ℕ → Type 0 = λ mid. Torn at (letter ∷ []) mid new in inr (subst P both.1 both.2)
