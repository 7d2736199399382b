-- A journal that is made anew: both files are closed, and then file 0 is written.
use Rattle.std.proofs.Common.{◌≡◌, ◌≢◌, ◌⊎◌, ℕ, ◌≤◌, List, [], ◌∷◌, get_or, refl, sym, ap, subst, ◌∙◌, arith, inl, inr}
use Rattle.std.specs.Prelude.{IsTrue, Result, Ok, Err, OnOk, OnErr}
use Rattle.room_base.specs.Faults.{Rose}
use Rattle.room_base.specs.Outside.{Told}
use Rattle.room_disk.specs.Disk.{DiskView, Image, Leaves, OnFile, Others, OthersThan, Settled}
use Rattle.room_disk.specs.Crash.{Overlays, Torn, IsAnew, AnewTorn}
use Rattle.room_disk.specs.Writing.{ComesOf, WritesFile}
use Rattle.room_disk.proofs.Anew.{closing}
use Rattle.room_disk.proofs.Overlay.{overlaid_first}
use Rattle.room_disk.proofs.Runs.{leaves_then, leaves_weaker, others_than, others_than_then, settled_others}
use Rattle.cat_journal.specs.Journal.{IsJournalFile, IsShut, IsMakingAnew, MakesAnew}

pub record MakingAnew (text : List ℕ) (before now : DiskView) : Type 0 where
  pub later : (file : ℕ) → before.faults file ≤ now.faults file
  pub tells : now.tells ≡ before.tells
  pub others : Told before.tells (OthersThan IsJournalFile before now)
  pub moments : Told before.tells (Leaves before now (IsMakingAnew text before))

shut_overlaid : (old new : List ℕ) → Overlays 0 (0 ∷ []) old new → IsShut new
shut_overlaid old new written opens =
    omega (arith, ap (λ (t : List ℕ). get_or t 0 0) (written ∙ overlaid_first (0 ∷ []) old 1 refl), opens)

shut_same : (one other : List ℕ) → one ≡ other → IsShut other → IsShut one
shut_same one other same shut = subst IsShut (sym same) shut

not_zero : ◌≢◌ {A = ℕ} 1 0
not_zero same = absurd (omega (arith, same))

not_one : ◌≢◌ {A = ℕ} 0 1
not_one same = absurd (omega (arith, same))

-- ---- the first file is closed

first_image : (text : List ℕ) (before : DiskView) (image : Image) → OnFile 0 (ComesOf (Torn 0 (0 ∷ [])) before 0) before image
    → IsMakingAnew text before image
first_image text before image on =
    let left = on.others 1 not_zero in record {
      files = elim (closing 0x4A on.this.0 (image 0) (inl refl) on.this.2) [
        | inl same ↦ inl (subst (before.leaves 0) (sym same) on.this.1, left)
        | inr shut ↦ inr (inl (shut, left))
      ];
      others = λ other not. on.others other (λ is. not (inl is));
    }

pub making_first : {T E : Type 0} {answer : Result T E} (text : List ℕ) (before now : DiskView)
    → WritesFile 0 (Overlays 0 (0 ∷ [])) (Torn 0 (0 ∷ [])) before now answer → MakingAnew text before now
making_first text before now does = record {
  later = does.cause.later;
  tells = does.tells;
  others = λ told. others_than IsJournalFile 0 before now (inl refl) (does.others told);
  moments = λ told. leaves_weaker before now (OnFile 0 (ComesOf (Torn 0 (0 ∷ [])) before 0) before) (IsMakingAnew text before)
      (does.moments told) (first_image text before);
}

-- ---- the second is closed

second_image : (text : List ℕ) (before mid : DiskView) (image : Image) → Others 0 before mid → Settled mid 0 → IsShut (mid.reads 0)
    → OnFile 1 (ComesOf (Torn 0 (0 ∷ [])) mid 1) mid image → IsMakingAnew text before image
second_image text before mid image others settled closed on =
    let first : IsShut (image 0) = shut_same (image 0) (mid.reads 0) (settled (image 0) (on.others 0 not_one)) closed in
    let left = others.leaves 1 on.this.0 not_zero on.this.1 in record {
      files = elim (closing 0x4A on.this.0 (image 1) (inl refl) on.this.2) [
        | inl same ↦ inr (inl (first, subst (before.leaves 1) (sym same) left))
        | inr shut ↦ inr (inr (inl (first, shut)))
      ];
      others = λ other not. others.leaves other (image other) (λ is. not (inl is)) (on.others other (λ is. not (inr is)));
    }

-- a run behind a run
making_then : (text : List ℕ) (before mid now : DiskView) → MakingAnew text before mid → ((file : ℕ) → mid.faults file ≤ now.faults file)
    → now.tells ≡ mid.tells → Told mid.tells (OthersThan IsJournalFile mid now) → Told before.tells (Leaves mid now (IsMakingAnew text before))
    → MakingAnew text before now
making_then text before mid now first later tells others moments = record {
  later = λ file. omega (arith, first.later file, later file);
  tells = tells ∙ first.tells;
  others = λ told. others_than_then IsJournalFile before mid now (first.others told) (others (rw first.tells told));
  moments = λ told. leaves_then before mid now (IsMakingAnew text before) (first.moments told) (moments told);
}

pub making_second : {T E T' E' : Type 0} {value : T} {answer : Result T' E'} (text : List ℕ) (before mid now : DiskView)
    → WritesFile {E = E} 0 (Overlays 0 (0 ∷ [])) (Torn 0 (0 ∷ [])) before mid (Ok value)
    → WritesFile 1 (Overlays 0 (0 ∷ [])) (Torn 0 (0 ∷ [])) mid now answer → MakingAnew text before now
making_second text before mid now one two =
    let told_mid : IsTrue before.tells → IsTrue mid.tells = λ told. rw one.tells told in
    making_then text before mid now (making_first text before mid one) two.cause.later two.tells
    (λ told. others_than IsJournalFile 1 mid now (inr refl) (two.others told))
    (λ told. leaves_weaker mid now (OnFile 1 (ComesOf (Torn 0 (0 ∷ [])) mid 1) mid) (IsMakingAnew text before) (two.moments (told_mid told))
    (λ image on. second_image text before mid image (one.others told) (one.settled told) (shut_overlaid _ _ (one.whole told)) on))

-- ---- the first is written

-- both files are closed
record AreClosed (disk : DiskView) : Type 0 where
  first : IsShut (disk.reads 0)
  second : IsShut (disk.reads 1)
  settled : Settled disk 0
  also : Settled disk 1

are_closed : {T E T' E' : Type 0} {value : T} {other : T'} (before mid now : DiskView) → IsTrue before.tells
    → WritesFile {E = E} 0 (Overlays 0 (0 ∷ [])) (Torn 0 (0 ∷ [])) before mid (Ok value)
    → WritesFile {E = E'} 1 (Overlays 0 (0 ∷ [])) (Torn 0 (0 ∷ [])) mid now (Ok other) → AreClosed now
are_closed before mid now told one two =
    let told_mid : IsTrue mid.tells = rw one.tells told in record {
      first = shut_same (now.reads 0) (mid.reads 0) ((two.others told_mid).reads 0 not_one) (shut_overlaid _ _ (one.whole told));
      second = shut_overlaid _ _ (two.whole told_mid);
      settled = settled_others 1 0 mid now not_one (two.others told_mid) (one.settled told);
      also = two.settled told_mid;
    }

third_file : (text old new : List ℕ) → IsShut old → AnewTorn 0x4A text old new → IsShut new ⊎ (new ≡ 0x4A ∷ text)
third_file text old new closed (inl same) = inl (shut_same new old same closed)
third_file text old new closed (inr (inl shut)) = inl shut
third_file text old new closed (inr (inr whole)) = inr whole

third_image : (text : List ℕ) (before mid : DiskView) (image : Image) → OthersThan IsJournalFile before mid → AreClosed mid
    → OnFile 0 (ComesOf (AnewTorn 0x4A text) mid 0) mid image → IsMakingAnew text before image
third_image text before mid image others closed on =
    let second : IsShut (image 1) = shut_same (image 1) (mid.reads 1) (closed.also (image 1) (on.others 1 not_zero)) closed.second in
    let was : IsShut on.this.0 = shut_same on.this.0 (mid.reads 0) (closed.settled on.this.0 on.this.1) closed.first in record {
      files = elim (third_file text on.this.0 (image 0) was on.this.2) [
        | inl shut ↦ inr (inr (inl (shut, second)))
        | inr whole ↦ inr (inr (inr (whole, second)))
      ];
      others = λ other not. others.leaves other (image other) not (on.others other (λ is. not (inl is)));
    }

pub making_third : {T E T' E' T'' E'' : Type 0} {value : T} {other : T'} {answer : Result T'' E''} (text : List ℕ) (before mid late now : DiskView)
    → WritesFile {E = E} 0 (Overlays 0 (0 ∷ [])) (Torn 0 (0 ∷ [])) before mid (Ok value)
    → WritesFile {E = E'} 1 (Overlays 0 (0 ∷ [])) (Torn 0 (0 ∷ [])) mid late (Ok other)
    → WritesFile 0 (IsAnew 0x4A text) (AnewTorn 0x4A text) late now answer → MakingAnew text before now
making_third text before mid late now one two three =
    let both = making_second text before mid late one two in
    making_then text before late now both three.cause.later three.tells
    (λ told. others_than IsJournalFile 0 late now (inl refl) (three.others told))
    (λ told. leaves_weaker late now (OnFile 0 (ComesOf (AnewTorn 0x4A text) late 0) late) (IsMakingAnew text before) (three.moments (rw both.tells told))
    (λ image on. third_image text before late image (both.others told) (are_closed before mid late told one two) on))

-- ---- the answers

on_ok_failed : {T E : Type 0} {failure : E} (answer : Result T E) (P : Type 0) → answer ≡ Err failure → OnOk answer P
on_ok_failed (Ok value) P failed = absurd (cc failed)
on_ok_failed (Err fault) P failed = tt

on_err : {T E : Type 0} (answer : Result T E) (P : Type 0) → P → OnErr answer P
on_err (Ok value) P holds = tt
on_err (Err fault) P holds = holds

pub makes_failed : {T E : Type 0} {failure : E} {answer : Result T E} (text : List ℕ) (before now : DiskView) → answer ≡ Err failure
    → Rose (before.faults 0) (now.faults 0) ⊎ Rose (before.faults 1) (now.faults 1) → MakingAnew text before now → MakesAnew text before now answer
makes_failed {answer = answer} text before now failed rose making = record {
  later = making.later;
  cause = on_err answer (Rose (before.faults 0) (now.faults 0) ⊎ Rose (before.faults 1) (now.faults 1)) rose;
  tells = making.tells;
  others = making.others;
  settled = λ told. on_ok_failed answer (Settled now 0 × Settled now 1) failed;
  whole = λ told. on_ok_failed answer ((now.reads 0 ≡ 0x4A ∷ text) × IsShut (now.reads 1)) failed;
  moments = making.moments;
}

-- a count that rose later
pub rose_behind : (before mid now : ℕ) → before ≤ mid → Rose mid now → Rose before now
rose_behind before mid now later rose = omega (arith, later, rose)

pub makes_all : {T E T' E' T'' E'' T''' E''' : Type 0} {value : T} {other : T'} {third : T''} {given : T'''} (text : List ℕ) (before mid late now : DiskView)
    → WritesFile {E = E} 0 (Overlays 0 (0 ∷ [])) (Torn 0 (0 ∷ [])) before mid (Ok value)
    → WritesFile {E = E'} 1 (Overlays 0 (0 ∷ [])) (Torn 0 (0 ∷ [])) mid late (Ok other)
    → WritesFile {E = E''} 0 (IsAnew 0x4A text) (AnewTorn 0x4A text) late now (Ok third)
    → MakesAnew {E = E'''} text before now (Ok given)
makes_all text before mid late now one two three =
    let making = making_third text before mid late now one two three in
    let both = making_second text before mid late one two in
    let told_late : IsTrue before.tells → IsTrue late.tells = λ told. rw both.tells told in record {
      later = making.later;
      cause = tt;
      tells = making.tells;
      others = making.others;
      settled = λ told. (
        three.settled (told_late told),
        settled_others 0 1 late now not_zero (three.others (told_late told)) (are_closed before mid late told one two).also,
      );
      whole = λ told. (
        three.whole (told_late told),
        shut_same (now.reads 1) (late.reads 1) ((three.others (told_late told)).reads 1 not_zero) (are_closed before mid late told one two).second,
      );
      moments = making.moments;
    }
