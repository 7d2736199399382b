-- What is recorded makes a disk.
use Rattle.std.proofs.Common.{◌≡◌, ◌≢◌, ◌==◌, ℕ, ◌≤◌, List, [], ◌∷◌, length, take, if◌then◌else◌}
use Rattle.std.proofs.Common.{refl, arith, inl, inr, true}
use Rattle.std.proofs.lemmas.List.{places}
use Rattle.std.proofs.lemmas.Bool.Decides.{eqb_tells}
use Rattle.room_disk.specs.declared.disk_event.DiskEvent.{DiskEvent}
use Rattle.room_disk.specs.declared.disk_event.DiskEvent.TheVariants.{Written, Cut, Synced}
use Rattle.room_disk.specs.Disk.{IsDisk, Image}
use Rattle.room_disk.specs.Crash.{overlaid, Torn, CutShort}
use Rattle.room_disk.specs.Past.{read_after, Steps, MayLeave, LeavesImage, MightHaveLeft}

pub if_same : {A : Type 0} (a b : ℕ) (x y : A) → a ≡ b → (if a == b then x else y) ≡ x
if_same a b x y same =
    elim (eqb_tells a b) [ inl is ↦ rw is.0 refl | inr isnt ↦ absurd (isnt.1 same) ]

pub if_other : {A : Type 0} (a b : ℕ) (x y : A) → a ≢ b → (if a == b then x else y) ≡ y
if_other a b x y other =
    elim (eqb_tells a b) [ inl is ↦ absurd (other is.1) | inr isnt ↦ rw isnt.0 refl ]

-- a write that is done whole is a torn one
pub whole_write : (at : ℕ) (bytes old : List ℕ) → Torn at bytes old (overlaid at bytes old)
whole_write at bytes old = record {
  before = λ place below inside. grind (arith, places);
  behind = λ place from inside. grind (arith, places);
  no_shorter = grind (arith, places);
  no_longer = grind (arith, places);
  gate = λ letter one is. inl (rw one (grind (arith, places)));
}

-- a cut that is done whole is one cut short
pub whole_cut : (to : ℕ) (old : List ℕ) → CutShort to old (take to old)
whole_cut to old = record {
  before = λ place below inside. grind (arith, places);
  no_shorter = grind (arith, places);
  no_longer = grind (arith, places);
}

-- the event is on this file or on another
pub by_file : (other file : ℕ) (before : List ℕ → Type 0) (step : List ℕ → List ℕ → Type 0)
    (old new : List ℕ) → before old → step old new
    → Steps other file before step (if other == file then new else old)
by_file other file before step old new was does =
    elim (eqb_tells other file) [
      | inl is ↦ rw (if_same other file new old is.1) (inl (is.1, (old, was, does)))
      | inr isnt ↦ rw (if_other other file new old isnt.1) (inr (isnt.1, was))
    ]

-- what is read is one of what a crash may leave
pub may_leave_read : (first : Image) (events : List DiskEvent) (file : ℕ)
    → MayLeave first events file (read_after first events file)
may_leave_read first [] file = refl
may_leave_read first (Written other at bytes ∷ older) file =
    by_file other file (MayLeave first older file) (Torn at bytes) (read_after first older file)
    (overlaid at bytes (read_after first older file))
    (may_leave_read first older file) (whole_write at bytes (read_after first older file))
may_leave_read first (Cut other to ∷ older) file =
    by_file other file (MayLeave first older file) (CutShort to) (read_after first older file)
    (take to (read_after first older file))
    (may_leave_read first older file) (whole_cut to (read_after first older file))
may_leave_read first (Synced other ∷ older) file =
    elim (eqb_tells other file) [
      | inl is ↦ inl (is.1, refl)
      | inr isnt ↦ inr
          (isnt.1, may_leave_read first older file)
    ]

pub left_now : (first : Image) (events : List DiskEvent) (moment : ℕ) (image : Image)
    → moment ≤ length events
    → LeavesImage first events image → MightHaveLeft first events moment image
left_now first [] moment image le leaves = (omega (arith, le), leaves)
left_now first (event ∷ older) moment image le leaves = inl (le, leaves)

left_before : (first : Image) (events : List DiskEvent) (moment : ℕ) (image : Image)
    → MightHaveLeft first events moment image → moment ≤ length events
left_before first [] moment image left = omega (arith, left.0)
left_before first (event ∷ older) moment image left = elim left [
  | inl now ↦ now.0
  | inr before ↦ omega (arith, left_before first older moment image before)
]

only_left : (first : Image) (events : List DiskEvent) (image : Image)
    → MightHaveLeft first events (length events) image → LeavesImage first events image
only_left first [] image left = left.1
only_left first (event ∷ older) image left = elim left [
  | inl now ↦ now.1
  | inr before ↦ absurd
      (omega (arith, left_before first older (length (event ∷ older)) image before))
]

-- whatever its counts
pub past_is_disk : (first : Image) (events : List DiskEvent) (faults : ℕ → ℕ) → IsDisk (record {
  tells = true;
  reads = read_after first events;
  leaves = MayLeave first events;
  moment = length events;
  since = MightHaveLeft first events;
  faults = faults;
})
past_is_disk first events faults = record {
  counts_now = λ moment image le leaves. left_now first events moment image le leaves;
  only_now = λ image left. only_left first events image left;
  reads_one = λ file. may_leave_read first events file;
}
