-- Runs of calls over a disk: what a crash at any moment of them leaves.
use Rattle.std.proofs.Common.{◌≡◌, ◌≢◌, ℕ, ◌≤◌, List, ◌∙◌, refl, sym, arith, inl, inr, subst}
use Rattle.room_disk.specs.Disk.{DiskView, Image, Images, IsDisk, EachSince, Leaves, Quiet, Others, OthersThan, OthersLeft, OnFile, Settled}

-- a run that adds no image
pub leaves_none : (old new : DiskView) (P : Image → Type 0) → Quiet old new → Leaves old new P
leaves_none old new P quiet = record { later = quiet.later; each = λ moment image le left. inl (quiet.since moment image le left) }

pub leaves_weaker : (old new : DiskView) (P Q : Image → Type 0) → Leaves old new P → ((image : Image) → P image → Q image)
    → Leaves old new Q
leaves_weaker old new P Q run weaker = record {
  later = run.later;
  each = λ moment image le left. elim (run.each moment image le left) [ inl before ↦ inl before | inr now ↦ inr (weaker image now) ];
}

-- one run behind another
pub leaves_then : (old mid new : DiskView) (P : Image → Type 0) → Leaves old mid P → Leaves mid new P → Leaves old new P
leaves_then old mid new P first second = record {
  later = omega (arith, first.later, second.later);
  each = λ moment image le left. elim (second.each moment image (omega (arith, le, first.later)) left) [
    | inl before ↦ first.each moment image le before
    | inr now ↦ inr now
  ];
}

-- a call that adds no image behind a run
pub leaves_quiet : (old mid new : DiskView) (P : Image → Type 0) → Leaves old mid P → Quiet mid new → Leaves old new P
leaves_quiet old mid new P run quiet = leaves_then old mid new P run (leaves_none mid new P quiet)

-- ---- every image since

-- an image since an earlier moment has P, where those before the run do
pub each_since : (old new : DiskView) (moment : ℕ) (P : Image → Type 0) → Leaves old new P → moment ≤ old.moment
    → EachSince old moment P → EachSince new moment P
each_since old new moment P run early before image left = elim (run.each moment image early left) [
  | inl was ↦ before image was
  | inr now ↦ now
]

-- as the run begins, the images are those of now
pub since_now : (disk : DiskView) (P : Image → Type 0) → IsDisk disk → ((image : Image) → Images disk image → P image)
    → EachSince disk disk.moment P
since_now disk P is_disk now image left = now image (is_disk.only_now image left)

-- from the beginning of a run on
pub run_since : (old new : DiskView) (P : Image → Type 0) → IsDisk old → Leaves old new P
    → ((image : Image) → Images old image → P image) → EachSince new old.moment P
run_since old new P is_disk run now = each_since old new old.moment P run (omega arith) (since_now old P is_disk now)

-- a crash now leaves one of the images since
pub now_is_since : (disk : DiskView) (moment : ℕ) (P : Image → Type 0) → IsDisk disk → moment ≤ disk.moment
    → EachSince disk moment P → (image : Image) → Images disk image → P image
now_is_since disk moment P is_disk early each image now = each image (is_disk.counts_now moment image early now)

-- ---- calls that change nothing

pub quiet_none : (disk : DiskView) → Quiet disk disk
quiet_none disk = record {
  reads = λ file. refl;
  leaves = λ file bytes left. left;
  later = omega arith;
  since = λ moment image early left. left;
}

pub quiet_then : (old mid new : DiskView) → Quiet old mid → Quiet mid new → Quiet old new
quiet_then old mid new first second = record {
  reads = λ file. second.reads file ∙ first.reads file;
  leaves = λ file bytes left. first.leaves file bytes (second.leaves file bytes left);
  later = omega (arith, first.later, second.later);
  since = λ moment image early left. first.since moment image early (second.since moment image (omega (arith, early, first.later)) left);
}

-- a call that adds no image before a run
pub quiet_leaves : (old mid new : DiskView) (P : Image → Type 0) → Quiet old mid → Leaves mid new P → Leaves old new P
quiet_leaves old mid new P quiet run = leaves_then old mid new P (leaves_none old mid P quiet) run

-- nothing comes to be pending
pub settled_quiet : (old new : DiskView) (file : ℕ) → Quiet old new → Settled old file → Settled new file
settled_quiet old new file quiet settled bytes left = settled bytes (quiet.leaves file bytes left) ∙ sym (quiet.reads file)

-- ---- calls on one file

-- another file's images stay
pub others_then : (file : ℕ) (old mid new : DiskView) → Others file old mid → Others file mid new → Others file old new
others_then file old mid new first second = record {
  reads = λ other different. second.reads other different ∙ first.reads other different;
  leaves = λ other bytes different left. first.leaves other bytes different (second.leaves other bytes different left);
}

pub others_quiet : (file : ℕ) (old new : DiskView) → Quiet old new → Others file old new
others_quiet file old new quiet = record {
  reads = λ other different. quiet.reads other;
  leaves = λ other bytes different left. quiet.leaves other bytes left;
}

pub others_none : (file : ℕ) (disk : DiskView) → Others file disk disk
others_none file disk = others_quiet file disk disk (quiet_none disk)

-- a call on another file leaves nothing pending on this one
pub settled_others : (file other : ℕ) (old new : DiskView) → other ≢ file → Others file old new → Settled old other → Settled new other
settled_others file other old new apart others settled bytes left =
    settled bytes (others.leaves other bytes apart left) ∙ sym (others.reads other apart)

-- ---- several files

pub others_than : (IsOne : ℕ → Type 0) (file : ℕ) (old new : DiskView) → IsOne file → Others file old new → OthersThan IsOne old new
others_than IsOne file old new is_one others = record {
  reads = λ other not. others.reads other (λ same. not (subst IsOne (sym same) is_one));
  leaves = λ other bytes not left. others.leaves other bytes (λ same. not (subst IsOne (sym same) is_one)) left;
}

pub others_of_one : (file : ℕ) (old new : DiskView) → OthersThan (λ other. other ≡ file) old new → Others file old new
others_of_one file old new others = record { reads = others.reads; leaves = others.leaves }

pub others_than_quiet : (IsOne : ℕ → Type 0) (old new : DiskView) → Quiet old new → OthersThan IsOne old new
others_than_quiet IsOne old new quiet = record {
  reads = λ other not. quiet.reads other;
  leaves = λ other bytes not left. quiet.leaves other bytes left;
}

pub others_than_then : (IsOne : ℕ → Type 0) (old mid new : DiskView) → OthersThan IsOne old mid → OthersThan IsOne mid new → OthersThan IsOne old new
others_than_then IsOne old mid new first second = record {
  reads = λ other not. second.reads other not ∙ first.reads other not;
  leaves = λ other bytes not left. first.leaves other bytes not (second.leaves other bytes not left);
}

pub settled_others_than : (IsOne : ℕ → Type 0) (other : ℕ) (old new : DiskView) → ¬ IsOne other → OthersThan IsOne old new → Settled old other → Settled new other
settled_others_than IsOne other old new not others settled bytes left =
    settled bytes (others.leaves other bytes not left) ∙ sym (others.reads other not)

-- at every moment of a run on one of the files the others are as they were left
pub others_left : (IsOne : ℕ → Type 0) (file : ℕ) (P : List ℕ → Type 0) (old new : DiskView) → IsOne file
    → Leaves old new (OnFile file P old) → Leaves old new (OthersLeft IsOne old)
others_left IsOne file P old new is_one run =
    leaves_weaker old new (OnFile file P old) (OthersLeft IsOne old) run
    (λ image on other not. on.others other (λ same. not (subst IsOne (sym same) is_one)))

-- and so they are in a later part of it
pub others_left_then : (IsOne : ℕ → Type 0) (old mid new : DiskView) → OthersThan IsOne old mid
    → Leaves old mid (OthersLeft IsOne old) → Leaves mid new (OthersLeft IsOne mid) → Leaves old new (OthersLeft IsOne old)
others_left_then IsOne old mid new others first second =
    leaves_then old mid new (OthersLeft IsOne old) first
    (leaves_weaker mid new (OthersLeft IsOne mid) (OthersLeft IsOne old) second
    (λ image left other not. others.leaves other (image other) not (left other not)))

-- ---- an image in a later part of a run

-- an image in a later part of a run, told of its beginning
pub on_file_then : (file : ℕ) (P Q : List ℕ → Type 0) (old mid : DiskView) → Others file old mid
    → ((bytes : List ℕ) → P bytes → Q bytes) → (image : Image) → OnFile file P mid image → OnFile file Q old image
on_file_then file P Q old mid others weaker image now = record {
  this = weaker (image file) now.this;
  others = λ other different. others.leaves other (image other) different (now.others other different);
}

-- a weaker word of the file
pub on_file_weaker : (file : ℕ) (P Q : List ℕ → Type 0) (old new : DiskView) → Leaves old new (OnFile file P old)
    → ((bytes : List ℕ) → P bytes → Q bytes) → Leaves old new (OnFile file Q old)
on_file_weaker file P Q old new run weaker =
    leaves_weaker old new (OnFile file P old) (OnFile file Q old) run
    (λ image now. record { this = weaker (image file) now.this; others = now.others })
