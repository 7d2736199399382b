-- What the two files of a journal mean.
use Rattle.std.specs.Prelude.{◌≡◌, ◌≢◌, ◌⊎◌, ℕ, ◌<◌, ◌≤◌, List, ◌∷◌, ◌++◌, slice_index}
use Rattle.room_disk.specs.Disk.{Image}
use Rattle.cat_journal.specs.Layout.{Head, front_text}
use Rattle.cat_journal.specs.Contents.{Contents, contents_of, gate_of, IsFront, Holds}
use Rattle.cat_journal.specs.Contents.{BreaksBehind}

-- the front of a file: its gate is closed, or it is open before a head and a snapshot, or it is
-- open before none
pub data Front : Type 0 where
  Shut : Front
  Open : Head → List ℕ → Front
  Bad : Front

pub record HasFront (bytes : List ℕ) (head : Head) (snapshot : List ℕ) : Type 0 where
  pub allowed : IsFront head snapshot
  pub rest : List ℕ
  pub text : bytes ≡ (0x4A ∷ front_text head snapshot) ++ rest

abbrev pub Begins : List ℕ → Front → Type 0
Begins bytes Shut = slice_index bytes 0 ≢ 0x4A
Begins bytes (Open head snapshot) = HasFront bytes head snapshot
Begins bytes Bad = (slice_index bytes 0 ≡ 0x4A)
    × ((head : Head) (snapshot : List ℕ) → ¬ HasFront bytes head snapshot)

-- what a journal is: no file is open, or one of them is damaged at a place, or one is the current
-- file and has these contents
pub data Meaning : Type 0 where
  Unopened : Meaning
  Damaged : ℕ → ℕ → Meaning
  Stands : ℕ → Contents → Meaning

-- what the current file means, which begins with this head and snapshot
abbrev pub CurrentMeans : ℕ → List ℕ → Head → List ℕ → Meaning → Type 0
CurrentMeans file bytes head snapshot Unopened = ⊥
CurrentMeans file bytes head snapshot (Damaged which place) = (which ≡ file)
    × ((payloads : List (List ℕ)) × BreaksBehind bytes (contents_of head snapshot payloads)
    × (place ≡ gate_of (contents_of head snapshot payloads)))
CurrentMeans file bytes head snapshot (Stands which contents) = (which ≡ file)
    × (contents.head ≡ head) × (contents.snapshot ≡ snapshot) × Holds bytes contents

-- A bad front is judged before all else, that of file 0 before that of file 1. The current file is
-- the open one of greater generation, and file 0 where they are equal.
abbrev pub FrontsMean : Image → Front → Front → Meaning → Type 0
FrontsMean files Bad second meaning = meaning ≡ Damaged 0 0
FrontsMean files Shut Bad meaning = meaning ≡ Damaged 1 0
FrontsMean files (Open head snapshot) Bad meaning = meaning ≡ Damaged 1 0
FrontsMean files Shut Shut meaning = meaning ≡ Unopened
FrontsMean files (Open head snapshot) Shut meaning =
    CurrentMeans 0 (files 0) head snapshot meaning
FrontsMean files Shut (Open head snapshot) meaning =
    CurrentMeans 1 (files 1) head snapshot meaning
FrontsMean files (Open head snapshot) (Open other late) meaning =
    ((head.generation < other.generation) × CurrentMeans 1 (files 1) other late meaning)
    ⊎ ((other.generation ≤ head.generation) × CurrentMeans 0 (files 0) head snapshot meaning)

-- The meaning of the files 0 and 1.
pub record Means (files : Image) (meaning : Meaning) : Type 0 where
  pub first : Front
  pub second : Front
  pub begins : Begins (files 0) first
  pub also : Begins (files 1) second
  pub is : FrontsMean files first second meaning
