-- The counts of faults, one for each of the files 0 to 257, and one for all others.
use Rattle.std.specs.Prelude.{ℕ, ◌≤◌, List, min, replicate, Result, is_err, slice_index, slice_set}
use Rattle.std.specs.Prelude.{if◌then◌else◌}
use Rattle.room_base.specs.Faults.{risen, Rose}

-- the place of a file's count
abbrev pub count_place : ℕ → ℕ
count_place file = min file 258

-- how often calls on the file have failed
abbrev pub faults_on : List ℕ → ℕ → ℕ
faults_on counts file = slice_index counts (count_place file)

-- no call has failed
unfoldable pub no_faults : List ℕ
no_faults = replicate 259 0

-- one more call on the file has failed
abbrev pub one_more_fault : ℕ → List ℕ → List ℕ
one_more_fault file counts = slice_set counts (count_place file) (risen (faults_on counts file))

-- the counts after an answer of a call on the file
abbrev pub counts_after : {T E : Type 0} → ℕ → Result T E → List ℕ → List ℕ
counts_after file answer counts = if is_err answer then one_more_fault file counts else counts

-- the file's count rose, and no other fell
pub record HasRisen (file : ℕ) (old new : List ℕ) : Type 0 where
  pub later : (other : ℕ) → faults_on old other ≤ faults_on new other
  pub rose : Rose (faults_on old file) (faults_on new file)
