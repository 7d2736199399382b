-- What is written where errors go.
use Rattle.std.specs.Prelude.{◌≡◌, ◌⊎◌, List, ◌++◌, codes, ℕ}
use Rattle.std.specs.Fmt.{decimal}
use Rattle.room_base.specs.Faults.{Rose}
use Rattle.room_base.specs.Outside.{SinkView, AddsFront}
use Rattle.room_base.specs.Refusals.{refusal_text}
use Rattle.room_base.specs.declared.refusal.Refusal.{Refusal}
use Rattle.room_disk.specs.declared.folder_lock.LockFault.{LockFault}
use Rattle.room_disk.specs.declared.folder_lock.LockFault.TheVariants as lock_faults
use Rattle.room_run.specs.declared.status.Status.{Status}
use Rattle.room_run.specs.declared.status.Status.TheVariants as status

-- a line was written, or a front of it where the count of faults rose
abbrev pub WritesLine : List ℕ → SinkView → SinkView → Type 0
WritesLine line old new =
    (new.written ≡ old.written ++ line)
    ⊎ (Rose old.faults new.faults × AddsFront old.written new.written line)

-- the line for a word that doesn't fit
abbrev pub usage_line : List ℕ → List ℕ
usage_line word = codes "room: usage " ++ (word ++ codes "\n")

-- the line of a refusal
abbrev pub refusal_line : Refusal → List ℕ
refusal_line refusal = codes "room: refused " ++ (refusal_text refusal ++ codes "\n")

-- the line of a damaged journal: the number of its file, and the place
abbrev pub damaged_line : ℕ → ℕ → List ℕ
damaged_line file place =
    codes "room: damaged journal " ++ (decimal file ++ (codes " " ++ (decimal place ++ codes "\n")))

-- the line for input that begins no request
abbrev pub bad_input_line : ℕ → List ℕ
bad_input_line offset = codes "room: bad input " ++ (decimal offset ++ codes "\n")

-- what is written for a status: the line that names it, and nothing where all was done
abbrev pub Reports : Status → SinkView → SinkView → Type 0
Reports status.Done old new = new.written ≡ old.written
Reports (status.Usage word) old new = WritesLine (usage_line word) old new
Reports status.Memory old new = WritesLine (codes "room: memory\n") old new
Reports status.ReadFault old new = WritesLine (codes "room: read fault\n") old new
Reports status.WriteFault old new = WritesLine (codes "room: write fault\n") old new
Reports status.DiskFault old new = WritesLine (codes "room: disk fault\n") old new
Reports (status.DamagedJournal file place) old new = WritesLine (damaged_line file place) old new
Reports (status.BadInput offset) old new = WritesLine (bad_input_line offset) old new
Reports status.ClockFault old new = WritesLine (codes "room: clock fault\n") old new
Reports (status.Refused refusal) old new = WritesLine (refusal_line refusal) old new
Reports status.InputLimit old new = WritesLine (codes "room: input limit\n") old new

-- the lines that say why a folder wasn't locked
abbrev pub unlocked_lines : LockFault → List ℕ
unlocked_lines lock_faults.InUse = codes "room: disk fault\nroom: folder in use\n"
unlocked_lines lock_faults.NoFolder = codes "room: disk fault\nroom: no folder\n"

-- what is written where a folder wasn't locked
abbrev pub ReportsUnlocked : LockFault → SinkView → SinkView → Type 0
ReportsUnlocked fault old new = WritesLine (unlocked_lines fault) old new
