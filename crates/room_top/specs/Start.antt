-- What the program's arguments ask for, and how the program ends.
use Rattle.std.specs.Prelude.{◌≡◌, ◌≢◌, ◌⊎◌, ℕ, List, [], ◌∷◌, ◌++◌, codes, map, string_bytes, Result}
use Rattle.std.specs.Prelude.{Ok, Err, false}
use Rattle.room_base.specs.Faults.{Rose}
use Rattle.room_base.specs.Outside.{SinkView, Told, AddsFront}
use Rattle.room_base.specs.Text.{IsName, HasLength}
use Rattle.room_disk.specs.Untold.{untold_disk}
use Rattle.room_disk.specs.Locking.{LockView, UnlockedView}
use Rattle.room_run.specs.Report.{Reports, ReportsUnlocked}
use Rattle.room_run.specs.Run.{World, world, Ends}
use Rattle.room_top.specs.declared.start.Request.{Request}
use Rattle.room_top.specs.declared.start.Request.TheVariants as requests
use Rattle.room_run.specs.declared.status.Status.{Status}
use Rattle.room_run.specs.declared.status.Status.TheVariants as status
use Rattle.room_run.specs.Words.{ReadsWords, access_of}
use Rattle.room_run.specs.declared.words.Command.{Command}

-- ---- what is asked for

-- a word that names a folder
abbrev pub IsFolder : List ℕ → Type 0
IsFolder word = HasLength 4096 word × IsName word

-- the folder that a word names, or the status for one that names none
abbrev pub IsFolderOf : List ℕ → Result (List ℕ) Status → Type 0
IsFolderOf word (Ok folder) = (folder ≡ word) × IsFolder word
IsFolderOf word (Err (status.Usage shown)) = (shown ≡ word) × ¬ (IsFolder word)
IsFolderOf word (Err status.Memory) = Unit {0}
IsFolderOf word (Err other) = ⊥

-- no folder is named: there is no word, or the first is none
abbrev pub NamesNoFolder : List (List ℕ) → List ℕ → Type 0
NamesNoFolder [] word = word ≡ []
NamesNoFolder (first ∷ rest) word = (word ≡ first) × ¬ (IsFolder first)

-- the words are neither `--help` alone nor `--version` alone
abbrev pub AskForRun : List (List ℕ) → Type 0
AskForRun words = (words ≢ codes "--help" ∷ []) × (words ≢ codes "--version" ∷ [])

-- what the words ask for
abbrev pub AsksFor : List (List ℕ) → Result Request Status → Type 0
AsksFor words (Ok requests.Help) = words ≡ codes "--help" ∷ []
AsksFor words (Ok requests.Version) = words ≡ codes "--version" ∷ []
AsksFor words (Ok (requests.Run folder rest)) =
    AskForRun words × (words ≡ folder ∷ map string_bytes rest.items) × IsFolder folder
AsksFor words (Err (status.Usage word)) = NamesNoFolder words word
AsksFor words (Err status.Memory) = Unit {0}
AsksFor words (Err other) = ⊥

-- ---- what is done for it

-- the text was printed, or a front of it where the output failed
abbrev pub PrintsText : List ℕ → SinkView → SinkView → Status → Type 0
PrintsText text old new status.Done = Told old.tells (new.written ≡ old.written ++ text)
PrintsText text old new status.WriteFault =
    Rose old.faults new.faults × Told old.tells (AddsFront old.written new.written text)
PrintsText text old new other = ⊥

-- the counts of faults of the system's own input, disk and clock, which tell nothing else
pub record SystemFaults : Type 0 where
  pub input : ℕ
  pub disk : ℕ → ℕ
  pub clock : ℕ

abbrev pub system : SystemFaults → SinkView → World
system faults out =
    world (record { tells = false; taken = []; left = []; faults = faults.input }) out
    (untold_disk faults.disk)
    (record { tells = false; moments = []; faults = faults.clock })

-- the same as a run begins, with the lock that the disk keeps
pub record System : Type 0 where
  pub lock : LockView
  pub faults : SystemFaults

-- the words are a command, and the lock is for what that does with the files of the folder
abbrev pub IsLockFor : List (List ℕ) → LockView → Type 0
IsLockFor words lock =
    (command : Command) × ReadsWords words (Ok command) × (lock.access ≡ access_of command)

-- a run with these words over the system's own objects, of which the disk is the folder of the lock
abbrev pub RunsOverSystem : LockView → List (List ℕ) → SinkView → SinkView → Status → Type 0
RunsOverSystem lock words old new answer = (before : System) × ((now : SystemFaults)
    × (before.lock ≡ lock) × Ends words (system before.faults old) (system now new) answer)

-- where errors go it is said why not all was done
abbrev pub Says : Status → SinkView → SinkView → Type 0
Says answer err err_now = Told err.tells (Reports answer err err_now)

-- the folder was locked for the command, which ran then
pub record RunsUnder (folder : List ℕ) (words : List (List ℕ)) (out out_now err err_now : SinkView)
    (answer : Status) : Type 0 where
  pub lock : LockView
  pub folder_is : lock.folder ≡ folder
  pub wanted : IsLockFor words lock
  pub ran : RunsOverSystem lock words out out_now answer
  pub says : Says answer err err_now

-- the folder wasn't locked for the command, which is said, and nothing was done
pub record StaysUnlocked (folder : List ℕ) (words : List (List ℕ))
    (out out_now err err_now : SinkView) (answer : Status) : Type 0 where
  pub unlocked : UnlockedView
  pub folder_is : unlocked.wanted.folder ≡ folder
  pub wanted : IsLockFor words unlocked.wanted
  pub failed : answer ≡ status.DiskFault
  pub alone : out_now ≡ out
  pub says : Told err.tells (ReportsUnlocked unlocked.fault err err_now)

-- what is done for a command, which these words are, in this folder
abbrev pub RunsLocked : List ℕ → List (List ℕ) → SinkView → SinkView → SinkView → SinkView → Status
    → Type 0
RunsLocked folder words out out_now err err_now answer =
    RunsUnder folder words out out_now err err_now answer
    ⊎ StaysUnlocked folder words out out_now err err_now answer

-- the words are no command, which is said, and nothing was done
abbrev pub TurnsAway : List (List ℕ) → SinkView → SinkView → SinkView → SinkView → Status → Type 0
TurnsAway words out out_now err err_now answer =
    ReadsWords words (Err answer) × (out_now ≡ out) × Says answer err err_now

-- what is done for the request, and the status that it ends with
abbrev pub Serves : List ℕ → List ℕ → Result Request Status → SinkView → SinkView → SinkView
    → SinkView → Status → Type 0
Serves help version (Ok requests.Help) out out_now err err_now answer =
    PrintsText help out out_now answer × Says answer err err_now
Serves help version (Ok requests.Version) out out_now err err_now answer =
    PrintsText version out out_now answer × Says answer err err_now
Serves help version (Ok (requests.Run folder words)) out out_now err err_now answer =
    TurnsAway (map string_bytes words.items) out out_now err err_now answer
    ⊎ RunsLocked folder (map string_bytes words.items) out out_now err err_now answer
Serves help version (Err fault) out out_now err err_now answer =
    (answer ≡ fault) × (out_now ≡ out) × Says answer err err_now

-- How the program ends with these words: what they ask for is done, a command under the lock that
-- it wants on the folder that they name, and where errors go it is said why not.
pub record Starts (help version : List ℕ) (words : List (List ℕ))
    (out out_now err err_now : SinkView) (answer : Status) : Type 0 where
  pub request : Result Request Status
  pub asked : AsksFor words request
  pub served : Serves help version request out out_now err err_now answer
