-- The words of levels, actions and states.
use Rattle.std.specs.Prelude.{ℕ, ◌+◌, List, [], ◌∷◌, codes, ◌==◌, if◌then◌else◌}
use Rattle.media_db.specs.declared.copies.CopyState.{CopyState}
use Rattle.media_db.specs.declared.copies.CopyState.TheVariants as copies
use Rattle.media_db.specs.declared.records.RecordState.{RecordState}
use Rattle.media_db.specs.declared.records.RecordState.TheVariants as records

-- the word of a level by its rank, one digit for those from 1 to 9
abbrev pub level_word : ℕ → List ℕ
level_word rank =
    if rank == 0 then codes "full" else (if rank == 10 then codes "incr" else (48 + rank) ∷ [])

-- the word of an action by its byte
abbrev pub action_word : ℕ → List ℕ
action_word byte = if byte == 11 then codes "skip" else level_word byte

abbrev pub record_state_word : RecordState → List ℕ
record_state_word records.Begun = codes "begun"
record_state_word records.Complete = codes "complete"
record_state_word records.Aborted = codes "aborted"

abbrev pub copy_state_word : CopyState → List ℕ
copy_state_word copies.Begun = codes "begun"
copy_state_word copies.Done = codes "done"
