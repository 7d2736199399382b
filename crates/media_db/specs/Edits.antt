-- What edits make of records.
use Rattle.std.specs.Prelude.{ℕ, ◌+◌, List, [], ◌∷◌, ◌++◌, ◌==◌, Bool, true, false, not, ◌&&◌, ◌||◌}
use Rattle.std.specs.List.{list_any, retain_mut, filter}
use Rattle.std.specs.Ordering.{nat_cmp}
use Rattle.room_base.specs.Ordered.{remove_by, update_by}
use Rattle.room_base.specs.declared.numbers.CopyNo.{CopyNo}
use Rattle.room_base.specs.declared.numbers.Moment.{Moment}
use Rattle.media_db.specs.declared.copies.CopyState.{CopyState}
use Rattle.media_db.specs.declared.copies.CopyState.TheVariants as copies
use Rattle.media_db.specs.declared.copies.Section.{Section}
use Rattle.media_db.specs.declared.copies.SetCopy.{SetCopy}
use Rattle.media_db.specs.declared.records.Record.{Record}
use Rattle.media_db.specs.declared.records.RecordState.{RecordState}
use Rattle.media_db.specs.declared.records.RecordState.TheVariants as states

-- ---- copies

abbrev pub copy_no : SetCopy → ℕ
copy_no copy = copy.no.0

-- the copy of the number is done, and has these sections
abbrev pub with_copy_done : ℕ → List Section → List SetCopy → List SetCopy
with_copy_done number sections =
    update_by nat_cmp copy_no number
    (λ copy. record copy { state = copies.Done; sections = sections })

-- the copies without that of the number
abbrev pub without_copy : ℕ → List SetCopy → List SetCopy
without_copy = remove_by nat_cmp copy_no

-- a copy that is begun, without sections
abbrev pub begun_copy : CopyNo → SetCopy
begun_copy number = record { no = number; state = copies.Begun; sections = [] }

-- ---- edits of one record

-- its save was given up
abbrev pub aborted : Record → Record
aborted row = record row { state = states.Aborted }

-- it is complete, with these counts and this digest, and copy 1 has its sections
abbrev pub finished : ℕ → ℕ → List ℕ → List Section → Record → Record
finished files bytes digest sections row = record row {
  state = states.Complete;
  files = files;
  bytes = bytes;
  digest = digest;
  copies = with_copy_done 1 sections row.copies;
}

-- it has these times and this hold, by the journal's entry of this number
abbrev pub amended : Moment → Moment → Bool → ℕ → Record → Record
amended browse retain hold changed row =
    record row { browse = browse; retain = retain; hold = hold; changed = changed }

-- its index was given up, by the journal's entry of this number
abbrev pub purged_by : ℕ → Record → Record
purged_by changed row = record row { purged = true; changed = changed }

-- a copy more is begun
abbrev pub with_begun_copy : CopyNo → Record → Record
with_begun_copy number row =
    record row { copies = row.copies ++ begun_copy number ∷ []; next_copy = number.0 + 1 }

abbrev pub with_done_copy : CopyNo → List Section → Record → Record
with_done_copy number sections row =
    record row { copies = with_copy_done number.0 sections row.copies }

abbrev pub with_copy_removed : CopyNo → Record → Record
with_copy_removed number row = record row { copies = without_copy number.0 row.copies }

-- ---- the copies on a volume

abbrev pub is_done : CopyState → Bool
is_done copies.Begun = false
is_done copies.Done = true

abbrev pub is_complete : RecordState → Bool
is_complete states.Begun = false
is_complete states.Complete = true
is_complete states.Aborted = false

-- a done copy with a section on the volume
abbrev pub is_done_on : ℕ → SetCopy → Bool
is_done_on volid copy =
    is_done copy.state && list_any (λ section. section.volid.0 == volid) copy.sections

-- the copies without those
abbrev pub copies_off : ℕ → List SetCopy → List SetCopy
copies_off volid = filter (λ copy. not (is_done_on volid copy))

abbrev pub without_copies_on : ℕ → Record → Record
without_copies_on volid row = record row { copies = copies_off volid row.copies }

abbrev pub has_done : List SetCopy → Bool
has_done = list_any (λ copy. is_done copy.state)

-- a complete record has a done copy
abbrev pub has_copy_if_complete : Record → Bool
has_copy_if_complete row = not (is_complete row.state) || has_done row.copies

-- Each done copy with a section on the volume goes, and then each complete record without
-- a done copy.
abbrev pub drop_copies_on : ℕ → List Record → List Record
drop_copies_on volid =
    retain_mut (λ row. has_copy_if_complete (without_copies_on volid row)) (without_copies_on volid)
