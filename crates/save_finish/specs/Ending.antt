-- What is done where a save ends.
use Rattle.std.specs.Prelude.{ℕ, zero, suc, ◌+◌, ◌*◌, ◌/◌, ◌==◌, nat_le, true, List, [], ◌∷◌, ◌++◌}
use Rattle.std.specs.Prelude.{length, take, drop, Some, if◌then◌else◌}
use Rattle.sha2.specs.Sha256.{sha256}
use Rattle.room_base.specs.declared.numbers.Moment.{Moment}
use Rattle.room_base.specs.declared.numbers.Ssid.{Ssid}
use Rattle.save_stream.specs.declared.entry.IndexEntry.{IndexEntry}
use Rattle.cat_journal.specs.Journal.{form_of}
use Rattle.catalog_change.specs.Changes.{max_part}
use Rattle.catalog_change.specs.declared.change.Change.{Change}
use Rattle.catalog_change.specs.declared.change.Change.TheVariants.{Finished, FinishedParts}
use Rattle.catalog_spelling.specs.Snapshots.{snapshot_text}
use Rattle.room_catalog.specs.Held.{catalogue_of}
use Rattle.slot_changer.specs.Drives.{holds_set}
use Rattle.save_session.specs.Sessions.{SessionView}
use Rattle.room_effects.specs.View.{RoomView, held_in}
use Rattle.room_effects.specs.Effects.{Effect, Close, Commit, Enter, EnterPart, TurnOver}

-- ---- the drives

-- a drive whose buffer holds the set is committed, for the set's session
abbrev pub commit_of : ℕ → ℕ → RoomView → List Effect
commit_of drive ssid room =
    if holds_set (held_in room drive) ssid then (Commit drive (Some ssid) ∷ []) else []

-- the same of each drive up to this one, the lowest first
abbrev pub commits_to : ℕ → ℕ → RoomView → List Effect
commits_to zero ssid room = []
commits_to (suc drive) ssid room = commits_to drive ssid room ++ commit_of (suc drive) ssid room

-- ---- the entry

-- the set is complete, with the index of its stream
abbrev pub finished_whole : Ssid → SessionView → Change
finished_whole ssid session =
    Finished ssid (length session.reading.entries) session.reading.read (sha256 session.sent)
    session.sections session.reading.entries

-- ---- an index in parts

-- the same, with the index that the parts before it hold
abbrev pub finished_parts : Ssid → SessionView → Change
finished_parts ssid session =
    FinishedParts ssid (length session.reading.entries) session.reading.read
    (sha256 session.sent) session.sections

-- the entries of a part, counted from 0
abbrev pub part_of : ℕ → List IndexEntry → List IndexEntry
part_of part index = take max_part (drop (max_part * part) index)

-- how many parts so many entries have
abbrev pub part_count : ℕ → ℕ
part_count files = (files + 9999) / max_part

-- so many of the first parts
abbrev pub parts_to : ℕ → Moment → Ssid → List IndexEntry → List Effect
parts_to zero m ssid index = []
parts_to (suc part) m ssid index =
    parts_to part m ssid index ++ EnterPart m ssid part (part_of part index) ∷ []

-- Only a file of form 2 takes parts, and each new file has that form.
abbrev pub second_form : RoomView → List Effect
second_form room =
    if form_of room.journal.current == 1
    then (TurnOver (snapshot_text true (catalogue_of room.catalogue)) ∷ []) else []

-- the parts, and then the entry of the change that closes them
abbrev pub entering_parts : Moment → Ssid → SessionView → RoomView → List Effect
entering_parts m ssid session room =
    let index = session.reading.entries in
    second_form room ++ (parts_to (part_count (length index)) m ssid index
    ++ Enter m (finished_parts ssid session) ∷ [])

-- ---- the end

-- the index stands in the entry, unless it has more entries than a part
abbrev pub entering_end : Moment → Ssid → SessionView → RoomView → List Effect
entering_end m ssid session room =
    if nat_le (length session.reading.entries) max_part
    then (Enter m (finished_whole ssid session) ∷ [])
    else entering_parts m ssid session room

-- the set's drives are committed, the lowest first; the session ends; and then the set's end is
-- entered
abbrev pub ending : Moment → Ssid → SessionView → RoomView → List Effect
ending m ssid session room =
    commits_to 4 ssid.0 room ++ Close ssid.0 ∷ entering_end m ssid session room
