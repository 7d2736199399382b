-- Entries of the journal, and its turn-over, as effects.
use Rattle.std.proofs.Common.{◌≡◌, ℕ, suc, zero, ◌-◌, ◌^◌, ◌≤◌, ◌==◌, ◌&&◌, Bool, true, false, if◌then◌else◌, List, [], ◌∷◌, length, replicate, refl, sym, ap, ◌∙◌, subst, inl, inr}
use Rattle.std.proofs.lemmas.Bool.{cond-false, cond-true}
use Rattle.std.proofs.lemmas.Bool.Decides.{eqb_tells}
use Rattle.std.specs.Prelude.{Option, Some, None, IsTrue, Result, Ok, Err, slice_index, slice_index_or}
use Rattle.room_base.specs.declared.numbers.Moment.{Moment}
use Rattle.room_base.specs.declared.numbers.Ssid.{Ssid}
use Rattle.room_base.specs.declared.refusal.Refusal.TheVariants.{JournalFault}
use Rattle.room_disk.specs.Crash.{IsAnew, AnewTorn}
use Rattle.room_disk.specs.Disk.{DiskView, IsDisk, Others, Settled}
use Rattle.room_disk.specs.Writing.{WritesFile}
use Rattle.save_stream.specs.declared.entry.IndexEntry.{IndexEntry}
use Rattle.cat_journal.specs.Contents.{IsFront}
use Rattle.cat_journal.specs.Journal.{JournalView, AddsEntry, IsLast, IsPart, MayAddEntry, file_of, form_of, new_text, next_file, next_generation, next_head, turned_over}
use Rattle.catalog_change.specs.declared.change.Change.{Change}
use Rattle.catalog_change.specs.declared.change.Change.TheVariants.{Defined, Dropped, Loaded, Ejected, Labelled, Begun, Finished, Aborted, Amended, Deleted, Purged, CopyBegun, CopyDone, IndexPart, FinishedParts}
use Rattle.catalog_spelling.specs.Fields.{number_bytes}
use Rattle.catalog_spelling.specs.Decoding.{IsStamped}
use Rattle.catalog_spelling.specs.Changes.{change_byte, change_text}
use Rattle.room_catalog.specs.Held.{no_parts}
use Rattle.slot_changer.specs.Drives.{DriveView, in_drive, no_volumes}
use Rattle.room_effects.specs.View.{RoomView, IsRoom}
use Rattle.room_effects.specs.Effects.{Done, Enter, EnterPart, TurnOver, after_done, closed, entry_bytes, is_at_last, part_bytes, turned}
use Rattle.room_effects.specs.Faults.{fault_of}
use Rattle.room_effects.specs.Files.{MayTurnOver, Torn, TurnsOver, Whole, file_or_none, target}
use Rattle.room_effects.specs.Needs.{CanDo, IsWholeChange}
use Rattle.room_effects.specs.Running.{Does, Known, Ready}
use Rattle.room_effects.proofs.Does.{KeepsReady, does_broken, does_done}
use Rattle.room_effects.proofs.Journals.{current_is, journal_entered, journal_turned, journal_with_part, next_is, settled_one}
use Rattle.room_effects.proofs.Memory.{does_in_memory}
use Rattle.room_effects.proofs.Readiness.{ready_journal}

-- ---- which entries are parts

-- byte 8 of what is written of a change tells its kind
pub kind_is : (moment : ℕ) (change : Change) → slice_index (change_text moment change) 8 ≡ change_byte change
unfolding number_bytes
kind_is moment change = refl

kind_of_whole : (change : Change) → IsWholeChange change → (change_byte change == 14) ≡ false
kind_of_whole (Defined resources) whole = refl
kind_of_whole (Dropped kind name) whole = refl
kind_of_whole (Loaded slot cart) whole = refl
kind_of_whole (Ejected slot) whole = refl
kind_of_whole (Labelled volid cart pool capacity was) whole = refl
kind_of_whole (Begun head) whole = refl
kind_of_whole (Finished ssid files bytes digest sections index) whole = refl
kind_of_whole (Aborted ssid) whole = refl
kind_of_whole (Amended ssid browse retain hold) whole = refl
kind_of_whole (Deleted ssid) whole = refl
kind_of_whole (Purged ssids) whole = refl
kind_of_whole (CopyBegun ssid copy) whole = refl
kind_of_whole (CopyDone ssid copy sections removed) whole = refl
kind_of_whole (IndexPart ssid part index) whole = absurd whole
kind_of_whole (FinishedParts ssid files bytes digest sections) whole = refl

not_both : (one other : Bool) → other ≡ false → ¬ IsTrue (one && other)
not_both true other none is = absurd (let e : ◌≡◌ {A = Bool} false true = sym none ∙ is in cc)
not_both false other none is = absurd (let e : ◌≡◌ {A = Bool} false true = is in cc)

both : (one other : Bool) → one ≡ true → other ≡ true → IsTrue (one && other)
both true other one_so other_so = other_so
both false other one_so other_so = absurd (let e : ◌≡◌ {A = Bool} false true = one_so in cc)

-- the entry of a change is that of no part, whatever the form of the file is
pub entry_is_whole : (journal : JournalView) (m : Moment) (change : Change) → IsWholeChange change → ¬ IsPart journal (entry_bytes m change)
entry_is_whole journal m change whole =
    not_both (form_of journal.current == 2) (slice_index (entry_bytes m change) 8 == 14)
    (ap (λ n. n == 14) (kind_is m.0 change) ∙ kind_of_whole change whole)

-- that of a part is one in a file of form 2
pub entry_is_part : (journal : JournalView) (m : Moment) (ssid : Ssid) (part : ℕ) (index : List IndexEntry) → form_of journal.current ≡ 2
    → IsPart journal (part_bytes m ssid part index)
entry_is_part journal m ssid part index form =
    both (form_of journal.current == 2) (slice_index (part_bytes m ssid part index) 8 == 14)
    (ap (λ n. n == 2) form) (ap (λ n. n == 14) (kind_is m.0 (IndexPart ssid part index)))

-- ---- the closed room

none_at : (count place : ℕ) → ◌≡◌ {A = Option DriveView} (slice_index_or (replicate count None) place None) None
none_at zero place = refl
none_at (suc count) zero = refl
none_at (suc count) (suc place) = none_at count place

-- no drive of it has a volume
pub none_held : (drive : ℕ) (one : DriveView) → in_drive no_volumes drive ≡ Some one → ⊥
none_held drive one held = let no : ◌≡◌ {A = Option DriveView} None (Some one) = sym (none_at 4 (drive - 1)) ∙ held in cc

-- ---- entries

-- the journal with memory for entries writes what the journal of the room does
entry_as : {T E : Type 0} (answer : Result T E) (room : RoomView) (journal : JournalView) (bytes entry : List ℕ) (before now : DiskView)
    → room.journal ≡ record journal { spare = 0 } → bytes ≡ entry
    → WritesFile (file_of journal.current) (AddsEntry journal bytes) (MayAddEntry journal bytes) before now answer
    → WritesFile (file_of room.journal.current) (AddsEntry room.journal entry) (MayAddEntry room.journal entry) before now answer
entry_as answer room journal bytes entry before now same is wrote =
    let P : List ℕ → Type 0 = λ text. WritesFile (file_of journal.current) (AddsEntry journal text) (MayAddEntry journal text) before now answer in
    let Q : JournalView → Type 0 = λ one. WritesFile (file_of one.current) (AddsEntry one entry) (MayAddEntry one entry) before now answer in
    subst Q (sym same) (subst P is wrote)

keeps_entered : {T E : Type 0} (m : Moment) (change : Change) (value : T) (room : RoomView) (before now : DiskView) → IsRoom room → CanDo (Enter m change) room
    → WritesFile {T = T} {E = E} (target (Enter m change) room) (Whole (Enter m change) room) (Torn (Enter m change) room) before now (Ok value)
    → IsTrue before.tells → KeepsReady (Done (Enter m change)) (Enter m change) room before now
keeps_entered {T} {E} m change value room before now is can wrote told known founded ready =
    let low = current_is room.journal.current is.journal.known in
    let journal = ready.journal can.opens in (
      settled_one room.journal (file_of room.journal.current) before low journal,
      ready_journal known room (after_done (Enter m change) room) (file_of room.journal.current) before now low is.drives (λ drive one is_drive held. held)
          (wrote.others told)
          (λ opens. journal_entered {T = T} {E = E} room.journal (entry_bytes m change) value before now told can.needs.entry.file
          (entry_is_whole room.journal m change can.needs.whole) journal wrote)
          ready,
    )

-- a change was entered
pub does_enter : {T U E : Type 0} (m : Moment) (change : Change) (journal : JournalView) (bytes : List ℕ) (value : T) (lower : U) (room new : RoomView) (before now : DiskView)
    → IsRoom room → CanDo (Enter m change) room → room.journal ≡ record journal { spare = 0 } → bytes ≡ entry_bytes m change → IsStamped m.0 change
    → new ≡ after_done (Enter m change) room → IsDisk before
    → WritesFile {T = U} {E = E} (file_of journal.current) (AddsEntry journal bytes) (MayAddEntry journal bytes) before now (Ok lower)
    → Does {T = T} (Enter m change ∷ []) (Ok value) room new before now
does_enter {T} {U} {E} m change journal bytes value lower room new before now is can same text written made is_before wrote =
    let wrote_so = entry_as {T = U} {E = E} (Ok lower) room journal bytes (entry_bytes m change) before now same text wrote in
    does_done {T = T} {U = U} {E = E} (Enter m change) value lower room new before now can written made is_before wrote_so
    (keeps_entered {T = U} {E = E} m change lower room before now is can wrote_so)

keeps_part : {T E : Type 0} (m : Moment) (ssid : Ssid) (part : ℕ) (index : List IndexEntry) (value : T) (room : RoomView) (before now : DiskView) → IsRoom room
    → CanDo (EnterPart m ssid part index) room
    → WritesFile {T = T} {E = E} (target (EnterPart m ssid part index) room) (Whole (EnterPart m ssid part index) room) (Torn (EnterPart m ssid part index) room) before now (Ok value)
    → IsTrue before.tells → KeepsReady (Done (EnterPart m ssid part index)) (EnterPart m ssid part index) room before now
keeps_part {T} {E} m ssid part index value room before now is can wrote told known founded ready =
    let low = current_is room.journal.current is.journal.known in
    let journal = ready.journal can.opens in (
      settled_one room.journal (file_of room.journal.current) before low journal,
      ready_journal known room (after_done (EnterPart m ssid part index) room) (file_of room.journal.current) before now low is.drives (λ drive one is_drive held. held)
          (wrote.others told)
          (λ opens. journal_with_part {T = T} {E = E} room.journal (part_bytes m ssid part index) value before now told can.needs.entry.file
          (entry_is_part room.journal m ssid part index can.needs.form) journal wrote)
          ready,
    )

-- a part was entered
pub does_enter_part : {T U E : Type 0} (m : Moment) (ssid : Ssid) (part : ℕ) (index : List IndexEntry) (journal : JournalView) (bytes : List ℕ) (value : T) (lower : U) (room new : RoomView) (before now : DiskView)
    → IsRoom room → CanDo (EnterPart m ssid part index) room → room.journal ≡ record journal { spare = 0 } → bytes ≡ part_bytes m ssid part index → IsStamped m.0 (IndexPart ssid part index)
    → new ≡ after_done (EnterPart m ssid part index) room → IsDisk before
    → WritesFile {T = U} {E = E} (file_of journal.current) (AddsEntry journal bytes) (MayAddEntry journal bytes) before now (Ok lower)
    → Does {T = T} (EnterPart m ssid part index ∷ []) (Ok value) room new before now
does_enter_part {T} {U} {E} m ssid part index journal bytes value lower room new before now is can same text written made is_before wrote =
    let wrote_so = entry_as {T = U} {E = E} (Ok lower) room journal bytes (part_bytes m ssid part index) before now same text wrote in
    does_done {T = T} {U = U} {E = E} (EnterPart m ssid part index) value lower room new before now can written made is_before wrote_so
    (keeps_part {T = U} {E = E} m ssid part index lower room before now is can wrote_so)

-- ---- entries that failed

-- the closed room is ready, whatever became of the journal
closed_is_ready : (known : Known) (room : RoomView) (file : ℕ) (before now : DiskView) → file ≤ 1 → IsRoom room
    → Others file before now → Ready known room before → Ready known (closed room) now
closed_is_ready known room file before now low is others ready =
    ready_journal known room (closed room) file before now low is.drives (λ drive one is_drive held. absurd (none_held drive one held)) others
    (λ opens. absurd (let no : ◌≡◌ {A = Bool} false true = opens in cc)) ready

pub does_enter_broken : {T U E : Type 0} (m : Moment) (change : Change) (journal : JournalView) (bytes : List ℕ) (error : E) (room new : RoomView) (before now : DiskView)
    → IsRoom room → CanDo (Enter m change) room → room.journal ≡ record journal { spare = 0 } → bytes ≡ entry_bytes m change → IsStamped m.0 change
    → new ≡ closed room → IsDisk now
    → WritesFile {T = U} {E = E} (file_of journal.current) (AddsEntry journal bytes) (MayAddEntry journal bytes) before now (Err error)
    → Does {T = T} (Enter m change ∷ []) (Err JournalFault) room new before now
does_enter_broken {T} {U} {E} m change journal bytes error room new before now is can same text written made is_now wrote =
    let file = file_of room.journal.current in
    let low = current_is room.journal.current is.journal.known in
    let wrote_so = entry_as {T = U} {E = E} (Err error) room journal bytes (entry_bytes m change) before now same text wrote in
    does_broken {T = T} {U = U} {E = E} (Enter m change) JournalFault error room new before now can written made refl is_now wrote_so
    (λ told known founded ready. (settled_one room.journal file before low (ready.journal can.opens), closed_is_ready known room file before now low is (wrote_so.others told) ready))

pub does_enter_part_broken : {T U E : Type 0} (m : Moment) (ssid : Ssid) (part : ℕ) (index : List IndexEntry) (journal : JournalView) (bytes : List ℕ) (error : E) (room new : RoomView) (before now : DiskView)
    → IsRoom room → CanDo (EnterPart m ssid part index) room → room.journal ≡ record journal { spare = 0 } → bytes ≡ part_bytes m ssid part index → IsStamped m.0 (IndexPart ssid part index)
    → new ≡ closed room → IsDisk now
    → WritesFile {T = U} {E = E} (file_of journal.current) (AddsEntry journal bytes) (MayAddEntry journal bytes) before now (Err error)
    → Does {T = T} (EnterPart m ssid part index ∷ []) (Err JournalFault) room new before now
does_enter_part_broken {T} {U} {E} m ssid part index journal bytes error room new before now is can same text written made is_now wrote =
    let file = file_of room.journal.current in
    let low = current_is room.journal.current is.journal.known in
    let wrote_so = entry_as {T = U} {E = E} (Err error) room journal bytes (part_bytes m ssid part index) before now same text wrote in
    does_broken {T = T} {U = U} {E = E} (EnterPart m ssid part index) JournalFault error room new before now can written made refl is_now wrote_so
    (λ told known founded ready. (settled_one room.journal file before low (ready.journal can.opens), closed_is_ready known room file before now low is (wrote_so.others told) ready))

-- ---- a turn-over

-- the room in the journal's other file
abbrev pub turned_room : ℕ → RoomView → RoomView
turned_room size room = record room {
  catalogue = record room.catalogue { parts = no_parts };
  journal = turned_over room.journal size;
}

pub turned_last : (size : ℕ) (room : RoomView) → is_at_last room.journal ≡ true → turned size room ≡ room
turned_last size room last = cond-true (is_at_last room.journal) room (turned_room size room) last

pub turned_on : (size : ℕ) (room : RoomView) → is_at_last room.journal ≡ false → turned size room ≡ turned_room size room
turned_on size room next = cond-false (is_at_last room.journal) room (turned_room size room) next

-- the test of the last generation
pub last_is : (journal : JournalView) → is_at_last journal ≡ true → IsLast journal
last_is journal is = elim (eqb_tells (next_generation journal.current) (2 ^ 64)) [
  | inl same ↦ same.1
  | inr apart ↦ absurd (let no : ◌≡◌ {A = Bool} false true = sym apart.0 ∙ is in cc)
]

pub last_is_not : (journal : JournalView) → is_at_last journal ≡ false → ¬ IsLast journal
last_is_not journal is last = elim (eqb_tells (next_generation journal.current) (2 ^ 64)) [
  | inl same ↦ absurd (let no : ◌≡◌ {A = Bool} true false = sym same.0 ∙ is in cc)
  | inr apart ↦ absurd (apart.1 last)
]

-- behind the last generation nothing is written
pub does_turn_over_last : {T : Type 0} (snapshot : List ℕ) (value : T) (room : RoomView) (disk : DiskView) → CanDo (TurnOver snapshot) room
    → is_at_last room.journal ≡ true → Does {T = T} (TurnOver snapshot ∷ []) (Ok value) room room disk disk
does_turn_over_last {T} snapshot value room disk can last =
    let size = length snapshot in
    let Same : Bool → Type 0 = λ b. (bytes : List ℕ) → TurnsOver b room.journal snapshot bytes bytes in
    does_in_memory {T = T} (TurnOver snapshot) value room room disk can tt (sym (turned_last size room last)) (subst Same (sym last) (λ bytes. refl))
    (λ told known founded ready. let P : RoomView → Type 0 = λ one. Ready known one disk in subst P (sym (turned_last size room last)) ready)

turns_as : {T E : Type 0} (answer : Result T E) (room : RoomView) (journal : JournalView) (snapshot : List ℕ) (before now : DiskView)
    → room.journal ≡ record journal { spare = 0 } → is_at_last room.journal ≡ false
    → WritesFile (next_file journal.current) (IsAnew 0x4A (new_text (next_head journal) snapshot)) (AnewTorn 0x4A (new_text (next_head journal) snapshot)) before now answer
    → WritesFile (target (TurnOver snapshot) room) (Whole (TurnOver snapshot) room) (Torn (TurnOver snapshot) room) before now answer
turns_as answer room journal snapshot before now same next wrote =
    let P : JournalView → Type 0 = λ one. WritesFile (next_file one.current) (IsAnew 0x4A (new_text (next_head one) snapshot)) (AnewTorn 0x4A (new_text (next_head one) snapshot)) before now answer in
    let Q : Bool → Type 0 = λ b. WritesFile (file_or_none (if b then None else Some (next_file room.journal.current))) (TurnsOver b room.journal snapshot)
    (MayTurnOver b room.journal snapshot) before now answer in
    subst Q (sym next) (subst P (sym same) wrote)

-- the file that a turn-over writes
turned_file : (snapshot : List ℕ) (room : RoomView) → is_at_last room.journal ≡ false → target (TurnOver snapshot) room ≡ next_file room.journal.current
turned_file snapshot room next = ap (λ (b : Bool). file_or_none (if b then None else Some (next_file room.journal.current))) next

front_as : (room : RoomView) (journal : JournalView) (snapshot : List ℕ) → room.journal ≡ record journal { spare = 0 } → IsFront (next_head journal) snapshot
    → IsFront (next_head room.journal) snapshot
front_as room journal snapshot same allowed = let P : JournalView → Type 0 = λ one. IsFront (next_head one) snapshot in subst P (sym same) allowed

keeps_turned : {T E : Type 0} (snapshot : List ℕ) (value : T) (room : RoomView) (before now : DiskView) → IsRoom room → CanDo (TurnOver snapshot) room
    → is_at_last room.journal ≡ false → IsFront (next_head room.journal) snapshot
    → WritesFile {T = T} {E = E} (next_file room.journal.current) (IsAnew 0x4A (new_text (next_head room.journal) snapshot))
    (AnewTorn 0x4A (new_text (next_head room.journal) snapshot)) before now (Ok value)
    → IsTrue before.tells → KeepsReady (Done (TurnOver snapshot)) (TurnOver snapshot) room before now
keeps_turned {T} {E} snapshot value room before now is can next allowed wrote told known founded ready =
    let file = next_file room.journal.current in
    let low = next_is room.journal.current in
    let journal = ready.journal can.opens in
    let S : ℕ → Type 0 = λ n. Settled before n in
    let P : RoomView → Type 0 = λ one. Ready known one now in (
      subst S (sym (turned_file snapshot room next)) (settled_one room.journal file before low journal),
      subst P (sym (turned_on (length snapshot) room next))
          (ready_journal known room (turned_room (length snapshot) room) file before now low is.drives (λ drive one is_drive held. held) (wrote.others told)
          (λ opens. journal_turned {T = T} {E = E} room.journal snapshot value before now told allowed journal wrote) ready),
    )

pub does_turn_over : {T U E : Type 0} (snapshot : List ℕ) (journal : JournalView) (value : T) (lower : U) (room new : RoomView) (before now : DiskView)
    → IsRoom room → CanDo (TurnOver snapshot) room → room.journal ≡ record journal { spare = 0 } → is_at_last room.journal ≡ false
    → IsFront (next_head journal) snapshot → new ≡ turned_room (length snapshot) room → IsDisk before
    → WritesFile {T = U} {E = E} (next_file journal.current) (IsAnew 0x4A (new_text (next_head journal) snapshot)) (AnewTorn 0x4A (new_text (next_head journal) snapshot)) before now (Ok lower)
    → Does {T = T} (TurnOver snapshot ∷ []) (Ok value) room new before now
does_turn_over {T} {U} {E} snapshot journal value lower room new before now is can same next allowed made is_before wrote =
    let P : JournalView → Type 0 = λ one. WritesFile {T = U} {E = E} (next_file one.current) (IsAnew 0x4A (new_text (next_head one) snapshot)) (AnewTorn 0x4A (new_text (next_head one) snapshot)) before now (Ok lower) in
    does_done {T = T} {U = U} {E = E} (TurnOver snapshot) value lower room new before now can tt (made ∙ sym (turned_on (length snapshot) room next)) is_before
    (turns_as {T = U} {E = E} (Ok lower) room journal snapshot before now same next wrote)
    (keeps_turned {T = U} {E = E} snapshot lower room before now is can next (front_as room journal snapshot same allowed) (subst P (sym same) wrote))

turn_fault : (snapshot : List ℕ) (room : RoomView) → is_at_last room.journal ≡ false → fault_of (TurnOver snapshot) room ≡ Some JournalFault
turn_fault snapshot room next = cond-false (is_at_last room.journal) None (Some JournalFault) next

pub does_turn_over_broken : {T U E : Type 0} (snapshot : List ℕ) (journal : JournalView) (error : E) (room new : RoomView) (before now : DiskView)
    → IsRoom room → CanDo (TurnOver snapshot) room → room.journal ≡ record journal { spare = 0 } → is_at_last room.journal ≡ false
    → new ≡ closed room → IsDisk now
    → WritesFile {T = U} {E = E} (next_file journal.current) (IsAnew 0x4A (new_text (next_head journal) snapshot)) (AnewTorn 0x4A (new_text (next_head journal) snapshot)) before now (Err error)
    → Does {T = T} (TurnOver snapshot ∷ []) (Err JournalFault) room new before now
does_turn_over_broken {T} {U} {E} snapshot journal error room new before now is can same next made is_now wrote =
    let file = next_file room.journal.current in
    let low = next_is room.journal.current in
    let S : ℕ → Type 0 = λ n. Settled before n in
    let O : ℕ → Type 0 = λ n. Others n before now in
    let P : JournalView → Type 0 = λ one. WritesFile {T = U} {E = E} (next_file one.current) (IsAnew 0x4A (new_text (next_head one) snapshot)) (AnewTorn 0x4A (new_text (next_head one) snapshot)) before now (Err error) in
    let wrote_so = subst P (sym same) wrote in
    does_broken {T = T} {U = U} {E = E} (TurnOver snapshot) JournalFault error room new before now can tt made (turn_fault snapshot room next) is_now
    (turns_as {T = U} {E = E} (Err error) room journal snapshot before now same next wrote)
    (λ told known founded ready. (
      subst S (sym (turned_file snapshot room next)) (settled_one room.journal file before low (ready.journal can.opens)),
      closed_is_ready known room file before now low is (wrote_so.others told) ready,
    ))
