-- The entry of an index in parts.
use Rattle.std.proofs.Common.{◌≡◌, ◌≢◌, ◌⊎◌, ℕ, zero, suc, ◌+◌, ◌-◌, ◌*◌, ◌≤◌, ◌<◌, ◌==◌, ◌^◌, Bool, true, false, List, [], ◌∷◌, ◌++◌, length, take, if◌then◌else◌, refl, sym, ap, ◌∙◌, subst, arith, inl, inr}
use Rattle.std.proofs.lemmas.Bool.Decides.{eqb_tells}
use Rattle.std.specs.Prelude.{Option, Some, None, IsSome, IsSomeAnd, IsTrue, Result, Ok, Err}
use Rattle.room_base.specs.Numbers.{max_moment}
use Rattle.room_base.specs.declared.numbers.Moment.{Moment}
use Rattle.room_base.specs.declared.numbers.Ssid.{Ssid}
use Rattle.room_base.specs.declared.refusal.Refusal.{Refusal}
use Rattle.room_disk.specs.Disk.{DiskView}
use Rattle.save_stream.specs.declared.entry.IndexEntry.{IndexEntry}
use Rattle.cat_journal.specs.declared.current.CurrentFile.{CurrentFile}
use Rattle.cat_journal.specs.Journal.{IsKnown, JournalView, behind_entry, form_of, next_generation}
use Rattle.media_db.specs.Rows.{find_record}
use Rattle.media_db.specs.declared.records.Record.{Record}
use Rattle.catalog_change.specs.Changes.{max_part}
use Rattle.catalog_change.specs.declared.change.Change.TheVariants.{IndexPart}
use Rattle.catalog_spelling.specs.SpelledSnapshots.{IsText}
use Rattle.catalog_spelling.specs.Snapshots.{snapshot_text}
use Rattle.room_catalog.specs.Applying.{with_part}
use Rattle.room_catalog.specs.Fits.{FitsParts, FollowsParts, IsBegun, IsFinishable}
use Rattle.room_catalog.specs.Held.{CatalogueLists, Parts, catalogue_of}
use Rattle.save_session.specs.Sessions.{find_session}
use Rattle.room_effects.specs.View.{RoomView, IsBetweenCommands, IsRoom}
use Rattle.room_effects.specs.Effects.{Enter, EnterPart, TurnOver, after_done, turned}
use Rattle.room_effects.specs.Memory.{HasMemoryFor, HeldRoom}
use Rattle.room_effects.specs.Needs.{CanDo}
use Rattle.room_effects.specs.Running.{Does}
use Rattle.room_effects.proofs.Does.{does_append, does_stop}
use Rattle.room_effects.proofs.Entering.{turned_on, turned_room}
use Rattle.room_state.specs.Memory.{TakesMemory}
use Rattle.room_between.proofs.Quieting.{between_entered, between_part, between_turned}
use Rattle.save_finish.specs.declared.stream.EndedStream.{EndedStream}
use Rattle.save_finish.specs.Ending.{part_count, part_of, parts_to, second_form}
use Rattle.save_finish.specs.Parts.{HasEntered, HasMemoryForIndex, IsEnteredFrom, IsForForm, MayEnterIndex, closing_change, waiting}
use Rattle.save_finish.proofs.IndexParts.{all_parts, before_full, one_more, part_ascends, part_entries, part_most, part_some, part_within, some_parts}

-- ---- the form of the journal's file

-- a file of form 1 doesn't have the last generation
not_last : (current : Option CurrentFile) → IsKnown current → form_of current ≡ 1 → (next_generation current == 2 ^ 64) ≡ false
not_last None known first = absurd (omega (arith, first))
not_last (Some current) known first = elim (eqb_tells (current.generation + 1) (2 ^ 64)) [
  | inl same ↦ elim known.form [
    | inl low ↦ absurd (omega (arith, low.1, same.1))
    | inr second ↦ absurd (omega (arith, second.0, first))
  ]
  | inr apart ↦ apart.0
]

-- a file that isn't of form 1 is of form 2
pub is_second : (current : Option CurrentFile) → IsKnown current → form_of current ≢ 1 → form_of current ≡ 2
is_second None known apart = refl
is_second (Some current) known apart = elim known.form [
  | inl first ↦ absurd (apart first.0)
  | inr second ↦ second.0
]

-- what is at hand for the one room is for the other
pub form_kept : (snapshot : Option (List ℕ)) (one other : RoomView) → other.journal ≡ one.journal → other.catalogue ≡ one.catalogue → IsForForm snapshot one → IsForForm snapshot other
form_kept None one other journal catalogue apart = λ is. apart (sym (ap (λ (it : JournalView). form_of it.current) journal) ∙ is)
form_kept (Some text) one other journal catalogue is =
    let T : CatalogueLists → Type 0 = λ lists. IsText true text (catalogue_of lists) in
    (ap (λ (it : JournalView). form_of it.current) journal ∙ is.0, subst T (sym catalogue) is.1)

second_if : (form : ℕ) (room : RoomView) → (form == 1) ≡ true
    → (if form == 1 then (TurnOver (snapshot_text true (catalogue_of room.catalogue)) ∷ []) else []) ≡ TurnOver (snapshot_text true (catalogue_of room.catalogue)) ∷ []
second_if form room is = ap (λ (test : Bool). if test then (TurnOver (snapshot_text true (catalogue_of room.catalogue)) ∷ []) else []) is

-- the effects where the file takes no parts, and where it does
pub turned_first : (snapshot : List ℕ) (room : RoomView) → IsForForm (Some snapshot) room → TurnOver snapshot ∷ [] ≡ second_form room
turned_first snapshot room is =
    let test : (form_of room.journal.current == 1) ≡ true = ap (λ n. n == 1) is.0 in
    ap (λ (text : List ℕ). TurnOver text ∷ []) is.1.text ∙ sym (second_if (form_of room.journal.current) room test)

pub none_first : (room : RoomView) → IsForForm None room → [] ≡ second_form room
none_first room apart = elim (eqb_tells (form_of room.journal.current) 1) [
  | inl same ↦ absurd (apart same.1)
  | inr differ ↦ sym (ap (λ (test : Bool). if test then (TurnOver (snapshot_text true (catalogue_of room.catalogue)) ∷ []) else []) differ.0)
]

-- ---- the room behind a turn-over

turned_is : (size : ℕ) (room : RoomView) → IsRoom room → form_of room.journal.current ≡ 1 → turned size room ≡ turned_room size room
turned_is size room is first = turned_on size room (not_last room.journal.current is.journal.known first)

pub turned_from : (snapshot : List ℕ) (old new : HeldRoom) → IsRoom old.room → form_of old.room.journal.current ≡ 1
    → new.room ≡ after_done (TurnOver snapshot) old.room → TakesMemory (TurnOver snapshot) old.memory new.memory → IsEnteredFrom old new
turned_from snapshot old new is first made takes =
    let same = made ∙ turned_is (length snapshot) old.room is first in
    let C : RoomView → Type 0 = λ room. room.catalogue ≡ record old.room.catalogue { parts = room.catalogue.parts } in
    let F : RoomView → Type 0 = λ room. IsSome room.journal.current in
    record {
      opens = ap (λ (room : RoomView). room.is_open) same;
      sessions = ap (λ (room : RoomView). room.sessions) same;
      catalogue = subst C (sym same) refl;
      file = subst F (sym same) refl;
      form = ap (λ (room : RoomView). form_of room.journal.current) same;
      entry = takes.entry;
      entries = takes.catalogue.entries;
      indexes = takes.catalogue.indexes;
    }

-- nothing was done, in a file of form 2
pub none_from : (held : HeldRoom) → IsSome held.room.journal.current → form_of held.room.journal.current ≡ 2 → IsEnteredFrom held held
none_from held file form = record {
  opens = refl;
  sessions = refl;
  catalogue = refl;
  file = file;
  form = form;
  entry = omega arith;
  entries = omega arith;
  indexes = omega arith;
}

pub entered_twice : (old mid new : HeldRoom) → IsEnteredFrom old mid → IsEnteredFrom mid new → IsEnteredFrom old new
entered_twice old mid new one two = record {
  opens = two.opens ∙ one.opens;
  sessions = two.sessions ∙ one.sessions;
  catalogue = two.catalogue ∙ ap (λ (lists : CatalogueLists). record lists { parts = new.room.catalogue.parts }) one.catalogue;
  file = two.file;
  form = two.form;
  entry = omega (arith, one.entry, two.entry);
  entries = omega (arith, one.entries, two.entries);
  indexes = omega (arith, one.indexes, two.indexes);
}

pub between_turn : (snapshot : List ℕ) (old new : RoomView) → IsBetweenCommands old → IsRoom new → new ≡ after_done (TurnOver snapshot) old → IsBetweenCommands new
between_turn snapshot old new between is made =
    let B : RoomView → Type 0 = λ room. IsBetweenCommands room in
    let R : RoomView → Type 0 = λ room. IsRoom room in
    subst B (sym made) (between_turned snapshot old between (subst R made is))

-- what may be entered in the one room may be entered in the other
pub may_still : (ssid : Ssid) (stream : EndedStream) (index : List IndexEntry) (old new : HeldRoom) → MayEnterIndex ssid stream index old.room → IsEnteredFrom old new
    → MayEnterIndex ssid stream index new.room
may_still ssid stream index old new may from =
    let Opens : Bool → Type 0 = λ open_one. IsTrue open_one in
    let Rows : List Record → Type 0 = λ rows. IsSomeAnd (find_record ssid.0 rows) (IsFinishable stream.bytes) in
    record {
      opens = subst Opens (sym from.opens) may.opens;
      closed = ap (find_session ssid.0) from.sessions ∙ may.closed;
      below = (let same : new.room.catalogue.number ≡ old.room.catalogue.number = ap (λ (lists : CatalogueLists). lists.number) from.catalogue in omega (arith, same, may.below));
      row = subst Rows (sym (ap (λ (lists : CatalogueLists). lists.records) from.catalogue)) may.row;
      file = from.file;
      entries = may.entries;
      many = may.many;
      files = may.files;
      sections = may.sections;
    }

pub memory_still : (ssid : Ssid) (stream : EndedStream) (index : List IndexEntry) (old new : HeldRoom)
    → HasMemoryForIndex ssid index (closing_change ssid stream) old → IsEnteredFrom old new → HasMemoryForIndex ssid index (closing_change ssid stream) new
memory_still ssid stream index old new memory from = record {
  most = memory.most;
  short = memory.short;
  part = memory.part;
  end = memory.end;
  entry = omega (arith, memory.entry, from.entry);
  entries = omega (arith, memory.entries, from.entries);
  indexes = omega (arith, memory.indexes, from.indexes);
}

-- ---- the parts that wait

begun_of : (found : Option Record) (bytes : ℕ) → IsSomeAnd found (IsFinishable bytes) → IsSomeAnd found IsBegun
begun_of None bytes has = absurd has
begun_of (Some row) bytes has = has.0

form_behind : (current : Option CurrentFile) (size : ℕ) → form_of (behind_entry current size) ≡ form_of current
form_behind None size = refl
form_behind (Some current) size = refl

file_behind : (current : Option CurrentFile) (size : ℕ) → IsSome current → IsSome (behind_entry current size)
file_behind None size some = absurd (cc some)
file_behind (Some current) size some = refl

entries_joined : (part : ℕ) (index before : List IndexEntry) → (part ≡ 0) ⊎ (before ≡ take (max_part * part) index)
    → (if part == 0 then part_of part index else (before ++ part_of part index)) ≡ take (max_part * (part + 1)) index
entries_joined part index before so_far =
    elim (eqb_tells part 0) [
      | inl none ↦ ap (λ (test : Bool). if test then part_of part index else (before ++ part_of part index)) none.0
          ∙ sym (one_more part index ∙ ap (λ n. take (max_part * n) index ++ part_of part index) none.1)
      | inr some ↦ elim so_far [
        | inl none ↦ absurd (some.1 none)
        | inr joined ↦ ap (λ (test : Bool). if test then part_of part index else (before ++ part_of part index)) some.0
            ∙ ap (λ (front : List IndexEntry). front ++ part_of part index) joined
            ∙ sym (one_more part index)
      ]
    ]

-- the parts with one more
waiting_more : (ssid : Ssid) (part : ℕ) (index : List IndexEntry) (parts : Parts) → (part ≡ 0) ⊎ (parts ≡ waiting ssid part index)
    → with_part ssid part (part_of part index) parts ≡ waiting ssid (part + 1) index
waiting_more ssid part index parts so_far =
    ap (λ (entries : List IndexEntry). record { ssid = ssid.0; count = part + 1; entries = entries })
    (entries_joined part index parts.entries (elim so_far [
      | inl none ↦ inl none
      | inr same ↦ inr (ap (λ (one : Parts). one.entries) same)
    ]))

follows_waiting : (ssid : Ssid) (part : ℕ) (index : List IndexEntry) (parts : Parts) → part < part_count (length index)
    → FollowsParts (waiting ssid part index) ssid.0 part (part_of part index) → parts ≡ waiting ssid part index → FollowsParts parts ssid.0 part (part_of part index)
follows_waiting ssid part index parts within follows same =
    let F : Parts → Type 0 = λ one. FollowsParts one ssid.0 part (part_of part index) in subst F (sym same) follows

module _ (m : Moment) (ssid : Ssid) (stream : EndedStream) (index : List IndexEntry) (old now : HeldRoom) (part : ℕ)
    (may : MayEnterIndex ssid stream index old.room) (memory : HasMemoryForIndex ssid index (closing_change ssid stream) old) (entered : HasEntered ssid part index old now) where
  abbrev still : MayEnterIndex ssid stream index now.room
  still = may_still ssid stream index old now may entered.from

  abbrev fits_memory : HasMemoryForIndex ssid index (closing_change ssid stream) now
  fits_memory = memory_still ssid stream index old now memory entered.from

  parts_follow : part < part_count (length index) → FitsParts now.room.catalogue.parts (IndexPart ssid part (part_of part index))
  parts_follow within = elim entered.parts [
    | inl first ↦ inl first
    | inr same ↦ inr (follows_waiting ssid part index now.room.catalogue.parts within (record {
      set = refl;
      next = refl;
      full = before_full part index within;
      ascend = part_ascends part index may.entries;
    }) same)
  ]

  pub can_enter_part : m.0 ≤ max_moment → part < part_count (length index) → CanDo (EnterPart m ssid part (part_of part index)) now.room
  can_enter_part moment within = record {
    opens = still.opens;
    needs = record {
      fitting = record {
        allowed = (part_entries part index may.entries, part_some part index within, part_most part index);
        fits = (still.below, begun_of (find_record ssid.0 now.room.catalogue.records) stream.bytes still.row);
        parts_fit = parts_follow within;
      };
      moment = moment;
      entry = record { file = still.file; short = omega (arith, memory.part m part, memory.short) };
      form = entered.from.form;
    };
  }

  pub memory_for_part : part < part_count (length index) → HasMemoryFor (EnterPart m ssid part (part_of part index)) now
  memory_for_part within = (omega (arith, part_within part index within, fits_memory.entries), omega (arith, memory.part m part, fits_memory.entry))

  -- behind one part more
  pub entered_more : (new : HeldRoom) → new.room ≡ after_done (EnterPart m ssid part (part_of part index)) now.room
      → TakesMemory (EnterPart m ssid part (part_of part index)) now.memory new.memory → HasEntered ssid (part + 1) index old new
  entered_more new made takes =
      let C : RoomView → Type 0 = λ room. room.catalogue ≡ record now.room.catalogue { parts = room.catalogue.parts } in
      let F : RoomView → Type 0 = λ room. IsSome room.journal.current in
      let N : RoomView → Type 0 = λ room. form_of room.journal.current ≡ 2 in
      let one : IsEnteredFrom now new = record {
        opens = ap (λ (room : RoomView). room.is_open) made;
        sessions = ap (λ (room : RoomView). room.sessions) made;
        catalogue = subst C (sym made) refl;
        file = subst F (sym made) (file_behind now.room.journal.current _ entered.from.file);
        form = subst N (sym made) (form_behind now.room.journal.current _ ∙ entered.from.form);
        entry = takes.entry;
        entries = takes.catalogue.entries;
        indexes = omega (arith, takes.catalogue.indexes);
      } in
      record {
        from = entered_twice old now new entered.from one;
        parts = inr (ap (λ (room : RoomView). room.catalogue.parts) made ∙ waiting_more ssid part index now.room.catalogue.parts entered.parts);
      }

  -- ---- the change that closes them

  all_joined : part ≡ part_count (length index) → now.room.catalogue.parts ≡ waiting ssid part index → length now.room.catalogue.parts.entries ≡ stream.files
  all_joined all same =
      ap (λ (parts : Parts). length parts.entries) same
      ∙ ap (λ n. length (take (max_part * n) index)) all
      ∙ ap (λ (entries : List IndexEntry). length entries) (all_parts index)
      ∙ sym may.files

  parts_close : part ≡ part_count (length index) → FitsParts now.room.catalogue.parts (closing_change ssid stream)
  parts_close all = elim entered.parts [
    | inl none ↦ absurd (omega (arith, none, all, some_parts (length index) (omega (arith, may.many))))
    | inr same ↦ record {
      some = (let count = ap (λ (parts : Parts). parts.count) same in omega (arith, count, all, some_parts (length index) (omega (arith, may.many))));
      set = ap (λ (parts : Parts). parts.ssid) same;
      joined = all_joined all same;
    }
  ]

  pub can_close_parts : m.0 ≤ max_moment → part ≡ part_count (length index) → CanDo (Enter m (closing_change ssid stream)) now.room
  can_close_parts moment all = record {
    opens = still.opens;
    needs = record {
      whole = tt;
      fitting = record {
        allowed = (omega (arith, may.many, may.files), may.sections);
        fits = (still.below, still.row);
        parts_fit = parts_close all;
      };
      moment = moment;
      entry = record { file = still.file; short = omega (arith, memory.end m, memory.short) };
    };
  }

  pub memory_to_close : HasMemoryFor (Enter m (closing_change ssid stream)) now
  memory_to_close = (fits_memory.indexes, omega (arith, memory.end m, fits_memory.entry))

-- ---- between commands

pub between_one_part : (m : Moment) (ssid : Ssid) (part : ℕ) (index : List IndexEntry) (old new : RoomView) → IsBetweenCommands old → IsRoom new
    → new ≡ after_done (EnterPart m ssid part index) old → IsBetweenCommands new
between_one_part m ssid part index old new between is made =
    let B : RoomView → Type 0 = λ room. IsBetweenCommands room in
    let R : RoomView → Type 0 = λ room. IsRoom room in
    subst B (sym made) (between_part m ssid part index old between (subst R made is))

pub between_closing : (m : Moment) (ssid : Ssid) (stream : EndedStream) (old new : RoomView) → IsBetweenCommands old → find_session ssid.0 old.sessions ≡ None
    → CanDo (Enter m (closing_change ssid stream)) old → IsRoom new → new ≡ after_done (Enter m (closing_change ssid stream)) old → IsBetweenCommands new
between_closing m ssid stream old new between none can is made =
    let B : RoomView → Type 0 = λ room. IsBetweenCommands room in
    let R : RoomView → Type 0 = λ room. IsRoom room in
    subst B (sym made) (between_entered m (closing_change ssid stream) old between can.needs none (subst R made is))

-- ---- the run of parts

module _ (m : Moment) (ssid : Ssid) (index : List IndexEntry) (part : ℕ) (old mid new : RoomView) (before disk next : DiskView)
    (so_far : Does {T = Unit {0}} (parts_to part m ssid index) (Ok tt) old mid before disk) where
  does_upto : (answer : Result (Unit {0}) Refusal) → Does {T = Unit {0}} (EnterPart m ssid part (part_of part index) ∷ []) answer mid new disk next
      → Does {T = Unit {0}} (parts_to (suc part) m ssid index) answer old new before next
  does_upto answer one =
      does_append {T = Unit {0}} {U = Unit {0}} (parts_to part m ssid index) (EnterPart m ssid part (part_of part index) ∷ []) tt answer old mid new before disk next so_far one

  pub parts_more : Does {T = Unit {0}} (EnterPart m ssid part (part_of part index) ∷ []) (Ok tt) mid new disk next
      → Does {T = Unit {0}} (parts_to (part + 1) m ssid index) (Ok tt) old new before next
  parts_more one =
      let P : ℕ → Type 0 = λ n. Does {T = Unit {0}} (parts_to n m ssid index) (Ok tt) old new before next in
      subst P (let e : suc part ≡ part + 1 = omega arith in e) (does_upto (Ok tt) one)

  behind_fault : (fault : Refusal) (more : ℕ) → Does {T = Unit {0}} (parts_to (suc part) m ssid index) (Err fault) old new before next
      → Does {T = Unit {0}} (parts_to (suc part + more) m ssid index) (Err fault) old new before next
  behind_fault fault zero first =
      let P : ℕ → Type 0 = λ n. Does {T = Unit {0}} (parts_to n m ssid index) (Err fault) old new before next in
      subst P (let e : suc part ≡ suc part + 0 = omega arith in e) first
  behind_fault fault (suc more) first =
      let P : ℕ → Type 0 = λ n. Does {T = Unit {0}} (parts_to n m ssid index) (Err fault) old new before next in
      subst P (let e : suc (suc part + more) ≡ suc part + suc more = omega arith in e)
      (does_stop {T = Unit {0}} {U = Unit {0}} (parts_to (suc part + more) m ssid index)
      (EnterPart m ssid (suc part + more) (part_of (suc part + more) index) ∷ []) fault old new before next (behind_fault fault more first))

  -- the parts behind one that failed aren't begun
  pub parts_stop : (fault : Refusal) (count : ℕ) → part < count → Does {T = Unit {0}} (EnterPart m ssid part (part_of part index) ∷ []) (Err fault) mid new disk next
      → Does {T = Unit {0}} (parts_to count m ssid index) (Err fault) old new before next
  parts_stop fault count within one =
      let P : ℕ → Type 0 = λ n. Does {T = Unit {0}} (parts_to n m ssid index) (Err fault) old new before next in
      subst P (let e : suc part + (count - suc part) ≡ count = omega (arith, within) in e) (behind_fault fault (count - suc part) (does_upto (Err fault) one))
