-- A room stays one whatever is done in it: the entries of the journal, and what an effect that
-- failed leaves.
use Rattle.std.proofs.Common.{◌≡◌, ℕ, ◌+◌, ◌^◌, ◌<◌, ◌==◌, Bool, true, false, List, [], ◌∷◌, ◌++◌, length, refl, sym, ap, ◌∙◌, subst, arith, inr}
use Rattle.std.proofs.lemmas.Bool.{cond_both}
use Rattle.std.specs.List.{AllByRecursion}
use Rattle.std.specs.Prelude.{Option, Some, None, IsSome, IsTrue}
use Rattle.room_base.specs.declared.numbers.Moment.{Moment}
use Rattle.room_base.specs.declared.numbers.Ssid.{Ssid}
use Rattle.save_stream.specs.declared.entry.IndexEntry.{IndexEntry}
use Rattle.volume_block.specs.declared.label.Label.{Label}
use Rattle.cat_journal.specs.Journal.{JournalView, IsKnown, behind_entry, form_of, turned_over}
use Rattle.cat_journal.specs.declared.current.CurrentFile.{CurrentFile}
use Rattle.catalog_change.specs.Changes.{IsEntry}
use Rattle.catalog_change.specs.declared.change.Change.{Change}
use Rattle.catalog_change.specs.declared.change.Change.TheVariants.{Defined, Dropped, Loaded, Ejected, Labelled, Begun, Finished, Aborted, Amended, Deleted, Purged, CopyBegun, CopyDone, IndexPart, FinishedParts}
use Rattle.room_catalog.specs.Changing.{changed, catalogue_after, with_index, with_part_waiting}
use Rattle.room_catalog.specs.Held.{CatalogueLists, no_parts}
use Rattle.room_catalog.specs.Invariant.{IsHeld}
use Rattle.room_effects.specs.View.{RoomView, IsEmptied, IsJournalOf, IsRoom}
use Rattle.room_effects.specs.Effects.{Effect, Enter, EnterPart, TurnOver, Commit, Look, WriteLabel}
use Rattle.room_effects.specs.Effects.{Push, PutIn, TakeOut, Open, Take, Close, Seen, after_broken}
use Rattle.room_effects.specs.Effects.{after_done, behind_change, behind_part, entry_bytes}
use Rattle.room_effects.specs.Effects.{is_at_last, part_bytes, turned}
use Rattle.room_effects.specs.Needs.{CanDo}
use Rattle.room_effects.proofs.Entering.{last_is_not, turned_last, turned_on}
use Rattle.room_effects.proofs.Journals.{next_in_range, next_is, range_of}
use Rattle.room_effects.proofs.Staying.{not_closed, stays_closed, stays_commit_broken}

-- a room that is open stays one with another catalogue and journal that fit each other
stays_so : (room : RoomView) (catalogue : CatalogueLists) (journal : JournalView) → IsRoom room → IsTrue room.is_open → IsHeld catalogue
    → IsJournalOf catalogue journal → IsRoom (record room { catalogue = catalogue; journal = journal })
stays_so room catalogue journal is opens held fits = record {
  catalogue = held;
  sessions = is.sessions;
  few = is.few;
  drives = is.drives;
  on_drives = is.on_drives;
  journal = fits;
  emptied = λ shut. not_closed (IsEmptied (record room { catalogue = catalogue; journal = journal })) room.is_open opens shut;
}

-- ---- entries

none_behind : (current : Option CurrentFile) (size : ℕ) → IsSome current → behind_entry current size ≡ None → ⊥
none_behind None size some none = absurd (cc some)
none_behind (Some current) size some none = cc none

form_behind : (current : Option CurrentFile) (size : ℕ) → form_of (behind_entry current size) ≡ form_of current
form_behind None size = refl
form_behind (Some current) size = refl

number_changed : (number : ℕ) (m : Moment) (change : Change) (lists : CatalogueLists) → (changed number m change lists).number ≡ number
number_changed number m (Defined resources) lists = refl
number_changed number m (Dropped kind name) lists = refl
number_changed number m (Loaded slot cart) lists = refl
number_changed number m (Ejected slot) lists = refl
number_changed number m (Labelled volid cart pool capacity was) lists = refl
number_changed number m (Begun head) lists = refl
number_changed number m (Finished ssid files bytes digest sections index) lists = refl
number_changed number m (Aborted ssid) lists = refl
number_changed number m (Amended ssid browse retain hold) lists = refl
number_changed number m (Deleted ssid) lists = refl
number_changed number m (Purged ssids) lists = refl
number_changed number m (CopyBegun ssid copy) lists = refl
number_changed number m (CopyDone ssid copy sections removed) lists = refl
number_changed number m (IndexPart ssid part index) lists = refl
number_changed number m (FinishedParts ssid files bytes digest sections) lists = refl

-- The number of the catalogue rises by one.
pub number_after_change : (m : Moment) (change : Change) (lists : CatalogueLists) → (catalogue_after m change lists).number ≡ lists.number + 1
number_after_change m change lists = number_changed (lists.number + 1) m (with_index lists.parts change) lists

-- The catalogue after the change is one that there can be, and the next gate has a place: both are
-- known of the catalogue and the journal in memory.
pub stays_enter : (m : Moment) (change : Change) (room : RoomView) → IsRoom room → CanDo (Enter m change) room
    → IsHeld (catalogue_after m change room.catalogue) → IsKnown (behind_entry room.journal.current (length (entry_bytes m change)))
    → IsRoom (after_done (Enter m change) room)
stays_enter m change room is can held known =
    let size = length (entry_bytes m change) in
    stays_so room (catalogue_after m change room.catalogue) (behind_change size room.journal) is can.opens held (record {
      known = known;
      number = ap (λ n. n + 1) is.journal.number ∙ sym (number_after_change m change room.catalogue);
      unopened = λ none. absurd (none_behind room.journal.current size can.needs.entry.file none);
      first_form = λ first. refl;
      spare = is.journal.spare;
    })

each_joined : (P : IndexEntry → Type 0) (xs ys : List IndexEntry) → AllByRecursion P xs → AllByRecursion P ys → AllByRecursion P (xs ++ ys)
each_joined P [] ys each more = more
each_joined P (x ∷ xs) ys each more = (each.0, each_joined P xs ys each.1 more)

held_with_part : (ssid : Ssid) (part : ℕ) (index : List IndexEntry) (lists : CatalogueLists) → IsHeld lists → AllByRecursion IsEntry index
    → IsHeld (with_part_waiting ssid part index lists)
held_with_part ssid part index lists held each = record {
  catalogue = held.catalogue;
  parts = cond_both (part == 0) index (lists.parts.entries ++ index) (AllByRecursion IsEntry)
      (λ first. each) (λ further. each_joined IsEntry lists.parts.entries index held.parts each);
}

pub stays_enter_part : (m : Moment) (ssid : Ssid) (part : ℕ) (index : List IndexEntry) (room : RoomView) → IsRoom room → CanDo (EnterPart m ssid part index) room
    → IsKnown (behind_entry room.journal.current (length (part_bytes m ssid part index))) → IsRoom (after_done (EnterPart m ssid part index) room)
stays_enter_part m ssid part index room is can known =
    let size = length (part_bytes m ssid part index) in
    stays_so room (with_part_waiting ssid part index room.catalogue) (behind_part size room.journal) is can.opens
    (held_with_part ssid part index room.catalogue is.catalogue can.needs.fitting.allowed.0.each) (record {
      known = known;
      number = is.journal.number;
      unopened = λ none. absurd (none_behind room.journal.current size can.needs.entry.file none);
      first_form = λ first. absurd (omega (arith, sym (form_behind room.journal.current size) ∙ first, can.needs.form));
      spare = is.journal.spare;
    })

-- ---- a turn-over

turned_is_known : (journal : JournalView) (size : ℕ) → IsKnown journal.current → is_at_last journal ≡ false → 65 + size < 2 ^ 64
    → IsKnown (turned_over journal size).current
turned_is_known journal size known next place =
    let range = next_in_range journal.current (range_of journal.current known) (last_is_not journal next) in
    record {
      file = next_is journal.current;
      form = inr (refl, range.1);
      first = range.0;
      gate = omega (arith, place);
    }

pub stays_turn_over : (snapshot : List ℕ) (room : RoomView) → IsRoom room → CanDo (TurnOver snapshot) room → IsRoom (after_done (TurnOver snapshot) room)
stays_turn_over snapshot room is can = by (is_at_last room.journal) refl
  where
    by : (last : Bool) → is_at_last room.journal ≡ last → IsRoom (turned (length snapshot) room)
    by true last = let P : RoomView → Type 0 = λ one. IsRoom one in subst P (sym (turned_last (length snapshot) room last)) is
    by false next = let P : RoomView → Type 0 = λ one. IsRoom one in
        subst P (sym (turned_on (length snapshot) room next))
        (stays_so room (record room.catalogue { parts = no_parts }) (turned_over room.journal (length snapshot)) is can.opens
        (record { catalogue = is.catalogue.catalogue; parts = tt })
        (record {
          known = turned_is_known room.journal (length snapshot) is.journal.known next can.needs.place;
          number = is.journal.number;
          unopened = λ none. absurd (cc none);
          first_form = λ first. refl;
          spare = is.journal.spare;
        }))

-- ---- effects that failed, and those that change nothing

pub stays_broken : (effect : Effect) (room : RoomView) → IsRoom room → CanDo effect room → IsRoom (after_broken effect room)
stays_broken (Enter m change) room is can = stays_closed room is
stays_broken (EnterPart m ssid part index) room is can = stays_closed room is
stays_broken (TurnOver snapshot) room is can = stays_closed room is
stays_broken (Commit drive asking) room is can = stays_commit_broken drive asking room is can
stays_broken (Look cart seen) room is can = is
stays_broken (WriteLabel label) room is can = is
stays_broken (Push drive ssid copy offset bytes) room is can = is
stays_broken (PutIn drive volume) room is can = is
stays_broken (TakeOut drive) room is can = is
stays_broken (Open head) room is can = is
stays_broken (Take ssid piece) room is can = is
stays_broken (Close ssid) room is can = is

pub stays_look : (cart : ℕ) (seen : Seen) (room : RoomView) → IsRoom room → IsRoom (after_done (Look cart seen) room)
stays_look cart seen room is = is

pub stays_write_label : (label : Label) (room : RoomView) → IsRoom room → IsRoom (after_done (WriteLabel label) room)
stays_write_label label room is = is
