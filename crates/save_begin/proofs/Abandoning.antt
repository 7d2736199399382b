-- A session that is closed, and the entry behind it.
use Rattle.std.proofs.Common.{◌≡◌, Bool, true, if◌then◌else◌, ℕ, false, List, [], ◌∷◌, refl, sym, ap, ◌∙◌, subst}
use Rattle.std.proofs.lemmas.Cmp.{nat_cmp_total}
use Rattle.std.specs.List.{AllByRecursion}
use Rattle.std.specs.Option.{is_some}
use Rattle.std.specs.Prelude.{Option, Some, None, IsSome, IsSomeAnd, Result}
use Rattle.room_base.specs.declared.numbers.Moment.{Moment}
use Rattle.room_base.specs.declared.numbers.Ssid.{Ssid}
use Rattle.room_base.specs.declared.refusal.Refusal.{Refusal}
use Rattle.room_base.proofs.OrderedLaws.{each_found, found_has_key}
use Rattle.room_base.proofs.OrderedNumbers.{equal_numbers}
use Rattle.room_disk.specs.Disk.{DiskView}
use Rattle.media_db.specs.declared.records.Record.{Record}
use Rattle.media_db.specs.Rows.{find_record}
use Rattle.catalog_change.specs.declared.change.Change.{Change}
use Rattle.catalog_change.specs.declared.change.Change.TheVariants as changes
use Rattle.catalog_spelling.specs.Snapshots.{snapshot_text}
use Rattle.room_catalog.specs.Fits.{IsBegun}
use Rattle.room_catalog.specs.Held.{catalogue_of}
use Rattle.save_session.specs.Sessions.{SessionView, IsOpen, find_session, ssid_of}
use Rattle.room_effects.specs.View.{RoomView, IsBetweenCommands, IsRecordOf, IsRoom}
use Rattle.room_effects.specs.Effects.{Close, Enter, TurnOver, after_done}
use Rattle.room_effects.specs.Memory.{HeldRoom}
use Rattle.room_effects.specs.Needs.{CanDo, IsFitting}
use Rattle.room_effects.specs.Running.{Does}
use Rattle.room_effects.proofs.Does.{does_then}
use Rattle.room_effects.proofs.Sending.{does_close}
use Rattle.room_entering.specs.Prepared.{IsPrepared}
use Rattle.room_effects.specs.Entering.{is_at_ceiling, with_first_file}
use Rattle.room_state.specs.Memory.{TakesMemory}
use Rattle.room_between.specs.Middle.{HasRecord}
use Rattle.room_between.specs.Quiet.{IsQuiet}
use Rattle.room_between.proofs.Planning.{between_done}
use Rattle.room_between.proofs.Stepping.{but_any, closed_one, none_closed}
use Rattle.save_begin.proofs.Numbers.{below_is}
use Rattle.save_begin.proofs.Opening.{prepared_now}

-- ---- its record

begun_row : (session : SessionView) (found : Option Record) → IsSomeAnd found (IsRecordOf session) → IsSomeAnd found IsBegun
begun_row session None has = has
begun_row session (Some row) has = has.begun

-- the record of an open session's set is begun
open_begun : (ssid : ℕ) (room : RoomView) → IsBetweenCommands room → IsOpen ssid room.sessions → IsSomeAnd (find_record ssid room.catalogue.records) IsBegun
open_begun ssid room is opened = by (find_session ssid room.sessions) refl opened
  where
    by : (found : Option SessionView) → find_session ssid room.sessions ≡ found → IsSome found → IsSomeAnd (find_record ssid room.catalogue.records) IsBegun
    by None is_none some = absurd (cc some)
    by (Some session) there some =
        let has = each_found nat_cmp_total ssid_of (HasRecord room.catalogue.records) ssid session room.sessions is.records there in
        let same = equal_numbers (ssid_of session) ssid (found_has_key nat_cmp_total ssid_of ssid session room.sessions there) in
        let F : ℕ → Type 0 = λ k. IsSomeAnd (find_record k room.catalogue.records) IsBegun in
        subst F same (begun_row session (find_record (ssid_of session) room.catalogue.records) has)

-- ---- the entry

module _ (ssid : Ssid) (held now : HeldRoom) (between : IsBetweenCommands held.room) (opened : IsOpen ssid.0 held.room.sessions) (shut : now.room ≡ after_done (Close ssid.0) held.room) where
  pub fits_closed : (change : Change) → change ≡ changes.Aborted ssid → is_at_ceiling held.room.catalogue ≡ false → IsFitting change now.room
  fits_closed change is below =
      let F : RoomView → Type 0 = λ room. IsFitting (changes.Aborted ssid) room in
      let C : Change → Type 0 = λ it. IsFitting it now.room in
      subst C (sym is) (subst F (sym shut) (record {
        allowed = tt;
        fits = ((below_is held.room.catalogue below).0, open_begun ssid.0 held.room between opened);
        parts_fit = tt;
      }))

  pub prepared_closed : (change : Change) (first : Option (List ℕ)) → IsPrepared change first held → TakesMemory (Close ssid.0) held.memory now.memory
      → IsPrepared change first now
  prepared_closed change first is takes =
      prepared_now change first held now is (ap (λ (room : RoomView). room.catalogue) shut) (ap (λ (room : RoomView). room.journal) shut) takes.catalogue takes.entry

  pub between_closed : IsRoom now.room → IsBetweenCommands now.room
  between_closed is =
      let R : RoomView → Type 0 = λ room. IsRoom room in
      let B : RoomView → Type 0 = λ room. IsBetweenCommands room in
      subst B (sym shut) (closed_one ssid.0 held.room (but_any ssid.0 held.room between) (subst R shut is))

  pub none_now : find_session ssid.0 now.room.sessions ≡ None
  none_now = ap (λ (room : RoomView). find_session ssid.0 room.sessions) shut ∙ none_closed ssid.0 held.room.sessions

-- no open session is about the change
first_quiet : (m : Moment) (change : Change) (room : RoomView) → IsQuiet room.sessions (Enter m change) → AllByRecursion (IsQuiet room.sessions) (with_first_file room (Enter m change ∷ []))
first_quiet m change room quiet = by (is_some room.journal.current)
  where
    by : (test : Bool) → AllByRecursion (IsQuiet room.sessions)
        (if test then Enter m change ∷ [] else (TurnOver (snapshot_text true (catalogue_of room.catalogue)) ∷ (Enter m change ∷ [])))
    by true = (quiet, tt)
    by false = (tt, (quiet, tt))

pub between_aborted : (m : Moment) (ssid : Ssid) (change : Change) (answer : Result (Unit {0}) Refusal) (mid new : RoomView) (before now : DiskView) → change ≡ changes.Aborted ssid
    → IsBetweenCommands mid → find_session ssid.0 mid.sessions ≡ None → Does {T = Unit {0}} (with_first_file mid (Enter m change ∷ [])) answer mid new before now
    → IsRoom new → IsBetweenCommands new
between_aborted m ssid change answer mid new before now is between none does there =
    let Q : Change → Type 0 = λ it. IsQuiet mid.sessions (Enter m it) in
    between_done {T = Unit {0}} (with_first_file mid (Enter m change ∷ [])) answer mid new before now between
    (first_quiet m change mid (subst Q (sym is) none)) does there

pub does_aborted : (m : Moment) (ssid : Ssid) (change : Change) (answer : Result (Unit {0}) Refusal) (old mid new : RoomView) (before now : DiskView) → change ≡ changes.Aborted ssid
    → CanDo (Close ssid.0) old → mid ≡ after_done (Close ssid.0) old → Does {T = Unit {0}} (with_first_file mid (Enter m change ∷ [])) answer mid new before now
    → Does {T = Unit {0}} (Close ssid.0 ∷ with_first_file old (Enter m (changes.Aborted ssid) ∷ [])) answer old new before now
does_aborted m ssid change answer old mid new before now is can shut does =
    let C : Change → Type 0 = λ it. Does {T = Unit {0}} (with_first_file mid (Enter m it ∷ [])) answer mid new before now in
    let M : RoomView → Type 0 = λ room. Does {T = Unit {0}} (with_first_file room (Enter m (changes.Aborted ssid) ∷ [])) answer mid new before now in
    does_then {T = Unit {0}} {U = Unit {0}} (Close ssid.0) (with_first_file old (Enter m (changes.Aborted ssid) ∷ [])) tt answer old mid new before before now
    (does_close {T = Unit {0}} ssid.0 tt old mid before can shut) (subst M shut (subst C is does))
