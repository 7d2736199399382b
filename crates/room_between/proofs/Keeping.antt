-- What each effect leaves of the open sessions and their records.
use Rattle.std.proofs.Common.{◌≡◌, ◌≢◌, ℕ, Bool, true, false, cond, not, List, [], ◌∷◌, length, refl, sym, ap, ◌∙◌, subst}
use Rattle.std.proofs.lemmas.Bool.{cond_both}
use Rattle.std.specs.List.{AllByRecursion, filter}
use Rattle.std.specs.Prelude.{Option, Some, None, IsSomeAnd}
use Rattle.room_base.specs.declared.numbers.Moment.{Moment}
use Rattle.save_stream.specs.declared.head.SetHead.{SetHead}
use Rattle.save_stream.specs.Reading.{Reading}
use Rattle.media_db.specs.declared.copies.Section.{Section}
use Rattle.media_db.specs.declared.records.Record.{Record}
use Rattle.media_db.specs.Rows.{find_record}
use Rattle.catalog_change.specs.declared.change.Change.{Change}
use Rattle.room_catalog.specs.Changing.{catalogue_after}
use Rattle.save_session.specs.Sessions.{SessionView, leave_drive, off_drive, ssid_of}
use Rattle.room_effects.specs.View.{RoomView, IsRecordOf, held_in}
use Rattle.room_effects.specs.Effects.{closed, ends_with, left_by, turned, is_at_last, without_drive}
use Rattle.room_effects.specs.Needs.{CanEnter}
use Rattle.room_between.specs.Middle.{HasRecord}
use Rattle.room_between.proofs.Records.{IsElsewhere, record_stays}

-- ---- lists

module _ {X : Type 0} (A B C : X → Type 0) where
  pub each_of_both : ((x : X) → A x → B x → C x) → (xs : List X) → AllByRecursion A xs → AllByRecursion B xs → AllByRecursion C xs
  each_of_both joins [] one other = tt
  each_of_both joins (x ∷ xs) one other = (joins x one.0 other.0, each_of_both joins xs one.1 other.1)

pub each_so : {X : Type 0} (A B : X → Type 0) → ((x : X) → A x → B x) → (xs : List X) → AllByRecursion A xs → AllByRecursion B xs
each_so A B so [] each = tt
each_so A B so (x ∷ xs) each = (so x each.0, each_so A B so xs each.1)

each_kept : {X : Type 0} (A : X → Type 0) (keep : X → Bool) (xs : List X) → AllByRecursion A xs → AllByRecursion A (filter keep xs)
each_kept A keep [] each = tt
each_kept A keep (x ∷ xs) each =
    let rest = each_kept A keep xs each.1 in
    cond_both (keep x) (x ∷ filter keep xs) (filter keep xs) (AllByRecursion A) (λ kept. (each.0, rest)) (λ dropped. rest)

-- where each that is kept has more
pub each_kept_with : {X : Type 0} (A B : X → Type 0) (keep : X → Bool) → ((x : X) → keep x ≡ true → A x → B x) → (xs : List X)
    → AllByRecursion A xs → AllByRecursion B (filter keep xs)
each_kept_with A B keep so [] each = tt
each_kept_with A B keep so (x ∷ xs) each =
    let rest = each_kept_with A B keep so xs each.1 in
    cond_both (keep x) (x ∷ filter keep xs) (filter keep xs) (AllByRecursion B) (λ kept. (so x kept each.0, rest)) (λ dropped. rest)

-- ---- sessions

with_head : (found : Option Record) (one other : SessionView) → one.head ≡ other.head → IsSomeAnd found (IsRecordOf one) → IsSomeAnd found (IsRecordOf other)
with_head None one other same has = has
with_head (Some row) one other same has = record {
  begun = has.begun;
  kept = has.kept;
  head = let H : SetHead → Type 0 = λ it. ◌≡◌ (Rattle.media_db.specs.Streams.head_of row) (Rattle.room_effects.specs.View.with_times_of row it) in subst H same has.head;
  unchanged = λ none. (
    let H : SetHead → Type 0 = λ it. ◌≡◌ (Rattle.media_db.specs.Streams.head_of row) it in subst H same (has.unchanged none).0,
    (has.unchanged none).1,
  );
}

-- a session with the same head has the record
pub has_still : (records : List Record) (one other : SessionView) → one.head ≡ other.head → HasRecord records one → HasRecord records other
has_still records one other same has =
    let F : SetHead → Type 0 = λ it. IsSomeAnd (find_record it.ssid.0 records) (IsRecordOf other) in
    subst F same (with_head (find_record (ssid_of one) records) one other same has)

-- ---- effects

-- each session has its record, and this holds of it
abbrev pub Have : (SessionView → Type 0) → List Record → List SessionView → Type 0
Have P records sessions = AllByRecursion (λ session. HasRecord records session × P session) sessions

module _ (P : SessionView → Type 0) where
  pub both : (records : List Record) (sessions : List SessionView) → AllByRecursion (HasRecord records) sessions → AllByRecursion P sessions → Have P records sessions
  both records sessions has is = each_of_both (HasRecord records) P (λ session. HasRecord records session × P session) (λ session one other. (one, other)) sessions has is

  pub records_of : (records : List Record) (sessions : List SessionView) → Have P records sessions → AllByRecursion (HasRecord records) sessions
  records_of records sessions have = each_so (λ session. HasRecord records session × P session) (HasRecord records) (λ session is. is.0) sessions have

  pub pushed_of : (records : List Record) (sessions : List SessionView) → Have P records sessions → AllByRecursion P sessions
  pushed_of records sessions have = each_so (λ session. HasRecord records session × P session) P (λ session is. is.1) sessions have

  pub have_entered : (m : Moment) (change : Change) (room : RoomView) → CanEnter m change room
      → AllByRecursion (λ session. IsElsewhere change (ssid_of session)) room.sessions
      → Have P room.catalogue.records room.sessions → Have P (catalogue_after m change room.catalogue).records room.sessions
  have_entered m change room can there have =
      each_of_both (λ session. IsElsewhere change (ssid_of session)) (λ session. HasRecord room.catalogue.records session × P session)
      (λ session. HasRecord (catalogue_after m change room.catalogue).records session × P session)
      (λ session other is. (record_stays m room.catalogue session is.0 change can.whole can.fitting.fits.1 other, is.1)) room.sessions there have

  pub have_turned : (size : ℕ) (room : RoomView) → Have P room.catalogue.records room.sessions
      → Have P (turned size room).catalogue.records (turned size room).sessions
  have_turned size room have = by (is_at_last room.journal) refl
    where
      by : (last : Bool) → is_at_last room.journal ≡ last → Have P (turned size room).catalogue.records (turned size room).sessions
      by true is = rw is have
      by false is = rw is have

  -- sessions leave a drive
  module _ (leaves : (drive : ℕ) (session : SessionView) → P session → P (off_drive drive session)) where
    pub have_left : (drive : ℕ) (records : List Record) (sessions : List SessionView) → Have P records sessions → Have P records (leave_drive drive sessions)
    have_left drive records [] have = tt
    have_left drive records (session ∷ sessions) have = (
      (has_still records session (off_drive drive session) refl have.0.0, leaves drive session have.0.1),
      have_left drive records sessions have.1,
    )

    -- a commit failed
    pub have_without : (drive : ℕ) (asking : Option ℕ) (room : RoomView) → Have P room.catalogue.records room.sessions
        → Have P room.catalogue.records (without_drive drive asking room).sessions
    have_without drive asking room have =
        have_left drive room.catalogue.records (left_by (held_in room drive) asking room.sessions)
        (each_kept (λ session. HasRecord room.catalogue.records session × P session)
        (λ session. not (ends_with (held_in room drive) asking session)) room.sessions have)
