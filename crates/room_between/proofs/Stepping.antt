-- How a session begins, goes on and ends between commands.
use Rattle.std.proofs.Common.{◌≡◌, ◌≢◌, ℕ, ◌+◌, ◌<◌, Bool, true, false, cond, not, List, [], ◌∷◌, ◌++◌, length, refl, sym, ap, ◌∙◌, subst, arith}
use Rattle.std.proofs.lemmas.Bool.{true≢false, cond-true, cond-false, cond_both}
use Rattle.std.proofs.lemmas.Cmp.{nat_cmp_total}
use Rattle.std.specs.List.{AllByRecursion}
use Rattle.std.specs.Ordering.{eq_by_cmp, is_eq, nat_cmp}
use Rattle.std.specs.declared.cmp.Ordering.{Ordering}
use Rattle.std.specs.declared.cmp.Ordering.TheVariants.{Less, Equal, Greater}
use Rattle.std.specs.Prelude.{Option, Some, None, IfSome, IsSomeAnd}
use Rattle.room_base.specs.declared.numbers.Moment.{Moment}
use Rattle.room_base.specs.Ordered.{Ascends, AscendsFrom}
use Rattle.room_base.proofs.OrderedLaws.{each_above, found_has_key, found_removed}
use Rattle.room_base.proofs.OrderedLists.{ascend_rest}
use Rattle.room_base.proofs.OrderedNumbers.{equal_numbers, lesser_number, same_number}
use Rattle.room_base.proofs.OrderedUpdates.{each_put}
use Rattle.save_stream.specs.declared.head.SetHead.{SetHead}
use Rattle.media_db.specs.declared.copies.Section.{Section}
use Rattle.media_db.specs.declared.records.Record.{Record}
use Rattle.media_db.specs.Rows.{find_record, put_row}
use Rattle.catalog_change.specs.declared.change.Change.TheVariants.{Begun}
use Rattle.room_catalog.specs.Applying.{begun_row}
use Rattle.room_catalog.specs.Changing.{catalogue_after}
use Rattle.room_catalog.specs.Held.{CatalogueLists}
use Rattle.room_catalog.proofs.Found.{found_row}
use Rattle.room_catalog.proofs.Updated.{each_updated_found}
use Rattle.slot_changer.specs.Drives.{DriveView}
use Rattle.save_session.specs.Parts.{end_from, end_in_file_of, end_of, lengthen_last, lengthened, with_part}
use Rattle.save_session.specs.Sessions.{SessionView, change_session, close_session, find_session, placed_on, ssid_of, start_session, started, with_piece}
use Rattle.room_effects.specs.View.{RoomView, IsBetweenCommands, IsPushed, IsRecordOf, IsRoom, held_in}
use Rattle.room_effects.specs.Effects.{Enter, Push, Take, Close, after_done, part_of, placed_in}
use Rattle.room_between.specs.Middle.{EndsWith, HasRecord, IsBetweenBut, IsPushedUnless}
use Rattle.room_between.proofs.Records.{begun_has, none_has, other_choice, same_found}
use Rattle.room_between.proofs.Keeping.{Have, both, each_kept_with, each_of_both, each_so, has_still}
use Rattle.room_between.proofs.Quieting.{between_of, but_of, have_but, have_of}

-- ---- any session

unless : (ssid : ℕ) (sessions : List SessionView) → AllByRecursion IsPushed sessions → AllByRecursion (IsPushedUnless ssid) sessions
unless ssid sessions pushed = each_so IsPushed (IsPushedUnless ssid) (λ session is other. is) sessions pushed

pub but_any : (ssid : ℕ) (room : RoomView) → IsBetweenCommands room → IsBetweenBut ssid room
but_any ssid room is = record { is = is.is; records = is.records; pushed = unless ssid room.sessions is.pushed }

-- ---- it begins

module _ (m : Moment) (head : SetHead) (lists : CatalogueLists) where
  abbrev now : List Record
  now = (catalogue_after m (Begun head) lists).records

  -- another session has its record still
  has_other : (session : SessionView) → head.ssid.0 ≢ ssid_of session → HasRecord lists.records session → HasRecord now session
  has_other session other has =
      same_found (IsRecordOf session) (find_record (ssid_of session) now) (find_record (ssid_of session) lists.records)
      (found_row (begun_row head) (ssid_of session) lists.records
      ∙ other_choice head.ssid.0 (ssid_of session) (Some (begun_row head)) (find_record (ssid_of session) lists.records) other) has

  has_begun : HasRecord now (started head)
  has_begun =
      same_found (IsRecordOf (started head)) (find_record head.ssid.0 now) (Some (begun_row head))
      (found_row (begun_row head) head.ssid.0 lists.records
      ∙ cond-true (Rattle.std.specs.Prelude.◌==◌ head.ssid.0 head.ssid.0) (Some (begun_row head)) (find_record head.ssid.0 lists.records) (grind (arith, Rattle.std.proofs.lemmas.Bool.Decides.nat_tests)))
      (begun_has head lists.records (started head) refl)

  have_begun : (sessions : List SessionView) → find_session head.ssid.0 sessions ≡ None → Have IsPushed lists.records sessions
      → Have (IsPushedUnless head.ssid.0) now (start_session head sessions)
  have_begun sessions none have =
      each_put nat_cmp_total ssid_of (λ session. HasRecord now session × IsPushedUnless head.ssid.0 session) sessions (started head)
      (has_begun, λ other. absurd (other refl))
      (each_of_both (λ session. head.ssid.0 ≢ ssid_of session) (λ session. HasRecord lists.records session × IsPushed session)
      (λ session. HasRecord now session × IsPushedUnless head.ssid.0 session)
      (λ session other has. (has_other session other has.0, λ apart. has.1)) sessions (none_has head.ssid.0 sessions none) have)

pub begins : (m : Moment) (head : SetHead) (room mid : RoomView) → IsBetweenCommands room → find_session head.ssid.0 room.sessions ≡ None
    → mid.sessions ≡ start_session head room.sessions → mid.catalogue.records ≡ room.catalogue.records
    → IsRoom (after_done (Enter m (Begun head)) mid) → IsBetweenBut head.ssid.0 (after_done (Enter m (Begun head)) mid)
begins m head room mid is none sessions records now =
    let R : List Record → Type 0 = λ rows. Have IsPushed rows room.sessions in
    let S : List SessionView → Type 0 = λ all. Have (IsPushedUnless head.ssid.0) (catalogue_after m (Begun head) mid.catalogue).records all in
    but_of head.ssid.0 (after_done (Enter m (Begun head)) mid) now
    (subst S (sym sessions) (have_begun m head mid.catalogue room.sessions none (subst R (sym records) (have_of room is))))

-- ---- it is sent a piece

pub taken : (ssid : ℕ) (piece : List ℕ) (room : RoomView) → IsBetweenCommands room → IsRoom (after_done (Take ssid piece) room)
    → IsBetweenBut ssid (after_done (Take ssid piece) room)
taken ssid piece room is now =
    let Holds : SessionView → Type 0 = λ session. HasRecord room.catalogue.records session × IsPushedUnless ssid session in
    but_of ssid (after_done (Take ssid piece) room) now
    (each_updated_found nat_cmp_total ssid_of Holds (with_piece piece) ssid room.sessions
    (λ session found has. (
      has_still room.catalogue.records session (with_piece piece session) refl has.0,
      λ other. absurd (other (equal_numbers (ssid_of session) ssid (found_has_key nat_cmp_total ssid_of ssid session room.sessions found))),
    ))
    (have_but ssid room (but_any ssid room is)))

-- ---- it is pushed

-- sections with a part end where it ends
ends_after : (place : ℕ) (part : Section) (sections : List Section) → end_from place (sections ++ part ∷ []) ≡ part.to
ends_after place part [] = refl
ends_after place part (section ∷ sections) = ends_after section.to part sections

ends_lengthened : (place : ℕ) (part : Section) (sections : List Section) → end_in_file_of part sections ≡ true → end_from place (lengthen_last part sections) ≡ part.to
ends_lengthened place part [] ends = absurd (true≢false (sym ends))
ends_lengthened place part (section ∷ []) ends = refl
ends_lengthened place part (section ∷ next ∷ sections) ends = ends_lengthened section.to part (next ∷ sections) ends

pub ends_with_part : (part : Section) (sections : List Section) → end_of (with_part part sections) ≡ part.to
ends_with_part part sections =
    cond_both (end_in_file_of part sections) (lengthen_last part sections) (sections ++ part ∷ []) (λ (all : List Section). end_of all ≡ part.to)
    (λ ends. ends_lengthened 0 part sections ends) (λ other. ends_after 0 part sections)

module _ (drive : ℕ) (part : Section) (ssid : ℕ) (records : List Record) where
  abbrev Holds : SessionView → Type 0
  Holds session = HasRecord records session × IsPushed session

  abbrev HoldsUnless : SessionView → Type 0
  HoldsUnless session = HasRecord records session × IsPushedUnless ssid session

  -- the sessions behind that of the ssid are others
  others : (low : ℕ) (sessions : List SessionView) → low ≡ ssid → AscendsFrom nat_cmp ssid_of low sessions → Have (IsPushedUnless ssid) records sessions → Have IsPushed records sessions
  others low sessions same ascend have =
      each_of_both (λ session. nat_cmp low (ssid_of session) ≡ Less) HoldsUnless Holds
      (λ session above has. (has.0, has.1 (λ equal. absurd (let below = lesser_number low (ssid_of session) above in omega (arith, below, equal, same)))))
      sessions (each_above nat_cmp_total ssid_of low sessions ascend) have

  placed : (session : SessionView) → part.to ≡ session.reading.read → HasRecord records session → Holds (placed_on drive part session)
  placed session ends has = (
    has_still records session (placed_on drive part session) refl has,
    ends_with_part part session.sections ∙ ends,
  )

  equal_is : (order : Ordering) → is_eq order ≡ true → order ≡ Equal
  equal_is Less e = absurd (true≢false (sym e))
  equal_is Equal e = refl
  equal_is Greater e = absurd (true≢false (sym e))

  -- another session than that of the ssid
  is_other : (session : SessionView) → eq_by_cmp nat_cmp (ssid_of session) ssid ≡ false → ssid_of session ≢ ssid
  is_other session apart same = absurd (true≢false (sym (same_number ssid) ∙ ap (λ (k : ℕ). eq_by_cmp nat_cmp k ssid) (sym same) ∙ apart))

  have_placed : (sessions : List SessionView) → Ascends nat_cmp ssid_of sessions → IfSome (find_session ssid sessions) (λ session. part.to ≡ session.reading.read)
      → Have (IsPushedUnless ssid) records sessions → Have IsPushed records (change_session ssid (placed_on drive part) sessions)
  have_placed [] ascend ends have = tt
  have_placed (session ∷ sessions) ascend ends have =
      by (eq_by_cmp nat_cmp (ssid_of session) ssid) refl ends (have_placed sessions (ascend_rest nat_cmp_total ssid_of session sessions ascend))
    where
      by : (here : Bool) → eq_by_cmp nat_cmp (ssid_of session) ssid ≡ here
          → IfSome (cond here (Some session) (find_session ssid sessions)) (λ one. part.to ≡ one.reading.read)
          → (IfSome (find_session ssid sessions) (λ one. part.to ≡ one.reading.read) → Have (IsPushedUnless ssid) records sessions
          → Have IsPushed records (change_session ssid (placed_on drive part) sessions))
          → Have IsPushed records (cond here (placed_on drive part session ∷ sessions) (session ∷ change_session ssid (placed_on drive part) sessions))
      by true same end rest = (
        placed session end have.0.0,
        others (ssid_of session) sessions (equal_numbers (ssid_of session) ssid (equal_is (nat_cmp (ssid_of session) ssid) same)) ascend have.1,
      )
      by false apart end rest = ((have.0.0, have.0.1 (is_other session apart)), rest end have.1)

pub pushed : (drive ssid copy offset : ℕ) (bytes : List ℕ) (one : DriveView) (room : RoomView) → IsBetweenBut ssid room → held_in room drive ≡ Some one
    → IfSome (find_session ssid room.sessions) (EndsWith offset bytes) → IsRoom (after_done (Push drive ssid copy offset bytes) room)
    → IsBetweenCommands (after_done (Push drive ssid copy offset bytes) room)
pushed drive ssid copy offset bytes one room is held ends now =
    let H : Option DriveView → Type 0 = λ it. Have IsPushed room.catalogue.records (placed_in it drive ssid copy offset bytes room.sessions) in
    between_of (after_done (Push drive ssid copy offset bytes) room) now
    (subst H (sym held) (have_placed drive (part_of one ssid copy offset bytes) ssid room.catalogue.records room.sessions is.is.sessions.ascending
    (end_is (find_session ssid room.sessions) ends) (have_but ssid room is)))
  where
    end_is : (found : Option SessionView) → IfSome found (EndsWith offset bytes) → IfSome found (λ session. offset + length bytes ≡ session.reading.read)
    end_is None ends = tt
    end_is (Some session) ends = ends.to

-- ---- it ends

-- a session that is closed isn't found
pub none_closed : (ssid : ℕ) (sessions : List SessionView) → find_session ssid (close_session ssid sessions) ≡ None
none_closed ssid sessions =
    found_removed nat_cmp_total ssid_of ssid ssid sessions
    ∙ cond-true (eq_by_cmp nat_cmp ssid ssid) None (find_session ssid sessions) (same_number ssid)

pub closed_one : (ssid : ℕ) (room : RoomView) → IsBetweenBut ssid room → IsRoom (after_done (Close ssid) room) → IsBetweenCommands (after_done (Close ssid) room)
closed_one ssid room is now =
    between_of (after_done (Close ssid) room) now
    (each_kept_with (λ session. HasRecord room.catalogue.records session × IsPushedUnless ssid session)
    (λ session. HasRecord room.catalogue.records session × IsPushed session)
    (λ session. not (eq_by_cmp nat_cmp (ssid_of session) ssid))
    (λ session kept has. (has.0, has.1 (λ same. absurd (true≢false (sym kept ∙ ap (λ (k : ℕ). not (eq_by_cmp nat_cmp k ssid)) same ∙ ap not (same_number ssid))))))
    room.sessions (have_but ssid room is))
