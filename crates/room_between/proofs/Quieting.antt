-- What is true between commands stays behind effects that leave the open sessions what they have.
use Rattle.std.proofs.Common.{◌≡◌, ◌≢◌, ℕ, ◌==◌, Bool, true, false, not, List, [], ◌∷◌, refl, sym, ap, ◌∙◌, arith}
use Rattle.std.proofs.lemmas.Bool.{true≢false}
use Rattle.std.proofs.lemmas.Bool.Decides.{nat_tests, eqb_tells}
use Rattle.std.specs.List.{AllByRecursion}
use Rattle.std.specs.Prelude.{Option, Some, None, ◌||◌}
use Rattle.room_base.specs.declared.numbers.Moment.{Moment}
use Rattle.room_base.specs.declared.numbers.Ssid.{Ssid}
use Rattle.save_stream.specs.declared.entry.IndexEntry.{IndexEntry}
use Rattle.volume_block.specs.declared.label.Label.{Label}
use Rattle.volume_store.specs.declared.commit.Volume.{Volume}
use Rattle.media_db.specs.declared.records.Record.{Record}
use Rattle.catalog_change.specs.declared.change.Change.{Change}
use Rattle.slot_changer.specs.Drives.{DriveView}
use Rattle.save_session.specs.Sessions.{SessionView, leave_drive, off_drive, ssid_of}
use Rattle.room_effects.specs.View.{RoomView, IsBetweenCommands, IsPushed, IsRoom, held_in}
use Rattle.room_effects.specs.Effects.{Effect, Enter, EnterPart, TurnOver, Commit, Look, WriteLabel, Push, PutIn, TakeOut, Open, Take, Close, Seen}
use Rattle.room_effects.specs.Effects.{after_broken, after_done, closed, ends_with, is_asking, left_by, without_drive}
use Rattle.room_effects.specs.Needs.{CanEnter}
use Rattle.room_between.specs.Middle.{HasRecord, IsBetweenBut, IsPushedUnless}
use Rattle.room_between.specs.Quiet.{LeavesOpen}
use Rattle.room_between.proofs.Records.{elsewhere}
use Rattle.room_between.proofs.Keeping.{Have, both, each_kept_with, each_so, have_entered, have_left, have_turned, have_without, pushed_of, records_of}

-- ---- one after the other

pub have_of : (room : RoomView) → IsBetweenCommands room → Have IsPushed room.catalogue.records room.sessions
have_of room is = both IsPushed room.catalogue.records room.sessions is.records is.pushed

pub between_of : (room : RoomView) → IsRoom room → Have IsPushed room.catalogue.records room.sessions → IsBetweenCommands room
between_of room is have = record {
  is = is;
  records = records_of IsPushed room.catalogue.records room.sessions have;
  pushed = pushed_of IsPushed room.catalogue.records room.sessions have;
}

pub have_but : (ssid : ℕ) (room : RoomView) → IsBetweenBut ssid room → Have (IsPushedUnless ssid) room.catalogue.records room.sessions
have_but ssid room is = both (IsPushedUnless ssid) room.catalogue.records room.sessions is.records is.pushed

pub but_of : (ssid : ℕ) (room : RoomView) → IsRoom room → Have (IsPushedUnless ssid) room.catalogue.records room.sessions → IsBetweenBut ssid room
but_of ssid room is have = record {
  is = is;
  records = records_of (IsPushedUnless ssid) room.catalogue.records room.sessions have;
  pushed = pushed_of (IsPushedUnless ssid) room.catalogue.records room.sessions have;
}

-- ---- between commands

pub between_entered : (m : Moment) (change : Change) (room : RoomView) → IsBetweenCommands room → CanEnter m change room → LeavesOpen change room.sessions
    → IsRoom (after_done (Enter m change) room) → IsBetweenCommands (after_done (Enter m change) room)
between_entered m change room is can leaves now =
    between_of (after_done (Enter m change) room) now
    (have_entered IsPushed m change room can (elsewhere change room.sessions leaves) (have_of room is))

pub between_part : (m : Moment) (ssid : Ssid) (part : ℕ) (index : List IndexEntry) (room : RoomView) → IsBetweenCommands room
    → IsRoom (after_done (EnterPart m ssid part index) room) → IsBetweenCommands (after_done (EnterPart m ssid part index) room)
between_part m ssid part index room is now = between_of (after_done (EnterPart m ssid part index) room) now (have_of room is)

pub between_turned : (snapshot : List ℕ) (room : RoomView) → IsBetweenCommands room
    → IsRoom (after_done (TurnOver snapshot) room) → IsBetweenCommands (after_done (TurnOver snapshot) room)
between_turned snapshot room is now =
    between_of (after_done (TurnOver snapshot) room) now (have_turned IsPushed _ room (have_of room is))

pub between_committed : (drive : ℕ) (asking : Option ℕ) (room : RoomView) → IsBetweenCommands room
    → IsRoom (after_done (Commit drive asking) room) → IsBetweenCommands (after_done (Commit drive asking) room)
between_committed drive asking room is now = between_of (after_done (Commit drive asking) room) now (have_of room is)

pub between_looked : (cart : ℕ) (seen : Seen) (room : RoomView) → IsBetweenCommands room → IsBetweenCommands (after_done (Look cart seen) room)
between_looked cart seen room is = is

pub between_labelled : (label : Label) (room : RoomView) → IsBetweenCommands room → IsBetweenCommands (after_done (WriteLabel label) room)
between_labelled label room is = is

pub between_put_in : (drive : ℕ) (volume : Volume) (room : RoomView) → IsBetweenCommands room
    → IsRoom (after_done (PutIn drive volume) room) → IsBetweenCommands (after_done (PutIn drive volume) room)
between_put_in drive volume room is now = between_of (after_done (PutIn drive volume) room) now (have_of room is)

pub between_taken_out : (drive : ℕ) (room : RoomView) → IsBetweenCommands room
    → IsRoom (after_done (TakeOut drive) room) → IsBetweenCommands (after_done (TakeOut drive) room)
between_taken_out drive room is now =
    between_of (after_done (TakeOut drive) room) now
    (have_left IsPushed (λ left session pushed. pushed) drive room.catalogue.records room.sessions (have_of room is))

-- ---- but for one session

pub but_entered : (m : Moment) (change : Change) (ssid : ℕ) (room : RoomView) → IsBetweenBut ssid room → CanEnter m change room
    → LeavesOpen change room.sessions → IsRoom (after_done (Enter m change) room) → IsBetweenBut ssid (after_done (Enter m change) room)
but_entered m change ssid room is can leaves now =
    but_of ssid (after_done (Enter m change) room) now
    (have_entered (IsPushedUnless ssid) m change room can (elsewhere change room.sessions leaves) (have_but ssid room is))

pub but_part : (m : Moment) (set : Ssid) (part : ℕ) (index : List IndexEntry) (ssid : ℕ) (room : RoomView) → IsBetweenBut ssid room
    → IsRoom (after_done (EnterPart m set part index) room) → IsBetweenBut ssid (after_done (EnterPart m set part index) room)
but_part m set part index ssid room is now = but_of ssid (after_done (EnterPart m set part index) room) now (have_but ssid room is)

pub but_turned : (snapshot : List ℕ) (ssid : ℕ) (room : RoomView) → IsBetweenBut ssid room
    → IsRoom (after_done (TurnOver snapshot) room) → IsBetweenBut ssid (after_done (TurnOver snapshot) room)
but_turned snapshot ssid room is now =
    but_of ssid (after_done (TurnOver snapshot) room) now (have_turned (IsPushedUnless ssid) _ room (have_but ssid room is))

pub but_committed : (drive : ℕ) (asking : Option ℕ) (ssid : ℕ) (room : RoomView) → IsBetweenBut ssid room
    → IsRoom (after_done (Commit drive asking) room) → IsBetweenBut ssid (after_done (Commit drive asking) room)
but_committed drive asking ssid room is now = but_of ssid (after_done (Commit drive asking) room) now (have_but ssid room is)

pub but_looked : (cart : ℕ) (seen : Seen) (ssid : ℕ) (room : RoomView) → IsBetweenBut ssid room → IsBetweenBut ssid (after_done (Look cart seen) room)
but_looked cart seen ssid room is = is

pub but_labelled : (label : Label) (ssid : ℕ) (room : RoomView) → IsBetweenBut ssid room → IsBetweenBut ssid (after_done (WriteLabel label) room)
but_labelled label ssid room is = is

pub but_put_in : (drive : ℕ) (volume : Volume) (ssid : ℕ) (room : RoomView) → IsBetweenBut ssid room
    → IsRoom (after_done (PutIn drive volume) room) → IsBetweenBut ssid (after_done (PutIn drive volume) room)
but_put_in drive volume ssid room is now = but_of ssid (after_done (PutIn drive volume) room) now (have_but ssid room is)

pub but_taken_out : (drive ssid : ℕ) (room : RoomView) → IsBetweenBut ssid room
    → IsRoom (after_done (TakeOut drive) room) → IsBetweenBut ssid (after_done (TakeOut drive) room)
but_taken_out drive ssid room is now =
    but_of ssid (after_done (TakeOut drive) room) now
    (have_left (IsPushedUnless ssid) (λ left session pushed. pushed) drive room.catalogue.records room.sessions (have_but ssid room is))

-- ---- effects that fail

pub between_shut : (room : RoomView) → IsRoom (closed room) → IsBetweenCommands (closed room)
between_shut room now = record { is = now; records = tt; pushed = tt }

-- a commit fails, and so the session that asked for it is closed, if it didn't hold all that it was sent
pub between_without : (drive : ℕ) (asking : Option ℕ) (room : RoomView) → IsBetweenCommands room
    → IsRoom (without_drive drive asking room) → IsBetweenCommands (without_drive drive asking room)
between_without drive asking room is now =
    between_of (without_drive drive asking room) now
    (have_without IsPushed (λ left session pushed. pushed) drive asking room (have_of room is))

pub have_broken : (P : SessionView → Type 0) (leaves : (drive : ℕ) (session : SessionView) → P session → P (off_drive drive session)) (effect : Effect) (room : RoomView)
    → Have P room.catalogue.records room.sessions → Have P (after_broken effect room).catalogue.records (after_broken effect room).sessions
have_broken P leaves (Enter m change) room have = tt
have_broken P leaves (EnterPart m ssid part index) room have = tt
have_broken P leaves (TurnOver snapshot) room have = tt
have_broken P leaves (Commit drive asking) room have = have_without P leaves drive asking room have
have_broken P leaves (Look cart seen) room have = have
have_broken P leaves (WriteLabel label) room have = have
have_broken P leaves (Push drive ssid copy offset bytes) room have = have
have_broken P leaves (PutIn drive volume) room have = have
have_broken P leaves (TakeOut drive) room have = have
have_broken P leaves (Open head) room have = have
have_broken P leaves (Take ssid piece) room have = have
have_broken P leaves (Close ssid) room have = have

pub between_broken : (effect : Effect) (room : RoomView) → IsBetweenCommands room
    → IsRoom (after_broken effect room) → IsBetweenCommands (after_broken effect room)
between_broken effect room is now =
    between_of (after_broken effect room) now (have_broken IsPushed (λ left session pushed. pushed) effect room (have_of room is))

-- the session that asked isn't kept
not_asking : (held : Option DriveView) (ssid : ℕ) (session : SessionView) → not (ends_with held (Some ssid) session) ≡ true → ssid_of session ≢ ssid
not_asking held ssid session kept same = by (Rattle.slot_changer.specs.Drives.holds_set held (ssid_of session)) refl
  where
    asks : (ssid == ssid_of session) ≡ true
    asks = grind (arith, nat_tests, same)

    by : (holds : Bool) → Rattle.slot_changer.specs.Drives.holds_set held (ssid_of session) ≡ holds → ⊥
    by true is = absurd (true≢false (sym kept ∙ ap (λ (b : Bool). not (b || (ssid == ssid_of session))) is))
    by false is = absurd (true≢false (sym kept ∙ ap (λ (b : Bool). not (b || (ssid == ssid_of session))) is ∙ ap not asks))

pub between_asked : (drive ssid : ℕ) (room : RoomView) → IsBetweenBut ssid room
    → IsRoom (after_broken (Commit drive (Some ssid)) room) → IsBetweenCommands (after_broken (Commit drive (Some ssid)) room)
between_asked drive ssid room is now =
    let held = held_in room drive in
    between_of (without_drive drive (Some ssid) room) now
    (have_left IsPushed (λ left session pushed. pushed) drive room.catalogue.records (left_by held (Some ssid) room.sessions)
    (each_kept_with (λ session. HasRecord room.catalogue.records session × IsPushedUnless ssid session)
    (λ session. HasRecord room.catalogue.records session × IsPushed session)
    (λ session. not (ends_with held (Some ssid) session))
    (λ session kept has. (has.0, has.1 (not_asking held ssid session kept))) room.sessions (have_but ssid room is)))
