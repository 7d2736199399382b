-- The record of an open session.
use Rattle.std.proofs.Common.{◌≡◌, ℕ, true, List, [], length, refl, sym, ap, ◌∙◌, subst, arith}
use Rattle.std.specs.Prelude.{Option, Some, None, IsSome, IsSomeAnd}
use Rattle.std.proofs.lemmas.Cmp.{nat_cmp_total}
use Rattle.room_base.proofs.OrderedLaws.{each_found, found_has_key}
use Rattle.room_base.proofs.OrderedNumbers.{equal_numbers}
use Rattle.save_stream.specs.Spelling.{IsHead, head_text}
use Rattle.save_stream.specs.declared.head.SetHead.{SetHead}
use Rattle.save_stream.proofs.Lengths.{length-head_text}
use Rattle.media_db.specs.Rows.{find_record, ssid_of as row_ssid}
use Rattle.media_db.specs.Streams.{head_of}
use Rattle.media_db.specs.declared.records.Record.{Record}
use Rattle.cat_journal.specs.declared.current.CurrentFile.{CurrentFile}
use Rattle.catalog_change.specs.Catalogues.{Catalogue, IsCatalogue, IsRecord}
use Rattle.room_catalog.specs.Fits.{IsBegun, IsFinishable}
use Rattle.save_session.specs.Sessions.{SessionView, IsSession, find_session, ssid_of}
use Rattle.room_effects.specs.View.{RoomView, IsBetweenCommands, IsPushed, IsRecordOf, IsRoom, with_times_of}
use Rattle.save_finish.proofs.Ended.{has_body}

-- the set's session has a begun record
abbrev pub HasRecord : RoomView → SessionView → Type 0
HasRecord room session = IsSomeAnd (find_record (ssid_of session) room.catalogue.records) (IsRecordOf session)

-- what is known of the session of a set between two commands
pub record IsFound (ssid : ℕ) (room : RoomView) (session : SessionView) : Type 0 where
  pub ssid_is : ssid_of session ≡ ssid
  pub is_session : IsSession session
  pub pushed : IsPushed session
  pub recorded : IsSomeAnd (find_record ssid room.catalogue.records) (IsRecordOf session)

pub found_between : (ssid : ℕ) (room : RoomView) (session : SessionView) → IsBetweenCommands room → find_session ssid room.sessions ≡ Some session
    → IsFound ssid room session
found_between ssid room session between found =
    let key = equal_numbers (ssid_of session) ssid (found_has_key nat_cmp_total ssid_of ssid session room.sessions found) in
    let R : ℕ → Type 0 = λ n. IsSomeAnd (find_record n room.catalogue.records) (IsRecordOf session) in
    record {
      ssid_is = key;
      is_session = each_found nat_cmp_total ssid_of IsSession ssid session room.sessions between.is.sessions.each found;
      pushed = each_found nat_cmp_total ssid_of IsPushed ssid session room.sessions between.pushed found;
      recorded = subst R key (each_found nat_cmp_total ssid_of (HasRecord room) ssid session room.sessions between.records found);
    }

-- ---- the record

head_length : (session : SessionView) (row : Record) → IsRecordOf session row → length (head_text (head_of row)) ≡ length (head_text session.head)
head_length session row is =
    ap (λ (head : SetHead). length (head_text head)) is.head ∙ length-head_text (with_times_of row session.head) ∙ sym (length-head_text session.head)

finishable_row : (session : SessionView) (row : Record) → IsSession session → session.reading.ended ≡ true → IsRecordOf session row
    → IsFinishable session.reading.read row
finishable_row session row is ended of_session =
    (of_session.begun, omega (arith, head_length session row of_session, is.count, has_body session is ended))

finishable_found : (found : Option Record) (session : SessionView) → IsSession session → session.reading.ended ≡ true → IsSomeAnd found (IsRecordOf session)
    → IsSomeAnd found (IsFinishable session.reading.read)
finishable_found None session is ended recorded = absurd recorded
finishable_found (Some row) session is ended recorded = finishable_row session row is ended recorded

pub finishable : (ssid : ℕ) (room : RoomView) (session : SessionView) → IsFound ssid room session → session.reading.ended ≡ true
    → IsSomeAnd (find_record ssid room.catalogue.records) (IsFinishable session.reading.read)
finishable ssid room session is ended = finishable_found (find_record ssid room.catalogue.records) session is.is_session ended is.recorded

begun_found : (found : Option Record) (session : SessionView) → IsSomeAnd found (IsRecordOf session) → IsSomeAnd found IsBegun
begun_found None session recorded = absurd recorded
begun_found (Some row) session recorded = recorded.begun

pub begun : (ssid : ℕ) (room : RoomView) (session : SessionView) → IsFound ssid room session → IsSomeAnd (find_record ssid room.catalogue.records) IsBegun
begun ssid room session is = begun_found (find_record ssid room.catalogue.records) session is.recorded

-- a record of a catalogue has a head that is allowed
pub head_allowed : (ssid : ℕ) (catalogue : Catalogue) (records : List Record) (row : Record) → IsCatalogue catalogue → records ≡ catalogue.records
    → Some row ≡ find_record ssid records → IsHead (head_of row)
head_allowed ssid catalogue records row is same found =
    let F : List Record → Type 0 = λ rows. Some row ≡ find_record ssid rows in
    (each_found nat_cmp_total row_ssid (IsRecord catalogue.next_ssid) ssid row catalogue.records is.records.each (sym (subst F same found))).head

-- ---- the journal

none_recorded : (ssid : ℕ) (records : List Record) (P : Record → Type 0) → records ≡ [] → IsSomeAnd (find_record ssid records) P → ⊥
none_recorded ssid records P none some =
    let F : List Record → Type 0 = λ rows. IsSomeAnd (find_record ssid rows) P in subst F none some

-- a set has a record only behind an entry, so that a file of the journal is open
pub file_is_open : (ssid : ℕ) (room : RoomView) (session : SessionView) → IsRoom room → IsFound ssid room session → IsSome room.journal.current
file_is_open ssid room session is found = by room.journal.current refl
  where
    by : (current : Option CurrentFile) → room.journal.current ≡ current → IsSome room.journal.current
    by None none =
        let rows : room.catalogue.records ≡ [] = ap (λ (catalogue : Catalogue). catalogue.records) (is.journal.unopened none).0 in
        absurd (none_recorded ssid room.catalogue.records (IsRecordOf session) rows found.recorded)
    by (Some current) open_one = (let S : Option CurrentFile → Type 0 = λ one. IsSome one in subst S (sym open_one) refl)
