-- The index that the end of a session hands over, to be entered in parts.
use Rattle.std.proofs.Common.{◌≡◌, ℕ, List, [], ◌∷◌, ◌++◌, length, sym, ap, ◌∙◌, subst, arith}
use Rattle.std.specs.Prelude.{Option, Some, None, IfSome, IsSomeAnd}
use Rattle.sha2.specs.Sha256.{sha256}
use Rattle.room_base.specs.declared.numbers.Moment.{Moment}
use Rattle.room_base.specs.declared.numbers.Ssid.{Ssid}
use Rattle.save_stream.specs.declared.entry.IndexEntry.{IndexEntry}
use Rattle.media_db.specs.Rows.{find_record}
use Rattle.media_db.specs.declared.copies.Section.{Section}
use Rattle.catalog_change.specs.Changes.{AreEntries, AreSections}
use Rattle.catalog_change.specs.declared.change.Change.{Change}
use Rattle.catalog_change.specs.declared.change.Change.TheVariants.{FinishedParts}
use Rattle.room_catalog.specs.Fits.{IsFinishable}
use Rattle.save_session.specs.Sessions.{SessionView, find_session}
use Rattle.room_effects.specs.View.{RoomView}
use Rattle.room_effects.specs.Effects.{Close, Enter, after_done}
use Rattle.room_effects.specs.Memory.{HeldRoom, RoomMemory}
use Rattle.room_command.specs.declared.answer.Answer.TheVariants.{Finished}
use Rattle.room_command.specs.declared.reply.Reply.TheVariants.{Done}
use Rattle.room_state.specs.Memory.{TakesMemory}
use Rattle.save_finish.specs.declared.part_room.PartRoom.{PartRoom}
use Rattle.save_finish.specs.declared.stream.EndedStream.{EndedStream}
use Rattle.save_finish.specs.Ended.{HasMany, IsStreamOf}
use Rattle.save_finish.specs.Ending.{entering_parts, finished_parts, part_count, parts_to, second_form}
use Rattle.save_finish.specs.Parts.{HasMemoryForIndex, IsReadyForParts, IsRoomFor, MayEnterIndex, closing_change}
use Rattle.save_finish.specs.Finishing.{finished}
use Rattle.save_finish.specs.Prepared.{IsCommittedFrom, MayEnd}
use Rattle.save_finish.proofs.Ended.{index_is}
use Rattle.save_finish.proofs.Entering.{below_is, has_ended, is_found, none_behind, sections_allowed}
use Rattle.save_finish.proofs.Recorded.{file_is_open, finishable}

-- the change that closes the parts is that of the session's stream
closing_is : (ssid : Ssid) (stream : EndedStream) (session : SessionView) → IsStreamOf stream session → closing_change ssid stream ≡ finished_parts ssid session
closing_is ssid stream session is =
    ap (λ files. FinishedParts ssid files stream.bytes stream.digest stream.sections) is.files
    ∙ ap (λ bytes. FinishedParts ssid (length session.reading.entries) bytes stream.digest stream.sections) is.bytes
    ∙ ap (λ (digest : List ℕ). FinishedParts ssid (length session.reading.entries) session.reading.read digest stream.sections) is.digest
    ∙ ap (λ (sections : List Section). FinishedParts ssid (length session.reading.entries) session.reading.read (sha256 session.sent) sections) is.sections

module _ (m : Moment) (ssid : Ssid) (session : SessionView) (stream : EndedStream) (index : List IndexEntry) (old mid : HeldRoom) (may : MayEnd ssid.0 old.room)
    (found : find_session ssid.0 old.room.sessions ≡ Some session) (is : IsStreamOf stream session) (handed : index ≡ session.reading.entries)
    (closed : mid.room ≡ after_done (Close ssid.0) old.room) where
  pub may_enter_index : HasMany session → MayEnterIndex ssid stream index mid.room
  may_enter_index many =
      let R : RoomView → Type 0 = λ room. MayEnterIndex ssid stream index room in
      let I : List IndexEntry → Type 0 = λ entries. AreEntries entries in
      let B : ℕ → Type 0 = λ bytes. IsSomeAnd (find_record ssid.0 old.room.catalogue.records) (IsFinishable bytes) in
      let S : List Section → Type 0 = λ sections. AreSections sections in
      let one = is_found m ssid session old.room may found in
      let ended = has_ended m ssid session old.room may found in
      let count = ap (λ (entries : List IndexEntry). length entries) handed in
      subst R (sym closed) (record {
        opens = may.opens;
        closed = none_behind ssid.0 old.room.sessions;
        below = below_is old.room.catalogue may.below;
        row = subst B (sym is.bytes) (finishable ssid.0 old.room session one ended);
        file = file_is_open ssid.0 old.room session may.between.is one;
        entries = subst I (sym handed) (index_is session one.is_session ended).0;
        many = omega (arith, many, count);
        files = is.files ∙ sym count;
        sections = subst S (sym is.sections) (sections_allowed m ssid session old.room may found is.count);
      })

  pub memory_for_index : HasMemoryForIndex ssid session.reading.entries (finished_parts ssid session) old → TakesMemory (Close ssid.0) old.memory mid.memory
      → HasMemoryForIndex ssid index (closing_change ssid stream) mid
  memory_for_index memory takes =
      let H : List IndexEntry → Type 0 = λ entries. HasMemoryForIndex ssid entries (closing_change ssid stream) mid in
      let C : Change → Type 0 = λ change. HasMemoryForIndex ssid session.reading.entries change mid in
      subst H (sym handed) (subst C (sym (closing_is ssid stream session is)) (record {
        most = memory.most;
        short = memory.short;
        part = memory.part;
        end = memory.end;
        entry = omega (arith, memory.entry, takes.entry);
        entries = omega (arith, memory.entries, takes.catalogue.entries);
        indexes = omega (arith, memory.indexes, takes.catalogue.indexes);
      }))

  -- the effects are those of the session's index
  pub index_effects : second_form mid.room ++ (parts_to (part_count (length index)) m ssid index ++ Enter m (closing_change ssid stream) ∷ [])
      ≡ entering_parts m ssid session old.room
  index_effects =
      ap (λ (room : RoomView). second_form room ++ (parts_to (part_count (length index)) m ssid index ++ Enter m (closing_change ssid stream) ∷ [])) closed
      ∙ ap (λ (entries : List IndexEntry). second_form old.room ++ (parts_to (part_count (length entries)) m ssid entries ++ Enter m (closing_change ssid stream) ∷ [])) handed
      ∙ ap (λ (change : Change). second_form old.room
      ++ (parts_to (part_count (length session.reading.entries)) m ssid session.reading.entries ++ Enter m change ∷ [])) (closing_is ssid stream session is)

-- ---- behind the commits

pub parts_ready_behind : (ssid : Ssid) (old mid : HeldRoom) (session : SessionView) → IsCommittedFrom old mid → IsReadyForParts ssid old session → IsReadyForParts ssid mid session
parts_ready_behind ssid old mid session from ready = record {
  most = ready.most;
  short = ready.short;
  part = ready.part;
  end = ready.end;
  entry = (let same = ap (λ (memory : RoomMemory). memory.entry) from.memory in omega (arith, same, ready.entry));
  entries = (let same = ap (λ (memory : RoomMemory). memory.catalogue.entries) from.memory in omega (arith, same, ready.entries));
  indexes = (let same = ap (λ (memory : RoomMemory). memory.catalogue.indexes) from.memory in omega (arith, same, ready.indexes));
}

-- ---- the answer

stream_answer : (ssid : Ssid) (stream : EndedStream) (session : SessionView) → IsStreamOf stream session → Done (Finished stream.bytes stream.files ssid) ≡ finished ssid session
stream_answer ssid stream session is =
    ap (λ bytes. Done (Finished bytes stream.files ssid)) is.bytes ∙ ap (λ files. Done (Finished session.reading.read files ssid)) is.files

pub answer_is : (ssid : Ssid) (stream : EndedStream) (found : Option SessionView) → IfSome found (IsStreamOf stream)
    → IfSome found (λ session. Done (Finished stream.bytes stream.files ssid) ≡ finished ssid session)
answer_is ssid stream None has = tt
answer_is ssid stream (Some session) has = stream_answer ssid stream session has

pub stream_of : (parts : PartRoom) (room : RoomView) (found : Option SessionView) → IfSome found (IsRoomFor parts room) → IfSome found (IsStreamOf parts.stream)
stream_of parts room None has = tt
stream_of parts room (Some session) has = has.stream
