-- A piece that the session's reader has judged.
use Rattle.std.proofs.Common.{◌≡◌, ℕ, ◌+◌, ◌-◌, ◌≤◌, List, ◌∷◌, length, refl, sym, ap, ◌∙◌, subst, arith}
use Rattle.std.proofs.lemmas.Cmp.{nat_cmp_total}
use Rattle.std.proofs.lemmas.Bool.{cond-true}
use Rattle.std.proofs.lemmas.List.{length-append}
use Rattle.std.specs.Option.{option_map}
use Rattle.std.specs.Prelude.{Option, Some, None, IfSome, IsSome, IsSomeAnd, IsTrue, Result, Ok, Err}
use Rattle.room_base.proofs.OrderedLaws.{each_found, found_updated}
use Rattle.room_base.proofs.OrderedNumbers.{same_number}
use Rattle.room_base.specs.declared.refusal.Refusal.{Refusal}
use Rattle.room_base.specs.declared.refusal.Refusal.TheVariants.{NoMemory}
use Rattle.room_disk.specs.Disk.{DiskView}
use Rattle.save_stream.specs.declared.fault.StreamFault.{StreamFault}
use Rattle.save_stream.specs.declared.fault.StreamFault.TheVariants as faults
use Rattle.save_stream.specs.Reading.{Reading, reads}
use Rattle.save_stream.specs.Spelling.{head_text, max_size}
use Rattle.save_session.specs.Sessions.{FollowsPiece, IsOpen, SessionView, change_session, find_session, ssid_of, with_piece}
use Rattle.save_session.proofs.Leaving.{found_is}
use Rattle.room_command.specs.declared.answer.Answer.TheVariants.{Next}
use Rattle.room_command.specs.declared.reply.Reply.TheVariants.{Done, Refused}
use Rattle.room_effects.specs.View.{IsBetweenCommands, IsPushed, IsRoom, RoomView}
use Rattle.room_effects.specs.Effects.{Take, after_done}
use Rattle.room_effects.specs.Needs.{CanDo, HasStreamRoom}
use Rattle.room_effects.specs.Running.{Does}
use Rattle.room_effects.proofs.Does.{does_then}
use Rattle.room_effects.proofs.Sending.{does_take}
use Rattle.room_between.specs.Middle.{EndsWith}
use Rattle.room_effects.specs.Plans.{Follows, Plan, Refuse}
use Rattle.room_effects.proofs.Following.{follows_done, follows_fault, follows_no_memory, follows_refusal}
use Rattle.room_placing.specs.Placing.{placing}
use Rattle.save_append.specs.Appending.{bad_piece, judged, on_drive, taking}

-- ---- what the session is behind it

module _ (ssid : ℕ) (piece : List ℕ) (room : RoomView) where
  pub can_take : IsTrue room.is_open → IsOpen ssid room.sessions → IfSome (find_session ssid room.sessions) (λ session. session.reading.read + length piece ≤ max_size)
      → CanDo (Take ssid piece) room
  can_take opens is_sent size = record { opens = opens; needs = by (find_session ssid room.sessions) is_sent size }
    where
      by : (found : Option SessionView) → IsSome found → IfSome found (λ session. session.reading.read + length piece ≤ max_size)
          → IsSomeAnd found (HasStreamRoom (length piece))
      by None some size = absurd (cc some)
      by (Some session) some size = size

  found_behind : find_session ssid (change_session ssid (with_piece piece) room.sessions) ≡ option_map (with_piece piece) (find_session ssid room.sessions)
  found_behind =
      found_updated nat_cmp_total ssid_of (with_piece piece) (λ session. refl) ssid ssid room.sessions ∙ cond-true _ _ _ (same_number ssid)

  pub is_sent_still : IsOpen ssid room.sessions → IsOpen ssid (change_session ssid (with_piece piece) room.sessions)
  is_sent_still is_sent =
      let O : Option SessionView → Type 0 = λ it. IsSome it in
      subst O (sym found_behind) (by (find_session ssid room.sessions) is_sent)
    where
      by : (found : Option SessionView) → IsSome found → IsSome (option_map (with_piece piece) found)
      by None some = absurd (cc some)
      by (Some session) some = refl

  -- the piece is what it was sent last
  pub ends_with_piece : (reading : Reading) → IsBetweenCommands room → IsRoom (after_done (Take ssid piece) room)
      → option_map (λ session. session.reading) (find_session ssid room.sessions) ≡ Some reading
      → IfSome (find_session ssid (change_session ssid (with_piece piece) room.sessions)) (EndsWith reading.read piece)
  ends_with_piece reading between still is =
      let E : Option SessionView → Type 0 = λ it. IfSome it (EndsWith reading.read piece) in
      subst E (sym found_behind) (by (find_session ssid room.sessions) refl is)
    where
      by : (found : Option SessionView) → find_session ssid room.sessions ≡ found → option_map (λ session. session.reading) found ≡ Some reading
          → IfSome (option_map (with_piece piece) found) (EndsWith reading.read piece)
      by None found is = tt
      by (Some session) found is =
          let same : session.reading ≡ reading = cc is in
          let was = found_is ssid session room.sessions between.is.sessions found in
          let now = found_is ssid (with_piece piece session) (change_session ssid (with_piece piece) room.sessions) still.sessions
          (found_behind ∙ ap (option_map (with_piece piece)) found) in
          let pushed : IsPushed session = each_found nat_cmp_total ssid_of IsPushed ssid session room.sessions between.pushed found in
          record {
            from = rw (sym same) (sym pushed);
            to = rw (sym same) (omega (arith, was.count, now.count, length-append session.sent piece));
          }

-- ---- the plan

module _ (ssid drive : ℕ) (piece : List ℕ) (room mid new : RoomView) (before now : DiskView) where
  -- the reader takes it
  will_take : (session : SessionView) → FollowsPiece {X = Unit {0}} piece session (Ok tt)
      → on_drive (Some drive) ssid piece session room ≡ taking drive ssid piece session room
  will_take session is =
      ap (λ (result : Result Reading StreamFault). judged result (length (head_text session.head)) (taking drive ssid piece session room)) is

  sent_effects : (session : SessionView) (answer : Result (Unit {0}) Refusal) → mid ≡ after_done (Take ssid piece) room → CanDo (Take ssid piece) room
      → Does (placing drive ssid session.reading.read piece mid) answer mid new before now
      → Does (Take ssid piece ∷ placing drive ssid session.reading.read piece room) answer room new before now
  sent_effects session answer made can does =
      let P : RoomView → Type 0 = λ it. Does (placing drive ssid session.reading.read piece it) answer mid new before now in
      does_then {T = Unit {0}} {U = Unit {0}} (Take ssid piece) (placing drive ssid session.reading.read piece room) tt answer room mid new before before now
      (does_take {T = Unit {0}} ssid piece tt room mid before can made) (subst P made does)

  pub follows_taken : (reading : Reading) (next : ℕ) (found : Option SessionView) → option_map (λ session. session.reading) found ≡ Some reading
      → option_map (λ session. length session.sent) found ≡ Some next → IfSome found (λ session. FollowsPiece {X = Unit {0}} piece session (Ok tt))
      → mid ≡ after_done (Take ssid piece) room → CanDo (Take ssid piece) room
      → Does {T = Unit {0}} (placing drive ssid reading.read piece mid) (Ok tt) mid new before now
      → IfSome found (λ session. Follows (on_drive (Some drive) ssid piece session room) (Done (Next (next + length piece))) room new before now)
  follows_taken reading next None is sent reads made can does = tt
  follows_taken reading next (Some session) is sent reads made can does =
      let same : reading ≡ session.reading = cc is in
      let as_many : length session.sent ≡ next = cc sent in
      let D : Reading → Type 0 = λ it. Does {T = Unit {0}} (placing drive ssid it.read piece mid) (Ok tt) mid new before now in
      let N : ℕ → Type 0 = λ it. Follows (taking drive ssid piece session room) (Done (Next (it + length piece))) room new before now in
      let F : Plan → Type 0 = λ plan. Follows plan (Done (Next (next + length piece))) room new before now in
      subst F (sym (will_take session reads)) (subst N as_many
      (follows_done (Take ssid piece ∷ placing drive ssid session.reading.read piece room) (Done (Next (length session.sent + length piece))) room new before now
      (sent_effects session (Ok tt) made can (subst D same does))))

  pub follows_lost : (reading : Reading) (fault : Refusal) (found : Option SessionView) → option_map (λ session. session.reading) found ≡ Some reading
      → IfSome found (λ session. FollowsPiece {X = Unit {0}} piece session (Ok tt))
      → mid ≡ after_done (Take ssid piece) room → CanDo (Take ssid piece) room
      → Does {T = Unit {0}} (placing drive ssid reading.read piece mid) (Err fault) mid new before now
      → IfSome found (λ session. Follows (on_drive (Some drive) ssid piece session room) (Refused fault) room new before now)
  follows_lost reading fault None is reads made can does = tt
  follows_lost reading fault (Some session) is reads made can does =
      let same : reading ≡ session.reading = cc is in
      let D : Reading → Type 0 = λ it. Does {T = Unit {0}} (placing drive ssid it.read piece mid) (Err fault) mid new before now in
      let F : Plan → Type 0 = λ plan. Follows plan (Refused fault) room new before now in
      subst F (sym (will_take session reads))
      (follows_fault (Take ssid piece ∷ placing drive ssid session.reading.read piece room) (Done (Next (length session.sent + length piece))) room new before now fault
      (sent_effects session (Err fault) made can (subst D same does)))

-- the reader doesn't take it
module _ (ssid drive : ℕ) (piece : List ℕ) (room : RoomView) (disk : DiskView) where
  follows_bad : (session : SessionView) (head : ℕ) (fault : StreamFault) → head ≡ length (head_text session.head) → FollowsPiece {X = Unit {0}} piece session (Err fault)
      → Follows (on_drive (Some drive) ssid piece session room) (Refused (bad_piece head fault)) room room disk disk
  follows_bad session head (faults.Bad offset) same is =
      let J : Result Reading StreamFault → Type 0 = λ it. Follows (judged it (length (head_text session.head)) (taking drive ssid piece session room))
      (Refused (bad_piece head (faults.Bad offset))) room room disk disk in
      let H : ℕ → Type 0 = λ it. Follows (Refuse (bad_piece it (faults.Bad offset))) (Refused (bad_piece head (faults.Bad offset))) room room disk disk in
      subst J (sym is) (subst H same (follows_refusal (bad_piece head (faults.Bad offset)) room disk))
  follows_bad session head (faults.TooMany limit) same is =
      let J : Result Reading StreamFault → Type 0 = λ it. Follows (judged it (length (head_text session.head)) (taking drive ssid piece session room))
      (Refused (bad_piece head (faults.TooMany limit))) room room disk disk in
      subst J (sym is) (follows_refusal (bad_piece head (faults.TooMany limit)) room disk)
  follows_bad session head faults.Memory same is = follows_no_memory (on_drive (Some drive) ssid piece session room) room disk

  pub follows_refused : (reading : Reading) (next : ℕ) (fault : StreamFault) → IsRoom room
      → option_map (λ session. session.reading) (find_session ssid room.sessions) ≡ Some reading
      → option_map (λ session. length session.sent) (find_session ssid room.sessions) ≡ Some next
      → IfSome (find_session ssid room.sessions) (λ session. FollowsPiece {X = Unit {0}} piece session (Err fault))
      → IfSome (find_session ssid room.sessions)
      (λ session. Follows (on_drive (Some drive) ssid piece session room) (Refused (bad_piece (reading.read - next) fault)) room room disk disk)
  follows_refused reading next fault is_room is sent reads = by (find_session ssid room.sessions) refl is sent reads
    where
      by : (found : Option SessionView) → find_session ssid room.sessions ≡ found → option_map (λ session. session.reading) found ≡ Some reading
          → option_map (λ session. length session.sent) found ≡ Some next → IfSome found (λ session. FollowsPiece {X = Unit {0}} piece session (Err fault))
          → IfSome found (λ session. Follows (on_drive (Some drive) ssid piece session room) (Refused (bad_piece (reading.read - next) fault)) room room disk disk)
      by None found is sent reads = tt
      by (Some session) found is sent reads =
          let same : session.reading ≡ reading = cc is in
          let as_many : length session.sent ≡ next = cc sent in
          let was = found_is ssid session room.sessions is_room.sessions found in
          let R : Reading → Type 0 = λ it. it.read ≡ length (head_text session.head) + length session.sent in
          let count = subst R same was.count in
          follows_bad session (reading.read - next) fault (omega (arith, count, as_many)) reads

  -- there is no memory
  pub follows_nothing : (found : Option SessionView) → IfSome found (λ session. Follows (on_drive (Some drive) ssid piece session room) (Refused NoMemory) room room disk disk)
  follows_nothing None = tt
  follows_nothing (Some session) = follows_no_memory (on_drive (Some drive) ssid piece session room) room disk
