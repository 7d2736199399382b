use Rattle.std.proofs.Common.{◌≡◌, ◌-◌, ℕ, List, ap, arith, sym, subst}
use Rattle.std.specs.Option.{option_map}
use Rattle.std.specs.Prelude.{IfSome, Some, Ok, Err, length}
use Rattle.room_command.specs.declared.reply.Reply.TheVariants.{Refused}
use Rattle.save_session.specs.Sessions.{IsOpen, SessionView, find_session, with_piece}
use Rattle.room_base.specs.declared.refusal.Refusal.{Refusal}
use Rattle.room_effects.specs.Memory.{RoomMemory}
use Rattle.room_effects.specs.Running.{Does}
use Rattle.room_placing.specs.Placing.{placing}
use Rattle.room_effects.specs.View.{IsRoom, RoomView}
use Rattle.room_effects.proofs.StayingSessions.{as_many_changed}
use Rattle.room_between.specs.Middle.{EndsWith, IsBetweenBut}
use Rattle.room_between.proofs.Stepping.{taken}
use Rattle.room_effects.specs.Plans.{Follows}
use Rattle.save_append.specs.Appending.{bad_piece, on_drive}
use Rattle.save_append.proofs.Taking.{can_take, ends_with_piece, follows_lost, follows_refused, follows_taken, is_sent_still}
use Rattle.save_append.proofs.sending.take_and_place.Goals as goal

pub place-requires-clause-open : goal.place-requires-clause-open
place-requires-clause-open g c =
    let O : RoomView → Type 0 = λ room. IsOpen c.args.ssid.0 room.sessions in
    subst O (sym c.in-Ok.ensures.taken) (is_sent_still c.args.ssid.0 c.args.piece.now c.args.room.now.room c.requires.open)

pub place-requires-clause-next : goal.place-requires-clause-next
place-requires-clause-next g c =
    let room = c.args.room.now.room in
    let E : RoomView → Type 0 = λ it. IfSome (find_session c.args.ssid.0 it.sessions) (EndsWith c.reader.result.now.read c.args.piece.now) in
    let R : RoomView → Type 0 = λ it. IsRoom it in
    let N : ℕ → Type 0 = λ read. IfSome (find_session c.args.ssid.0 c.take.new.self.room.sessions) (EndsWith read c.args.piece.now) in
    let S : List SessionView → Type 0 = λ sessions. option_map (λ session. session.reading) (find_session c.args.ssid.0 sessions) ≡ Some c.reader.result.now in
    subst N (sym c.read-read.ensures) (subst E (sym c.in-Ok.ensures.taken)
    (ends_with_piece c.args.ssid.0 c.args.piece.now room c.reader.result.now c.requires.between
    (subst R c.in-Ok.ensures.taken c.is_open-still_open.ensures.room) (subst S c.sessions.ensures.sessions c.reader.ensures.value)))

pub place-requires-clause-commits : goal.place-requires-clause-commits
place-requires-clause-commits g c =
    let room = c.args.room.now.room in
    let L : RoomView → Type 0 = λ it. length it.sessions ≡ length room.sessions in
    let as_many = subst L (sym c.in-Ok.ensures.taken) (as_many_changed (with_piece c.args.piece.now) c.args.ssid.0 room.sessions) in
    let kept : c.take.new.self.memory ≡ c.args.room.now.memory = c.take.ensures.memory in
    let closed = ap (λ (memory : RoomMemory). memory.closed) kept in
    omega (arith, c.requires.commits, as_many, closed)

pub place-requires-clause-between : goal.place-requires-clause-between
place-requires-clause-between g c =
    let B : RoomView → Type 0 = λ it. IsBetweenBut c.args.ssid.0 it in
    let R : RoomView → Type 0 = λ it. IsRoom it in
    subst B (sym c.in-Ok.ensures.taken)
    (taken c.args.ssid.0 c.args.piece.now c.args.room.now.room c.requires.between (subst R c.in-Ok.ensures.taken c.is_open-still_open.ensures.room))

pub returns-in-Ok-place-clause-follows : goal.returns-in-Ok-place-clause-follows
returns-in-Ok-place-clause-follows g c =
    let room = c.args.room.now.room in
    let mid = c.take.new.self.room in
    let new = c.place.new.room.room in
    let before = g.D.Store.view c.args.store.now in
    let now = g.D.Store.view c.place.new.store in
    let ssid = c.args.ssid.0 in
    let piece = c.args.piece.now in
    let R : List SessionView → Type 0 = λ sessions. option_map (λ session. session.reading) (find_session ssid sessions) ≡ Some c.reader.result.now in
    let N : List SessionView → Type 0 = λ sessions. option_map (λ session. length session.sent) (find_session ssid sessions) ≡ Some c.next-next.result in
    let D : ℕ → Type 0 = λ read. Does {T = Unit {0}} (placing c.args.drive ssid read piece mid) (Ok tt) mid new before now in
    follows_taken ssid c.args.drive piece room mid new before now c.reader.result.now c.next-next.result (find_session ssid room.sessions)
    (subst R c.sessions.ensures.sessions c.reader.ensures.value) (subst N c.sessions-2.ensures.sessions c.next-next.ensures) c.in-Ok.ensures.judged c.in-Ok.ensures.taken
    (can_take ssid piece room c.requires.opens c.requires.open c.requires.size) (subst D c.read-read.ensures c.in-Ok-place.ensures.does)

pub returns-in-Err-place-clause-follows : goal.returns-in-Err-place-clause-follows
returns-in-Err-place-clause-follows g c =
    let room = c.args.room.now.room in
    let mid = c.take.new.self.room in
    let new = c.place.new.room.room in
    let before = g.D.Store.view c.args.store.now in
    let now = g.D.Store.view c.place.new.store in
    let ssid = c.args.ssid.0 in
    let piece = c.args.piece.now in
    let fault = c.in-Err-place.fault in
    let R : List SessionView → Type 0 = λ sessions. option_map (λ session. session.reading) (find_session ssid sessions) ≡ Some c.reader.result.now in
    let D : ℕ → Type 0 = λ read. Does {T = Unit {0}} (placing c.args.drive ssid read piece mid) (Err fault) mid new before now in
    follows_lost ssid c.args.drive piece room mid new before now c.reader.result.now fault (find_session ssid room.sessions)
    (subst R c.sessions.ensures.sessions c.reader.ensures.value) c.in-Ok.ensures.judged c.in-Ok.ensures.taken
    (can_take ssid piece room c.requires.opens c.requires.open c.requires.size) (subst D c.read-read.ensures c.in-Err-place.ensures.does)

pub returns-in-Err-clause-follows : goal.returns-in-Err-clause-follows
returns-in-Err-clause-follows g c =
    let room = c.args.room.now.room in
    let disk = g.D.Store.view c.args.store.now in
    let ssid = c.args.ssid.0 in
    let piece = c.args.piece.now in
    let fault = c.in-Err.fault in
    let R : List SessionView → Type 0 = λ sessions. option_map (λ session. session.reading) (find_session ssid sessions) ≡ Some c.reader.result.now in
    let N : List SessionView → Type 0 = λ sessions. option_map (λ session. length session.sent) (find_session ssid sessions) ≡ Some c.next-next.result in
    let Follow : Refusal → RoomView → Type 0 = λ refusal new. IfSome (find_session ssid room.sessions)
    (λ session. Follows (on_drive (Some c.args.drive) ssid piece session room) (Refused refusal) room new disk disk) in
    let A : Refusal → Type 0 = λ refusal. Follow refusal c.take.new.self.room in
    let S : ℕ → Type 0 = λ read. A (bad_piece (read - c.next-next.result) fault) in
    let F : RoomView → Type 0 = λ new. Follow (bad_piece (c.reader.result.now.read - c.next-next.result) fault) new in
    subst A (sym c.bad_piece.ensures) (subst S (sym c.read-read.ensures) (subst F (sym c.in-Err.ensures.kept)
    (follows_refused ssid c.args.drive piece room disk c.reader.result.now c.next-next.result fault c.requires.between.is
    (subst R c.sessions.ensures.sessions c.reader.ensures.value) (subst N c.sessions-2.ensures.sessions c.next-next.ensures) c.in-Err.ensures.judged)))
