use Rattle.std.proofs.Common.{ap}
use Rattle.save_session.specs.Sessions.{SessionView, find_session}
use Rattle.room_effects.specs.View.{RoomView}
use Rattle.room_effects.specs.Memory.{HeldRoom}
use Rattle.save_finish.specs.Parts.{IsReadyForParts}
use Rattle.save_finish.proofs.Entering.{session_behind}
use Rattle.save_finish.proofs.Following.{parts_behind, uncommitted}
use Rattle.save_finish.proofs.Handing.{parts_ready_behind}
use Rattle.save_finish.proofs.parts.commit_and_enter.Goals as goal

pub close_and_enter-requires-clause-entries : goal.close_and_enter-requires-clause-entries
close_and_enter-requires-clause-entries g c =
    let old = c.args.room.now in
    let mid = c.commit_held.new.room in
    let P : HeldRoom → SessionView → Type 0 = λ held session. IsReadyForParts c.args.ssid held session in
    session_behind P c.args.ssid.0 old mid c.in-Ok.ensures.committed (λ session ready. parts_ready_behind c.args.ssid old mid session c.in-Ok.ensures.committed ready) c.requires.entries

pub returns-in-Ok-clause-does : goal.returns-in-Ok-clause-does
returns-in-Ok-clause-does g c =
    let from = c.in-Ok.ensures.committed.room in
    parts_behind c.args.m c.args.ssid c.close_and_enter.result c.args.room.now.room c.commit_held.new.room.room c.close_and_enter.new.room.room
    (g.D.Store.view c.args.store.now) (g.D.Store.view c.commit_held.new.store) (g.D.Store.view c.close_and_enter.new.store)
    (ap (λ (room : RoomView). room.sessions) from) (ap (λ (room : RoomView). room.journal) from) (ap (λ (room : RoomView). room.catalogue) from) c.requires.many
    c.in-Ok.ensures.does c.close_and_enter.ensures.does

pub returns-in-Err-clause-does : goal.returns-in-Err-clause-does
returns-in-Err-clause-does g c =
    let room = c.args.room.now.room in
    uncommitted c.args.m c.args.ssid (find_session c.args.ssid.0 room.sessions) c.in-Err.fault room c.commit_held.new.room.room
    (g.D.Store.view c.args.store.now) (g.D.Store.view c.commit_held.new.store) c.in-Err.ensures.does
