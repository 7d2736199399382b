use Rattle.std.proofs.Common.{◌∷◌, ◌++◌, [], List, length, ap, sym, subst}
use Rattle.save_stream.specs.declared.entry.IndexEntry.{IndexEntry}
use Rattle.save_session.specs.Sessions.{SessionView, find_session}
use Rattle.room_effects.specs.View.{RoomView}
use Rattle.room_effects.specs.Effects.{Close, Enter}
use Rattle.room_effects.specs.Running.{Does}
use Rattle.save_finish.specs.Ended.{HasEnded, HasMany}
use Rattle.save_finish.specs.Ending.{entering_parts, part_count, parts_to, second_form}
use Rattle.save_finish.specs.Parts.{AreListsFor, IsReadyForParts, IsRoomFor, closing_change}
use Rattle.save_finish.proofs.Entering.{between_closed, can_close, index_handed, of_some, there, to_some}
use Rattle.save_finish.proofs.Following.{does_closed}
use Rattle.save_finish.proofs.Handing.{index_effects, may_enter_index, memory_for_index}
use Rattle.save_finish.proofs.Waiting.{form_kept}
use Rattle.save_finish.proofs.parts.close_and_enter.Goals as goal

pub enter_index-requires-clause-between : goal.enter_index-requires-clause-between
enter_index-requires-clause-between g c =
    let room = c.args.room.now.room in
    let found = find_session c.args.ssid.0 room.sessions in
    let it = there HasEnded found c.requires.may.ended in
    between_closed c.args.m c.args.ssid it.one room c.requires.may it.is c.finish_session-index.new.self.room c.finish_session-index.ensures.closed c.is_open-is_closed.ensures.room

pub enter_index-requires-clause-may : goal.enter_index-requires-clause-may
enter_index-requires-clause-may g c =
    let room = c.args.room.now.room in
    let found = find_session c.args.ssid.0 room.sessions in
    let closing = c.finish_session-index in
    let index = closing.result.items in
    let it = there HasEnded found c.requires.may.ended in
    let parts = of_some (IsRoomFor c.args.parts room) found it.one it.is c.requires.parts in
    let handed = index_handed found it.one index it.is closing.ensures.index in
    may_enter_index c.args.m c.args.ssid it.one c.args.parts.stream index c.args.room.now closing.new.self c.requires.may it.is parts.stream handed closing.ensures.closed
    (of_some HasMany found it.one it.is c.requires.many)

pub enter_index-requires-clause-memory : goal.enter_index-requires-clause-memory
enter_index-requires-clause-memory g c =
    let room = c.args.room.now.room in
    let found = find_session c.args.ssid.0 room.sessions in
    let closing = c.finish_session-index in
    let index = closing.result.items in
    let it = there HasEnded found c.requires.may.ended in
    let parts = of_some (IsRoomFor c.args.parts room) found it.one it.is c.requires.parts in
    let handed = index_handed found it.one index it.is closing.ensures.index in
    memory_for_index c.args.m c.args.ssid it.one c.args.parts.stream index c.args.room.now closing.new.self c.requires.may it.is parts.stream handed closing.ensures.closed
    (of_some (IsReadyForParts c.args.ssid c.args.room.now) found it.one it.is c.requires.entries) closing.ensures.memory

pub enter_index-requires-clause-lists : goal.enter_index-requires-clause-lists
enter_index-requires-clause-lists g c =
    let room = c.args.room.now.room in
    let found = find_session c.args.ssid.0 room.sessions in
    let closing = c.finish_session-index in
    let index = closing.result.items in
    let it = there HasEnded found c.requires.may.ended in
    let parts = of_some (IsRoomFor c.args.parts room) found it.one it.is c.requires.parts in
    let handed = index_handed found it.one index it.is closing.ensures.index in
    let L : List IndexEntry → Type 0 = λ entries. AreListsFor (length entries) c.args.parts.lists.items in
    subst L (sym handed) parts.lists

pub enter_index-requires-clause-snapshot : goal.enter_index-requires-clause-snapshot
enter_index-requires-clause-snapshot g c =
    let room = c.args.room.now.room in
    let found = find_session c.args.ssid.0 room.sessions in
    let closing = c.finish_session-index in
    let index = closing.result.items in
    let it = there HasEnded found c.requires.may.ended in
    let parts = of_some (IsRoomFor c.args.parts room) found it.one it.is c.requires.parts in
    let handed = index_handed found it.one index it.is closing.ensures.index in
    let closed = closing.ensures.closed in
    form_kept c.args.parts.snapshot room closing.new.self.room (ap (λ (one : RoomView). one.journal) closed) (ap (λ (one : RoomView). one.catalogue) closed) parts.snapshot

pub returns-clause-does : goal.returns-clause-does
returns-clause-does g c =
    let room = c.args.room.now.room in
    let found = find_session c.args.ssid.0 room.sessions in
    let before = g.D.Store.view c.args.store.now in
    let now = g.D.Store.view c.enter_index.new.store in
    let closing = c.finish_session-index in
    let mid = closing.new.self in
    let index = closing.result.items in
    let stream = c.args.parts.stream in
    let effects = second_form mid.room ++ (parts_to (part_count (length index)) c.args.m c.args.ssid index ++ Enter c.args.m (closing_change c.args.ssid stream) ∷ []) in
    let P : SessionView → Type 0 = λ session. Does {T = Unit {0}} (Close c.args.ssid.0 ∷ entering_parts c.args.m c.args.ssid session room) c.enter_index.result room c.enter_index.new.room.room before now in
    to_some P found (λ session at.
    (let parts = of_some (IsRoomFor c.args.parts room) found session at c.requires.parts in
    let handed = index_handed found session index at closing.ensures.index in
    does_closed c.args.m c.args.ssid effects (entering_parts c.args.m c.args.ssid session room) c.enter_index.result room mid.room c.enter_index.new.room.room before now
    (can_close c.args.ssid.0 room c.requires.may) closing.ensures.closed
    (index_effects c.args.m c.args.ssid session stream index c.args.room.now mid c.requires.may at parts.stream handed closing.ensures.closed) c.enter_index.ensures.does))
