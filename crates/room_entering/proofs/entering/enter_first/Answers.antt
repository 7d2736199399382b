use Rattle.std.proofs.Common.{[], ◌∷◌, ap}
use Rattle.room_effects.specs.View.{RoomView}
use Rattle.room_effects.specs.Effects.{Enter, TurnOver}
use Rattle.room_effects.proofs.Memory.{after_one}
use Rattle.room_entering.proofs.Turning.{can_behind, does_behind, memory_behind, room_is}
use Rattle.room_entering.proofs.entering.enter_first.Goals as goal

pub enter-requires-clause-can : goal.enter-requires-clause-can
enter-requires-clause-can g c =
    let old = c.args.room.now.room in
    let new = c.turn_over.new.self.room in
    let made = after_one {T = Unit {0}} (TurnOver c.args.snapshot.now) c.in-Ok.field-0 old new (g.D.Store.view c.args.store.now) (g.D.Store.view c.turn_over.new.store) c.in-Ok.ensures.does in
    can_behind c.args.snapshot.now c.args.m c.args.change old new c.is_open-is_open.ensures.room c.requires.prepared.file.0 made
    c.requires.opens c.requires.moment c.requires.whole c.requires.fits (c.requires.prepared.short c.args.m)

pub enter-requires-clause-memory : goal.enter-requires-clause-memory
enter-requires-clause-memory g c =
    let old = c.args.room.now.room in
    let new = c.turn_over.new.self.room in
    let made = after_one {T = Unit {0}} (TurnOver c.args.snapshot.now) c.in-Ok.field-0 old new (g.D.Store.view c.args.store.now) (g.D.Store.view c.turn_over.new.store) c.in-Ok.ensures.does in
    memory_behind c.args.snapshot.now c.args.m c.args.change c.args.room.now c.turn_over.new.self
    (ap (λ (one : RoomView). one.catalogue) (room_is c.args.snapshot.now c.args.m c.args.change old new c.is_open-is_open.ensures.room c.requires.prepared.file.0 made))
    c.in-Ok.ensures.memory (c.requires.prepared.memory c.args.m)

pub returns-in-Ok-clause-does : goal.returns-in-Ok-clause-does
returns-in-Ok-clause-does g c =
    does_behind {T = Unit {0}} {U = Unit {0}} c.args.snapshot.now (Enter c.args.m c.args.change ∷ []) c.in-Ok.field-0 c.enter.result
    c.args.room.now.room c.turn_over.new.self.room c.enter.new.self.room
    (g.D.Store.view c.args.store.now) (g.D.Store.view c.turn_over.new.store) (g.D.Store.view c.enter.new.store)
    c.requires.prepared.file.0 c.requires.prepared.file.1.text c.in-Ok.ensures.does c.enter.ensures.does
