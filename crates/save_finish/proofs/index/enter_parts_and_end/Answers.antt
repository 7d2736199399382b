use Rattle.std.proofs.Common.{◌∷◌, [], length}
use Rattle.room_effects.specs.Effects.{Enter}
use Rattle.room_effects.proofs.Does.{does_append, does_stop}
use Rattle.save_finish.specs.Ending.{part_count, parts_to}
use Rattle.save_finish.specs.Parts.{closing_change}
use Rattle.save_finish.proofs.index.enter_parts_and_end.Goals as goal

pub returns-in-Ok-clause-does : goal.returns-in-Ok-clause-does
returns-in-Ok-clause-does g c =
    let index = c.args.index.items in
    does_append {T = Unit {0}} {U = Unit {0}} (parts_to (part_count (length index)) c.args.m c.args.ssid index) (Enter c.args.m (closing_change c.args.ssid c.args.stream) ∷ [])
    c.in-Ok.field-0 c.enter_closing.result c.args.room.now.room c.enter_parts.new.room.room c.enter_closing.new.room.room
    (g.D.Store.view c.args.store.now) (g.D.Store.view c.enter_parts.new.store) (g.D.Store.view c.enter_closing.new.store) c.in-Ok.ensures.does c.enter_closing.ensures.does

pub returns-in-Err-clause-does : goal.returns-in-Err-clause-does
returns-in-Err-clause-does g c =
    let index = c.args.index.items in
    does_stop {T = Unit {0}} {U = Unit {0}} (parts_to (part_count (length index)) c.args.m c.args.ssid index) (Enter c.args.m (closing_change c.args.ssid c.args.stream) ∷ [])
    c.in-Err.fault c.args.room.now.room c.enter_parts.new.room.room (g.D.Store.view c.args.store.now) (g.D.Store.view c.enter_parts.new.store) c.in-Err.ensures.does
