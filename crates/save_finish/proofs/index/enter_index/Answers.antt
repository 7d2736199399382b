use Rattle.std.proofs.Common.{◌∷◌, [], ◌++◌, length}
use Rattle.room_effects.specs.Effects.{Enter}
use Rattle.room_effects.proofs.Does.{does_append}
use Rattle.save_finish.specs.Ending.{part_count, parts_to, second_form}
use Rattle.save_finish.specs.Parts.{closing_change}
use Rattle.save_finish.proofs.index.enter_index.Goals as goal

pub returns-in-Ok-clause-does : goal.returns-in-Ok-clause-does
returns-in-Ok-clause-does g c =
    let index = c.args.index.items in
    let room = c.args.room.now.room in
    does_append {T = Unit {0}} {U = Unit {0}} (second_form room)
    (parts_to (part_count (length index)) c.args.m c.args.ssid index ++ Enter c.args.m (closing_change c.args.ssid c.args.parts.stream) ∷ [])
    c.in-Ok.field-0 c.enter_parts_and_end.result room c.to_second_form.new.room.room c.enter_parts_and_end.new.room.room
    (g.D.Store.view c.args.store.now) (g.D.Store.view c.to_second_form.new.store) (g.D.Store.view c.enter_parts_and_end.new.store)
    c.in-Ok.ensures.does c.enter_parts_and_end.ensures.does
