use Rattle.room_effects.specs.Effects.{TurnOver}
use Rattle.room_effects.proofs.Memory.{after_one}
use Rattle.save_finish.proofs.Waiting.{between_turn}
use Rattle.save_finish.proofs.index.turn_over.Goals as goal

pub returns-in-Ok-clause-between : goal.returns-in-Ok-clause-between
returns-in-Ok-clause-between g c =
    let old = c.args.room.now.room in
    let new = c.turn_over.new.self.room in
    let made = after_one {T = Unit {0}} (TurnOver c.args.snapshot.now) c.in-Ok.field-0 old new (g.D.Store.view c.args.store.now) (g.D.Store.view c.turn_over.new.store) c.in-Ok.ensures.does in
    between_turn c.args.snapshot.now old new c.requires.between c.is_open-is_turned.ensures.room made
