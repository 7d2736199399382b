use Rattle.room_effects.specs.Effects.{Enter}
use Rattle.room_effects.proofs.Memory.{after_one}
use Rattle.save_finish.specs.Parts.{closing_change}
use Rattle.save_finish.proofs.Waiting.{between_closing}
use Rattle.save_finish.proofs.index.enter_closing.Goals as goal

pub returns-in-Ok-clause-between : goal.returns-in-Ok-clause-between
returns-in-Ok-clause-between g c =
    let old = c.args.room.now.room in
    let new = c.enter.new.self.room in
    let made = after_one {T = Unit {0}} (Enter c.args.m (closing_change c.args.ssid c.args.stream)) c.in-Ok.field-0 old new (g.D.Store.view c.args.store.now) (g.D.Store.view c.enter.new.store)
    c.in-Ok.ensures.does in
    between_closing c.args.m c.args.ssid c.args.stream old new c.requires.between c.requires.closed c.requires.can c.is_open-is_entered.ensures.room made
