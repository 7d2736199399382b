use Rattle.std.proofs.Common.{List, subst}
use Rattle.std.specs.Prelude.{Option, Ok}
use Rattle.room_effects.specs.Effects.{Effect}
use Rattle.room_effects.specs.Running.{Does}
use Rattle.room_effects.proofs.Does.{does_none}
use Rattle.save_finish.specs.Parts.{IsForForm}
use Rattle.save_finish.proofs.Waiting.{none_first}
use Rattle.save_finish.proofs.index.to_second_form.Goals as goal

pub returns-in-None-clause-does : goal.returns-in-None-clause-does
returns-in-None-clause-does g c =
    let room = c.args.room.now.room in
    let disk = g.D.Store.view c.args.store.now in
    let D : List Effect → Type 0 = λ effects. Does {T = Unit {0}} effects (Ok tt) room room disk disk in
    let S : Option (List _) → Type 0 = λ snapshot. IsForForm snapshot room in
    subst D (none_first room (subst S c.in-None.is c.requires.snapshot)) (does_none {T = Unit {0}} tt room disk)
