use Rattle.std.proofs.Common.{inl, inr}
use Rattle.room_effects.specs.View.{opened_room}
use Rattle.desk.proofs.Crashes.{none_headline}
use Rattle.desk.proofs.laws.crashes_keep_the_trail.Goals as goal

pub returns : goal.returns
returns g c = λ end passages entry told all runs.
    let before = g.D.Store.view c.args.before.now in
    let now = g.D.Store.view c.args.now.now in
    let is_disk = g.met.D.Store.is_disk c.args.before.now in
    elim runs [
      | inl room ↦ (opened_room room.opening.catalogue room.opening.journal, (room.room, room.headline told entry all))
      | inr none ↦ none_headline passages entry before now is_disk told all end none
    ]
