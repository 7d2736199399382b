use Rattle.std.proofs.Common.{◌∙◌, length}
use Rattle.room_base.specs.declared.fault.Failed.{Failed}
use Rattle.room_effects.proofs.Entering.{does_turn_over, does_turn_over_broken, does_turn_over_last, turned_on}
use Rattle.room_effects.proofs.deeds.a_turn_over_is_an_effect.Goals as goal

pub returns : goal.returns
returns g c =
    let before = g.D.Store.view c.args.before.now in
    let now = g.D.Store.view c.args.now.now in
    record {
      last = λ snapshot room can last. does_turn_over_last {T = Unit {0}} snapshot tt room before can last;
      done = λ snapshot journal room new is can same next allowed made wrote.
          does_turn_over {T = Unit {0}} {U = Unit {0}} {E = Failed} snapshot journal tt tt room new before now is can same next allowed
          (made ∙ turned_on (length snapshot) room next) (g.met.D.Store.is_disk c.args.before.now) wrote;
      broken = λ snapshot journal failed room new is can same next made wrote.
          does_turn_over_broken {T = Unit {0}} {U = Unit {0}} {E = Failed} snapshot journal failed room new before now is can same next made
          (g.met.D.Store.is_disk c.args.now.now) wrote;
    }
