use Rattle.room_base.specs.declared.fault.Failed.{Failed}
use Rattle.room_effects.proofs.Entering.{does_enter_part, does_enter_part_broken}
use Rattle.room_effects.proofs.deeds.an_entry_of_a_part_is_an_effect.Goals as goal

pub returns : goal.returns
returns g c =
    let before = g.D.Store.view c.args.before.now in
    let now = g.D.Store.view c.args.now.now in
    record {
      done = λ m ssid part index journal bytes room new is can same text written made wrote.
          does_enter_part {T = Unit {0}} {U = Unit {0}} {E = Failed} m ssid part index journal bytes tt tt room new before now is can same text written made
          (g.met.D.Store.is_disk c.args.before.now) wrote;
      broken = λ m ssid part index journal bytes failed room new is can same text written made wrote.
          does_enter_part_broken {T = Unit {0}} {U = Unit {0}} {E = Failed} m ssid part index journal bytes failed room new before now is can same text written made
          (g.met.D.Store.is_disk c.args.now.now) wrote;
    }
