use Rattle.room_base.specs.declared.fault.Failed.{Failed}
use Rattle.room_effects.proofs.Looking.{does_write_label, does_write_label_broken}
use Rattle.room_effects.proofs.deeds.a_label_is_an_effect.Goals as goal

pub returns : goal.returns
returns g c =
    let before = g.D.Store.view c.args.before.now in
    let now = g.D.Store.view c.args.now.now in
    record {
      done = λ label room can wrote.
          does_write_label {T = Unit {0}} {U = Unit {0}} {E = Failed} label tt tt room before now can (g.met.D.Store.is_disk c.args.before.now) wrote;
      broken = λ label failed room can wrote.
          does_write_label_broken {T = Unit {0}} {U = Unit {0}} {E = Failed} label failed room before now can (g.met.D.Store.is_disk c.args.now.now) wrote;
    }
