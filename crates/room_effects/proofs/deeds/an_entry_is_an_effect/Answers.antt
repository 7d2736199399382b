use Rattle.room_base.specs.declared.fault.Failed.{Failed}
use Rattle.std.proofs.Common.{ℕ}
use Rattle.room_effects.proofs.Entering.{does_enter, does_enter_broken}
use Rattle.room_effects.proofs.deeds.an_entry_is_an_effect.Goals as goal

pub returns : goal.returns
returns g c =
    let before = g.D.Store.view c.args.before.now in
    let now = g.D.Store.view c.args.now.now in
    record {
      done = λ m change journal bytes number room new is can same text written made wrote.
          does_enter {T = Unit {0}} {U = ℕ} {E = Failed} m change journal bytes tt number room new before now is can same text written made
          (g.met.D.Store.is_disk c.args.before.now) wrote;
      broken = λ m change journal bytes failed room new is can same text written made wrote.
          does_enter_broken {T = Unit {0}} {U = ℕ} {E = Failed} m change journal bytes failed room new before now is can same text written made
          (g.met.D.Store.is_disk c.args.now.now) wrote;
    }
