use Rattle.room_base.specs.declared.fault.Failed.{Failed}
use Rattle.room_effects.proofs.Driving.{does_commit, does_commit_broken}
use Rattle.room_effects.proofs.deeds.a_commit_is_an_effect.Goals as goal

pub returns : goal.returns
returns g c =
    let before = g.D.Store.view c.args.before.now in
    let now = g.D.Store.view c.args.now.now in
    record {
      done = λ drive asking room new is can made wrote.
          does_commit {T = Unit {0}} (Unit {0}) Failed drive asking tt tt room new before now is can made (g.met.D.Store.is_disk c.args.before.now) wrote;
      broken = λ drive asking fault failed room new is can made named wrote.
          does_commit_broken {T = Unit {0}} (Unit {0}) Failed drive asking fault failed room new before now is can made named
          (g.met.D.Store.is_disk c.args.now.now) wrote;
    }
