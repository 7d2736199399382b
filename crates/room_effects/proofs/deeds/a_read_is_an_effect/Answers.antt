use Rattle.room_effects.proofs.Looking.{does_look, does_look_broken}
use Rattle.room_effects.proofs.deeds.a_read_is_an_effect.Goals as goal

pub returns : goal.returns
returns g c =
    let before = g.D.Store.view c.args.before.now in
    let now = g.D.Store.view c.args.now.now in
    record {
      done = λ cart seen room can later tells quiet settled is.
          does_look {T = Unit {0}} cart seen tt room before now can (record { later = later; tells = tells; quiet = quiet })
          (λ told. record { settled = settled told; is = is told });
      broken = λ cart seen room can later tells quiet rose.
          does_look_broken {T = Unit {0}} cart seen room before now can (record { later = later; tells = tells; quiet = quiet }) rose;
    }
