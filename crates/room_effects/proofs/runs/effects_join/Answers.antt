use Rattle.room_effects.proofs.Does.{does_append, does_none, does_stop}
use Rattle.room_effects.proofs.runs.effects_join.Goals as goal

pub returns : goal.returns
returns g c =
    let old = g.D.Store.view c.args.old.now in
    let mid = g.D.Store.view c.args.mid.now in
    let new = g.D.Store.view c.args.new.now in
    record {
      none = λ room. does_none {T = Unit {0}} tt room old;
      append = λ first more answer one two three here there. does_append {T = Unit {0}} {U = Unit {0}} first more tt answer one two three old mid new here there;
      stop = λ first more fault one two here. does_stop {T = Unit {0}} {U = Unit {0}} first more fault one two old new here;
    }
