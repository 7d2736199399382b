use Rattle.room_between.proofs.Planning.{between_done, between_followed}
use Rattle.room_between.proofs.plans.between_behind_quiet_plans.Goals as goal

pub returns : goal.returns
returns g c =
    let before = g.D.Store.view c.args.before.now in
    let now = g.D.Store.view c.args.now.now in
    record {
      effects = λ effects answer old new is quiet does there. between_done {T = Unit {0}} effects answer old new before now is quiet does there;
      follows = λ plan answer old new is quiet follows there. between_followed plan answer old new before now is quiet follows there;
    }
