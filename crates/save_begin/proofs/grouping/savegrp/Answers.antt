use Rattle.std.proofs.Common.{◌≡◌, ◌⊎◌, ℕ, List, refl, subst, sym, inr}
use Rattle.std.specs.Prelude.{Option, codes}
use Rattle.room_base.specs.declared.refusal.Refusal.TheVariants.{NoMemory, NoSuch}
use Rattle.room_rules.specs.declared.schedule.Schedule.{Schedule}
use Rattle.sched_levels.specs.Plans.{IsPlan}
use Rattle.save_begin.specs.Asking.{scheduled}
use Rattle.save_begin.proofs.Planned.{group_planned, group_unplanned, no_group}
use Rattle.save_begin.proofs.grouping.savegrp.Goals as goal

pub returns-in-Ok : goal.returns-in-Ok
returns-in-Ok g c =
    let room = c.args.room.now.room in
    let one = c.in-Some.one.now in
    let A : Option Schedule → Type 0 = λ schedule. IsPlan room.catalogue.records (scheduled schedule c.args.m) one.members c.in-Ok.plan in
    group_planned c.args.m c.args.group.now room (g.D.Store.view c.args._store.now) one c.in-Ok.plan c.in-Some.ensures.found.0
    (subst A (sym c.in-Some.ensures.found.1) c.in-Ok.ensures)

pub returns-in-Err : goal.returns-in-Err
returns-in-Err g c =
    group_unplanned c.args.m c.args.group.now c.args.room.now.room (g.D.Store.view c.args._store.now) c.in-Some.one.now c.in-Some.ensures.found.0

pub returns-in-Ok-copy : goal.returns-in-Ok-copy
returns-in-Ok-copy g c =
    let S : List ℕ → Type 0 = λ name. (c.no_such_name.result ≡ NoSuch (codes "group") name) ⊎ (c.no_such_name.result ≡ NoMemory) in
    no_group c.args.m c.args.group.now c.args.room.now.room (g.D.Store.view c.args._store.now) c.no_such_name.result c.in-None.ensures.found
    (subst S c.in-Ok-copy.ensures c.no_such_name.ensures)

pub returns-in-Err-copy : goal.returns-in-Err-copy
returns-in-Err-copy g c =
    no_group c.args.m c.args.group.now c.args.room.now.room (g.D.Store.view c.args._store.now) NoMemory c.in-None.ensures.found (inr refl)
