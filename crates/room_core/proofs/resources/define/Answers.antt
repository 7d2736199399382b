use Rattle.std.proofs.Common.{List, ℕ, subst}
use Rattle.room_effects.specs.Plans.{Follows, Plan}
use Rattle.room_between.proofs.Planning.{between_followed}
use Rattle.room_resources.specs.Defining.{IsDefinePlan}
use Rattle.room_turns.proofs.Quiet.{define_quiet}
use Rattle.room_core.proofs.resources.define.Goals as goal

pub returns-clause-follows : goal.returns-clause-follows
returns-clause-follows g c =
    let room = c.args.room.now.room in
    let P : List ℕ → Type 0 = λ text. (plan : Plan) × IsDefinePlan c.args.m text room plan
    × Follows plan c.define-reply.result room c.define-reply.new.room.room (g.D.Store.view c.args.store.now) (g.D.Store.view c.define-reply.new.store) in
    subst P c.as_slice.ensures c.define-reply.ensures

pub returns-clause-between : goal.returns-clause-between
returns-clause-between g c =
    let room = c.args.room.now.room in
    let done = c.define-reply.ensures in
    between_followed done.0 c.define-reply.result room c.define-reply.new.room.room (g.D.Store.view c.args.store.now) (g.D.Store.view c.define-reply.new.store)
    c.requires.between (define_quiet room.sessions c.args.m c.as_slice.result.now room done.0 done.1) done.2 c.is_open-is_open.ensures.room
