use Rattle.desk_reply.proofs.Lists.{list_closed}
use Rattle.desk_reply.proofs.shown.write_list.Goals as goal

pub returns : goal.returns
returns g c =
    list_closed g.T.Shown.json c.args.list.now _ _ c.args.out.now _ _ c.loop-one-test.false
    c.loop-one.invariant.tokens c.loop-one.invariant.before c.end_array.ensures
