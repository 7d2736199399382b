use Rattle.std.proofs.Common.{map, arith}
use Rattle.desk_reply.specs.Members.{member_of}
use Rattle.desk_reply.proofs.Lists.{object_closed}
use Rattle.desk_reply.proofs.member.write_object.Goals as goal

pub returns : goal.returns
returns c =
    object_closed (map member_of c.args.members.now) _ c.args.out.now _ _ (grind arith) (grind arith) c.end_object.ensures
