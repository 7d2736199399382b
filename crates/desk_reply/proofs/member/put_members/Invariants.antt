use Rattle.std.proofs.Common.{◌≡◌, ◌++◌, take, map}
use Rattle.desk_reply.specs.Members.{member_of}
use Rattle.desk_reply.specs.Writing.{list_tokens}
use Rattle.desk_reply.proofs.member.put_members.Given as goal

abbrev pub invariant-loop-member : goal.invariant-loop-member
invariant-loop-member l = record {
  tokens : l.out.tokens ≡ l.fn.out.tokens ++ list_tokens (map member_of (take l.member-index l.members));
  before : l.out.before ≡ l.fn.out.before;
}
