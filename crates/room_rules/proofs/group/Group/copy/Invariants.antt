use Rattle.std.proofs.Common.{◌≡◌, take}
use Rattle.room_rules.proofs.group.Group.copy.Given as goal

-- those before the index are copied
abbrev pub invariant-loop-member : goal.invariant-loop-member
invariant-loop-member l = l.members.items ≡ take l.member-index l.self.members
