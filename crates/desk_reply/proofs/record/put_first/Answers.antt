use Rattle.desk_reply.proofs.record.put_first.Goals as goal

pub returns : goal.returns
returns c = rw c.as_str.ensures at c.put_members.ensures
