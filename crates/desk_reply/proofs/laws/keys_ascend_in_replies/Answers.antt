use Rattle.desk_reply.proofs.Ascending.{reply_ascends}
use Rattle.desk_reply.proofs.laws.keys_ascend_in_replies.Goals as goal

pub returns : goal.returns
returns c = reply_ascends
