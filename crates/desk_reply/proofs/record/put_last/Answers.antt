use Rattle.desk_reply.proofs.record.put_last.Goals as goal

pub returns : goal.returns
returns c =
    rw (c.from.ensures, c.as_str.ensures, c.level_word.ensures, c.from-2.ensures, c.as_str-2.ensures, c.as_str-3.ensures, c.record_state_word.ensures)
    at c.put_members.ensures
