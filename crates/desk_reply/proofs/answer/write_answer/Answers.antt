use Rattle.desk_reply.proofs.answer.write_answer.Goals as goal

pub returns-in-Begun : goal.returns-in-Begun
returns-in-Begun c =
    rw c.in-Begun.is (rw (c.level_word.ensures, c.as_str.ensures) at c.write_object-in-Begun.ensures)

pub returns-in-Shown : goal.returns-in-Shown
returns-in-Shown c = rw c.in-Shown.is c.write_record.ensures
