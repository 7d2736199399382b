use Rattle.desk_reply.proofs.answer.SlotLineShown.write.Goals as goal

pub returns : goal.returns
returns c = rw (c.from.ensures, c.from-2.ensures, c.from-3.ensures) at c.write_object.ensures
