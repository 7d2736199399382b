use Rattle.desk_reply.proofs.reply.reply_text.Goals as goal

pub returns-clause-text : goal.returns-clause-text
returns-clause-text c =
    rw (c.deref.ensures.value, c.in_ok-body.ensures.text, c.status.ensures) at c.with_head.ensures.text
