use Rattle.std.proofs.lemmas.Result.{err_from_is_err_and}
use Rattle.room_base.proofs.Writing.{text_then, text_stopped}
use Rattle.room_base.proofs.refusal_text.write_refusal.Goals as goal

pub returns-in_err-write_title : goal.returns-in_err-write_title
returns-in_err-write_title g c =
    let p = err_from_is_err_and c.from_residual.result c.from_residual.ensures.1 in
    rw p.1 (text_stopped _ _ _ _ c.in_err-write_title.field-0.0 p.0 (c.in_err-write_title.ensures))

pub returns : goal.returns
returns g c = text_then _ _ _ _ _ tt _ c.in_ok-write_title.ensures (rw c.fields.ensures at c.write_fields.ensures)
