use Rattle.std.proofs.Common.{ap}
use Rattle.std.proofs.lemmas.Result.{err_from_is_err_and}
use Rattle.room_base.specs.Refusals.{field_label, value_text, value_of}
use Rattle.room_base.proofs.Writing.{text_then, text_stopped, text_same}
use Rattle.room_base.proofs.refusal_text.write_field.Goals as goal

pub returns-in_err-write_parts : goal.returns-in_err-write_parts
returns-in_err-write_parts g c =
    let p = err_from_is_err_and c.from_residual.result c.from_residual.ensures.1 in
    let label = field_label c.args.field.now.name.now in
    let value = value_text (value_of c.args.field.now.value) in
    let same = ap field_label c.as_bytes.ensures.value in
    rw p.1 (text_stopped label value _ _ c.in_err-write_parts.field-0.0 p.0
    (text_same _ label _ _ _ same c.in_err-write_parts.ensures.written))

pub returns : goal.returns
returns g c =
    let label = field_label c.args.field.now.name.now in
    let value = value_text (value_of c.args.field.now.value) in
    let same = ap field_label c.as_bytes.ensures.value in
    text_then label value _ _ _ tt _ (text_same _ label _ _ _ same c.in_ok-write_parts.ensures.written) c.write_value.ensures
