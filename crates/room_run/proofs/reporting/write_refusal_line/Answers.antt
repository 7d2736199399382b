use Rattle.std.proofs.Common.{◌++◌, Err}
use Rattle.std.specs.Prelude.{codes}
use Rattle.std.proofs.lemmas.Result.{err_from_is_err_and}
use Rattle.room_base.specs.Refusals.{refusal_text}
use Rattle.room_base.proofs.Writing.{text_then, text_stopped}
use Rattle.room_run.proofs.reporting.write_refusal_line.Goals as goal

pub returns-in_err-write_parts : goal.returns-in_err-write_parts
returns-in_err-write_parts g c =
    let p = err_from_is_err_and c.from_residual.result c.from_residual.ensures.1 in
    let text = refusal_text c.args.refusal.now in
    rw p.1 (text_stopped (codes "room: refused ") (text ++ codes "\n") _ _ c.in_err-write_parts.field-0.0 p.0
    c.in_err-write_parts.ensures.written)

pub returns-in_err-write_refusal : goal.returns-in_err-write_refusal
returns-in_err-write_refusal g c =
    let p = err_from_is_err_and c.from_residual-in_err-write_refusal.result c.from_residual-in_err-write_refusal.ensures.1 in
    let text = refusal_text c.args.refusal.now in
    rw p.1 (text_then (codes "room: refused ") (text ++ codes "\n") _ _ _ tt (Err p.0) c.in_ok-write_parts.ensures.written
    (text_stopped text (codes "\n") _ _ c.in_err-write_refusal.field-0.0 p.0 c.in_err-write_refusal.ensures))

pub returns : goal.returns
returns g c =
    let text = refusal_text c.args.refusal.now in
    text_then (codes "room: refused ") (text ++ codes "\n") _ _ _ tt _ c.in_ok-write_parts.ensures.written
    (text_then text (codes "\n") _ _ _ tt _ c.in_ok-write_refusal.ensures c.write_parts-2.ensures.written)
