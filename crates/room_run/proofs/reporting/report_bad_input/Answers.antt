use Rattle.std.proofs.Common.{List, ℕ, ◌++◌, ◌∙◌, subst}
use Rattle.std.specs.Prelude.{codes}
use Rattle.room_base.specs.Outside.{WritesText}
use Rattle.room_run.specs.Report.{bad_input_line}
use Rattle.room_run.proofs.Lines.{line_written}
use Rattle.room_run.proofs.reporting.report_bad_input.Goals as goal

pub returns-clause-reported : goal.returns-clause-reported
returns-clause-reported g c =
    let old = g.E.Sink.view c.args.err.now in
    let new = g.E.Sink.view c.write_parts.new.sink in
    let P : List ℕ → Type 0 = λ (text : List ℕ). WritesText (codes "room: bad input " ++ (text ++ codes "\n")) old new c.write_parts.result in
    line_written (bad_input_line c.args.offset) old new c.write_parts.result
    (subst P (c.as_bytes-offset.ensures.value ∙ c.format.ensures.text) c.write_parts.ensures.written)
