use Rattle.std.proofs.Common.{List, ℕ, ◌++◌, ◌∙◌, subst}
use Rattle.std.specs.Prelude.{codes}
use Rattle.std.specs.Fmt.{decimal}
use Rattle.room_base.specs.Outside.{WritesText}
use Rattle.room_run.specs.Report.{damaged_line}
use Rattle.room_run.proofs.Lines.{line_written}
use Rattle.room_run.proofs.reporting.report_damaged.Goals as goal

pub returns-clause-reported : goal.returns-clause-reported
returns-clause-reported g c =
    let old = g.E.Sink.view c.args.err.now in
    let new = g.E.Sink.view c.write_parts.new.sink in
    let place = c.as_bytes-place.result.now in
    let P : List ℕ → Type 0 = λ (text : List ℕ). WritesText (codes "room: damaged journal " ++ (text ++ (codes " " ++ (place ++ codes "\n")))) old new c.write_parts.result in
    let Q : List ℕ → Type 0 = λ (text : List ℕ). WritesText (codes "room: damaged journal " ++ (decimal c.args.file ++ (codes " " ++ (text ++ codes "\n")))) old new c.write_parts.result in
    line_written (damaged_line c.args.file c.args.place) old new c.write_parts.result
    (subst Q (c.as_bytes-place.ensures.value ∙ c.format-2.ensures.text)
    (subst P (c.as_bytes-file.ensures.value ∙ c.format.ensures.text) c.write_parts.ensures.written))
