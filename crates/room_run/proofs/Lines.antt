-- Lines that are written where errors go.
use Rattle.std.proofs.Common.{List, ℕ, Result, Ok, Err, inl, inr}
use Rattle.room_base.specs.Outside.{SinkView, Told, WritesText}
use Rattle.room_base.specs.declared.fault.Failed.{Failed}
use Rattle.room_run.specs.Report.{WritesLine}

-- a text that was written, or a front of it, is a line that was written so
pub line_written : {T : Type 0} (line : List ℕ) (old new : SinkView) (answer : Result T Failed) → WritesText {T = T} line old new answer
    → Told old.tells (WritesLine line old new)
line_written line old new (Ok done) writes = λ told. inl (writes.written told)
line_written line old new (Err fault) writes = λ told. inr (writes.cause.cause, writes.written told)
