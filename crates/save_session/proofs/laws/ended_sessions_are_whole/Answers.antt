use Rattle.std.proofs.Common.{arith, None, Some}
use Rattle.std.proofs.lemmas.Bool.{cond-true}
use Rattle.std.proofs.lemmas.List.{length-append}
use Rattle.sha2.specs.Sha256.{sha256}
use Rattle.save_stream.specs.Spelling.{head_text}
use Rattle.save_stream.proofs.Fields.{body-ended}
use Rattle.save_session.proofs.laws.ended_sessions_are_whole.Goals as goal

pub returns-clause-read : goal.returns-clause-read
returns-clause-read c = λ session is ended.
    (body-ended session.head session.sent session.reading is.allowed is.bytes is.read ended (omega (arith, is.count, is.size, length-append (head_text session.head) session.sent))).0

pub returns-clause-fields : goal.returns-clause-fields
returns-clause-fields c = λ session is ended. (
  (body-ended session.head session.sent session.reading is.allowed is.bytes is.read ended (omega (arith, is.count, is.size, length-append (head_text session.head) session.sent))).1,
  cond-true session.reading.ended (Some (sha256 session.sent)) None ended,
)
