use Rattle.std.specs.Prelude.{[]}
use Rattle.save_session.proofs.Views.{on_ok}
use Rattle.save_append.proofs.sending.prepare.Goals as goal

pub returns-clause-parts : goal.returns-clause-parts
returns-clause-parts c = on_ok c.prepare_push.result (λ ready. ready 1 1 0 []) c.prepare_push.ensures.ready
