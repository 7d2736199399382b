use Rattle.std.proofs.lemmas.Result.{err_from_is_err_and}
use Rattle.journal_replay.proofs.Answering.{fault_told}
use Rattle.journal_replay.proofs.replaying.replay_opened.Goals as goal

pub returns-in_err-catalogue-clause-told : goal.returns-in_err-catalogue-clause-told
returns-in_err-catalogue-clause-told c = λ files gives.
    let p = err_from_is_err_and c.from_residual.result c.from_residual.ensures.1 in
    rw (p.1, p.2) (fault_told files c.in_err-catalogue.field-0.0 (c.in_err-catalogue.ensures.told files gives))
