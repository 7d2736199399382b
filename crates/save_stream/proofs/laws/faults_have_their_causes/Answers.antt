use Rattle.save_stream.proofs.Faults.{has-fault}
use Rattle.save_stream.proofs.Stopping.{bad-is-fault, many-is-fault}
use Rattle.save_stream.specs.declared.fault.StreamFault.TheVariants.{Bad, TooMany}
use Rattle.save_stream.proofs.laws.faults_have_their_causes.Goals as goal

pub returns-clause-bad : goal.returns-clause-bad
returns-clause-bad c = λ stream offset. (has-fault stream (Bad offset), bad-is-fault stream offset)

pub returns-clause-many : goal.returns-clause-many
returns-clause-many c = λ stream limit. (has-fault stream (TooMany limit), λ is. many-is-fault stream limit is.1.0 is.0 is.1.1)
