use Rattle.std.proofs.Common.{arith}
use Rattle.snapshot_laws.proofs.Storing.{volumes-ascend}
use Rattle.snapshot_reading.proofs.volumes.read_listed_volumes.Goals as goal

pub returns-in-Ok-clause-order : goal.returns-in-Ok-clause-order
returns-in-Ok-clause-order c = volumes-ascend c.args.next_volid c.args.bytes.now c.in-Ok.volumes c.in-Ok.rest.now (λ i. omega (arith, c.type_inv.bytes i)) c.in-Ok.ensures
