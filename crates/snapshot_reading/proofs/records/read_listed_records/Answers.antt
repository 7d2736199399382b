use Rattle.std.proofs.Common.{arith}
use Rattle.snapshot_laws.proofs.Storing.{records-listed}
use Rattle.snapshot_reading.proofs.records.read_listed_records.Goals as goal

pub returns-in-Ok-clause-listed : goal.returns-in-Ok-clause-listed
returns-in-Ok-clause-listed c = records-listed c.args.next_ssid c.args.indexed c.args.bytes.now c.in-Ok.records c.in-Ok.rest.now (λ i. omega (arith, c.type_inv.bytes i)) c.in-Ok.ensures
