use Rattle.std.proofs.Common.{arith}
use Rattle.snapshot_laws.proofs.Found.{is-head}
use Rattle.snapshot_reading.proofs.records.read_listed.Goals as goal

pub read_fields-requires : goal.read_fields-requires
read_fields-requires c = is-head _ c.args.bytes.now c.in_ok-head.head c.in_ok-head.rest.now (λ i. omega (arith, c.type_inv.bytes i)) c.in_ok-head.ensures
