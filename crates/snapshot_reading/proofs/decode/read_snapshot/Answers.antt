use Rattle.std.proofs.Common.{arith}
use Rattle.snapshot_laws.proofs.CatalogueRules.{is-spelled}
use Rattle.snapshot_reading.proofs.decode.read_snapshot.Goals as goal

pub returns-in-Ok-snapshot_of-clause-spelled : goal.returns-in-Ok-snapshot_of-clause-spelled
returns-in-Ok-snapshot_of-clause-spelled c =
    is-spelled c.args.with_indexes c.args.bytes.now c.in-Ok-snapshot_of.snapshot (λ i. omega (arith, c.type_inv.bytes i)) (record { fields = c.in-Ok.fields; read = c.in-Ok.ensures.read; made = c.in-Ok-snapshot_of.ensures })
