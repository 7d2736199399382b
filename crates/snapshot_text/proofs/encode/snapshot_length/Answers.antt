use Rattle.std.proofs.Common.{arith}
use Rattle.catalog_spelling.specs.Snapshots.{catalogue_lent}
use Rattle.snapshot_text.proofs.CanWrite.{rows_can, volumes_can}
use Rattle.snapshot_text.proofs.Lengths.{length_snapshot}
use Rattle.snapshot_text.proofs.encode.snapshot_length.Goals as goal

pub volumes_length-volumes-requires : goal.volumes_length-volumes-requires
volumes_length-volumes-requires c = volumes_can c.args.parts.now.next_volid.0 c.args.parts.now.db.now.volumes c.requires.volumes.each

pub rows_length-records-requires : goal.rows_length-records-requires
rows_length-records-requires c =
    rows_can c.args.parts.now.next_ssid.0 c.args.parts.now.index.now.sets c.args.parts.now.db.now.records c.requires.records.each (λ ssid. (c.requires.indexes ssid).0)

pub returns : goal.returns
returns c =
    omega (
      arith,
      c.saturating_add.ensures,
      c.saturating_add-2.ensures,
      c.saturating_add-3.ensures,
      c.saturating_add-4.ensures,
      c.resources_length-resources.ensures,
      c.slots_length-slots.ensures,
      c.volumes_length-volumes.ensures,
      c.rows_length-records.ensures,
      length_snapshot c.args.with_indexes (catalogue_lent c.args.parts.now),
    )
