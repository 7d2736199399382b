use Rattle.snapshot_text.proofs.CanWrite.{rows_can, volumes_can}
use Rattle.snapshot_laws.proofs.Fitting.{indexes_fit, rows_fit}
use Rattle.snapshot_text.proofs.encode.snapshot_into.Goals as goal

pub put_volumes-requires-clause-allowed : goal.put_volumes-requires-clause-allowed
put_volumes-requires-clause-allowed c = volumes_can c.args.parts.now.next_volid.0 c.args.parts.now.db.now.volumes c.requires.allowed.volumes.each

pub put_rows-requires-clause-allowed : goal.put_rows-requires-clause-allowed
put_rows-requires-clause-allowed c =
    rows_can c.args.parts.now.next_ssid.0 c.args.parts.now.index.now.sets c.args.parts.now.db.now.records c.requires.allowed.records.each (λ ssid. (c.requires.allowed.indexes ssid).0)

pub returns-clause-fits : goal.returns-clause-fits
returns-clause-fits c =
    let parts = c.args.parts.now in
    let sets = parts.index.now.sets in
    let rows = parts.db.now.records in
    record {
      pools = c.put_resources.ensures.pools;
      schedules = c.put_resources.ensures.schedules;
      volumes = c.put_volumes.ensures.fits;
      records = rows_fit sets c.args.with_indexes rows c.put_rows.ensures.fits;
      indexes = λ ssid. indexes_fit sets c.args.with_indexes rows ssid c.put_rows.ensures.fits (c.requires.allowed.indexes ssid).1;
    }
