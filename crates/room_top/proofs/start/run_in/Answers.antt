use Rattle.room_disk.specs.Stores.{folder_of}
use Rattle.room_top.proofs.start.run_in.Goals as goal

pub returns-clause-ran : goal.returns-clause-ran
returns-clause-ran g c = (
  record { lock = folder_of c.new-disk.result; faults = record { input = _; disk = _; clock = _ } },
  (record { input = _; disk = _; clock = _ }, c.new-disk.ensures.locked, c.run.ensures.ends),
)
