use Rattle.std.proofs.Common.{rules}
use Rattle.room_disk.specs.Faults.{no_faults}
use Rattle.room_disk.proofs.fault_counts.FaultCounts.new.Goals as goal

pub returns : goal.returns
unfolding no_faults
returns c = search rules
