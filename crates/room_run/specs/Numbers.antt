-- The number by which the program ends.
use Rattle.std.specs.Prelude.{ℕ}
use Rattle.room_run.specs.declared.status.Status.{Status}
use Rattle.room_run.specs.declared.status.Status.TheVariants as status

abbrev pub exit_number : Status → ℕ
exit_number status.Done = 0
exit_number (status.Usage word) = 2
exit_number status.Memory = 3
exit_number status.ReadFault = 4
exit_number status.WriteFault = 5
exit_number status.DiskFault = 6
exit_number (status.DamagedJournal file place) = 7
exit_number (status.BadInput offset) = 8
exit_number status.ClockFault = 10
exit_number (status.Refused refusal) = 11
exit_number status.InputLimit = 12
