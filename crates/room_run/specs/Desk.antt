-- The status by which the command ends that answers requests.
use Rattle.desk.specs.declared.end.DeskEnd.{DeskEnd}
use Rattle.desk.specs.declared.end.DeskEnd.TheVariants as ends
use Rattle.room_run.specs.declared.status.Status.{Status}
use Rattle.room_run.specs.declared.status.Status.TheVariants as status

-- the status of a desk's end
abbrev pub desk_status : DeskEnd → Status
desk_status ends.Done = status.Done
desk_status ends.Memory = status.Memory
desk_status ends.ReadFault = status.ReadFault
desk_status ends.WriteFault = status.WriteFault
desk_status ends.DiskFault = status.DiskFault
desk_status (ends.DamagedJournal file place) = status.DamagedJournal file place
desk_status (ends.BadInput offset) = status.BadInput offset
desk_status ends.ClockFault = status.ClockFault
desk_status ends.InputLimit = status.InputLimit
