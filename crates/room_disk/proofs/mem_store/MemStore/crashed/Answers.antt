use Rattle.std.proofs.Common.{◌≡◌, ◌∙◌, List, sym, ap, subst}
use Rattle.room_disk.specs.declared.disk_event.DiskEvent.{DiskEvent}
use Rattle.room_disk.specs.Crashed.{crashed_file}
use Rattle.room_disk.specs.Memory.{StoreInMemory}
use Rattle.room_disk.specs.Past.{Past, listed, read_after, MayLeave}
use Rattle.room_disk.proofs.Crashing.{may_leave_crashed}
use Rattle.room_disk.proofs.mem_store.MemStore.crashed.Goals as goal

pub returns-clause-possible : goal.returns-clause-possible
returns-clause-possible c file =
    let past : Past = c.self.inside.past in
    let same : past ≡ c.args.self.past = ap (λ (s : StoreInMemory). s.past) c.self.view_is in
    let reads : read_after (listed c.crashed.result.first) c.crashed.result.events file ≡ crashed_file c.part_of.result (listed past.first) past.events file =
    ap (λ (events : List DiskEvent). read_after (listed c.crashed.result.first) events file) c.crashed.ensures.settled ∙ c.crashed.ensures.image file in
    rw (← same) (subst (MayLeave (listed past.first) past.events file) (sym reads)
    (may_leave_crashed c.part_of.result (listed past.first) past.events file))
