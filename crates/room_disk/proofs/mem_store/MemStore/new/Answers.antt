use Rattle.room_disk.specs.Memory.{StoreInMemory}
use Rattle.room_disk.proofs.Beginning.{begins_blank}
use Rattle.room_disk.proofs.mem_store.MemStore.new.Goals as goal

pub returns-clause-blank : goal.returns-clause-blank
returns-clause-blank c =
    let store : StoreInMemory = record { past = c.new.result; calls = c.new-2.result; left = c.args.stop; faults = c.new-3.result; short = 0 } in
    begins_blank store c.new.ensures c.new-3.ensures
