use Rattle.std.proofs.Common.{◌≡◌, ◌∙◌, ◌⊎◌, ◌∷◌, ap}
use Rattle.room_disk.specs.declared.disk_event.DiskEvent.TheVariants.{Synced}
use Rattle.room_disk.specs.Memory.{StoreInMemory}
use Rattle.room_disk.specs.Past.{Past}
use Rattle.room_disk.proofs.Syncing.{done_or_not, quiet_sync}
use Rattle.room_disk.proofs.mem_store.MemStoreStore.sync.Goals as goal

pub returns-clause-quiet : goal.returns-clause-quiet
returns-clause-quiet c =
    let old : Past = c.args.self.now.past in
    let new : Past = c.answer.new.self.past in
    let same : c.self.inside.past ≡ old = ap (λ (s : StoreInMemory). s.past) (c.self.view_is ∙ c.next_fails.ensures.counted) in
    let which : (new ≡ old) ⊎ (new ≡ record old { events = Synced c.args.file ∷ old.events }) =
    rw (c.answer.ensures.past, ← same)
    (done_or_not c.sync-done.result c.self.inside.past c.sync-done.new.self (Synced c.args.file) c.sync-done.ensures.done c.sync-done.ensures.undone) in
    quiet_sync c.args.self.now c.answer.new.self c.args.file which
