use Rattle.std.proofs.Common.{◌≡◌, ◌∙◌, List, [], ◌++◌, length, take, drop, reverse, ap}
use Rattle.std.proofs.lemmas.List.{take_at}
use Rattle.room_disk.specs.declared.disk_event.DiskEvent.{DiskEvent}
use Rattle.room_disk.specs.declared.mem_file.MemFile.{MemFile}
use Rattle.room_disk.proofs.Rebuilt.{can_rebuild, leaves_crashed, kept_again, AllRebuilt}
use Rattle.room_disk.proofs.history.History.crashed.Goals as goal

pub rebuild_all-requires : goal.rebuild_all-requires
rebuild_all-requires c =
    rw (c.deref.ensures.value, c.deref_mut.ensures.value)
    (can_rebuild (reverse c.self.inside.events.items) c.self.inside.files.items c.self.invariant)

pub invariant_of-result : goal.invariant_of-result
invariant_of-result c =
    let old : List MemFile = c.self.inside.files.items in
    let new : List MemFile = c.rebuild_all.new.files in
    let events : List DiskEvent = reverse c.self.inside.events.items in
    let size : length new ≡ c.self.inside.files.len = c.rebuild_all.auto.files ∙ c.deref_mut.ensures.len in
    let same : length new ≡ length old = c.rebuild_all.auto.files ∙ ap (λ (l : List MemFile). length l) c.deref_mut.ensures.value in
    let whole : take c.self.inside.files.len (new ++ drop (length new) old) ≡ new = take_at new (drop (length new) old) c.self.inside.files.len size in
    let are : AllRebuilt c.args.part events old new = rw (← c.deref.ensures.value, ← c.deref_mut.ensures.value) c.rebuild_all.ensures in
    let none : reverse c.clear.new.self.items ≡ [] = ap (λ (l : List DiskEvent). reverse l) c.clear.ensures.items in
    rw (whole, none) (kept_again c.args.part events old new c.self.invariant same are)

pub returns-clause-image : goal.returns-clause-image
returns-clause-image c file =
    let old : List MemFile = c.self.inside.files.items in
    let new : List MemFile = c.rebuild_all.new.files in
    let events : List DiskEvent = reverse c.self.inside.events.items in
    let size : length new ≡ c.self.inside.files.len = c.rebuild_all.auto.files ∙ c.deref_mut.ensures.len in
    let same : length new ≡ length old = c.rebuild_all.auto.files ∙ ap (λ (l : List MemFile). length l) c.deref_mut.ensures.value in
    let whole : take c.self.inside.files.len (new ++ drop (length new) old) ≡ new = take_at new (drop (length new) old) c.self.inside.files.len size in
    let are : AllRebuilt c.args.part events old new = rw (← c.deref.ensures.value, ← c.deref_mut.ensures.value) c.rebuild_all.ensures in
    rw (whole, ← c.self.view_is) (leaves_crashed c.args.part events old new c.self.invariant same are file)
