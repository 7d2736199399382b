use Rattle.std.proofs.Common.{◌≡◌, ◌∙◌, sym, ap}
use Rattle.room_disk.specs.declared.mem_file.MemFile.{MemFile}
use Rattle.room_disk.proofs.Files.{file_at, file_none}
use Rattle.room_disk.specs.Kept.{kept_file, IsFirst, NoneHas}
use Rattle.room_disk.proofs.history.History.bytes.Goals as goal

pub returns-in-Some : goal.returns-in-Some
returns-in-Some c =
    let first : IsFirst c.args.file c.self.inside.files.items c.in-Some.index = rw (← c.deref.ensures.value) c.in-Some.ensures in
    let found : kept_file c.args.file c.self.inside.files.items ≡ c.index.result.now =
    file_at c.args.file c.self.inside.files.items c.in-Some.index c.index.result.now first ∙ sym c.index.ensures in
    rw (← c.self.view_is) (c.as_slice.ensures.value ∙ ap (λ (f : MemFile). f.now.bytes) (sym found) ∙ (c.self.invariant.each c.args.file).now)

pub returns-in-None : goal.returns-in-None
returns-in-None c =
    let none : NoneHas c.args.file c.self.inside.files.items = rw (← c.deref.ensures.value) c.in-None.ensures in
    rw (← c.self.view_is) (ap (λ (f : MemFile). f.now.bytes) (sym (file_none c.args.file c.self.inside.files.items none)) ∙ (c.self.invariant.each c.args.file).now)
