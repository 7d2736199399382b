use Rattle.room_disk.specs.Kept.{NoneHas}
use Rattle.room_disk.proofs.Files.{pushed, distinct_push}
use Rattle.room_disk.proofs.mem_file.slot.Goals as goal

pub returns-clause-same : goal.returns-clause-same
returns-clause-same c = rw (c.in_ok-push.ensures.items, c.blank.ensures) (pushed c.args.number c.args.files.now.items)

pub returns-clause-distinct : goal.returns-clause-distinct
returns-clause-distinct c distinct =
    let none : NoneHas c.args.number c.args.files.now.items = rw (← c.deref.ensures.value) c.in_default.ensures in
    rw (c.in_ok-push.ensures.items, c.blank.ensures) (distinct_push c.args.number c.args.files.now.items none distinct)
