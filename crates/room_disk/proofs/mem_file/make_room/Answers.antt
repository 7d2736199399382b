use Rattle.room_disk.proofs.Files.{grown_set, found_room, set_room, distinct_grown}
use Rattle.room_disk.proofs.mem_file.make_room.Goals as goal

pub grow-requires : goal.grow-requires
grow-requires c =
    found_room c.args.files.now.items c.slot.new.files.items c.args.number c.in_ok-index.index c.index_mut-file.result.now c.requires
    c.in_ok-index.ensures.same c.in_ok-index.ensures.found c.index_mut-file.ensures.value

pub returns-in_err-grow-clause-grown : goal.returns-in_err-grow-clause-grown
returns-in_err-grow-clause-grown c =
    grown_set c.args.files.now.items c.slot.new.files.items c.args.number c.in_ok-index.index c.index_mut-file.result.now c.grow.new.self c.requires
    c.in_ok-index.ensures.same c.in_ok-index.ensures.found c.index_mut-file.ensures.value c.grow.ensures.grown

pub returns-clause-grown : goal.returns-clause-grown
returns-clause-grown c =
    grown_set c.args.files.now.items c.slot.new.files.items c.args.number c.in_ok-index.index c.index_mut-file.result.now c.grow.new.self c.requires
    c.in_ok-index.ensures.same c.in_ok-index.ensures.found c.index_mut-file.ensures.value c.grow.ensures.grown

pub returns-clause-room : goal.returns-clause-room
returns-clause-room c =
    set_room c.slot.new.files.items c.args.number c.in_ok-index.index c.args.room c.index_mut-file.result.now c.grow.new.self
    c.in_ok-index.ensures.found c.index_mut-file.ensures.value c.grow.ensures.grown c.in_ok-grow.ensures.room

pub returns-in_err-grow-clause-distinct : goal.returns-in_err-grow-clause-distinct
returns-in_err-grow-clause-distinct c distinct =
    distinct_grown c.slot.new.files.items c.args.number c.in_ok-index.index c.index_mut-file.result.now c.grow.new.self
    c.in_ok-index.ensures.found c.index_mut-file.ensures.value c.grow.ensures.grown (c.in_ok-index.ensures.distinct distinct)

pub returns-clause-distinct : goal.returns-clause-distinct
returns-clause-distinct c distinct =
    distinct_grown c.slot.new.files.items c.args.number c.in_ok-index.index c.index_mut-file.result.now c.grow.new.self
    c.in_ok-index.ensures.found c.index_mut-file.ensures.value c.grow.ensures.grown (c.in_ok-index.ensures.distinct distinct)
