use Rattle.room_base.specs.declared.fault.Failed.{Failed}
use Rattle.room_effects.proofs.Looking.{does_write_label, does_write_label_broken}
use Rattle.room_state.proofs.state.RoomState.write_label.Goals as goal

pub returns-in-Ok : goal.returns-in-Ok
returns-in-Ok g c =
    does_write_label {T = Unit {0}} {U = Unit {0}} {E = Failed} c.args.label.now tt c.in-Ok.field-0 c.args.self.now.room
    (g.D.Store.view c.args.store.now) (g.D.Store.view c.write_label.new.store) c.requires (g.met.D.Store.is_disk c.args.store.now) c.in-Ok.ensures

pub returns-in-Err : goal.returns-in-Err
returns-in-Err g c =
    rw c.fault_on.ensures (does_write_label_broken {T = Unit {0}} {U = Unit {0}} {E = Failed} c.args.label.now c.in-Err.field-0 c.args.self.now.room
    (g.D.Store.view c.args.store.now) (g.D.Store.view c.write_label.new.store) c.requires (g.met.D.Store.is_disk c.write_label.new.store) c.in-Err.ensures)
