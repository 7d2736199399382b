use Rattle.room_base.specs.declared.fault.Failed.{Failed}
use Rattle.volume_store.specs.declared.label.Found.{Found}
use Rattle.room_effects.proofs.Looking.{does_look_label, does_look_label_broken}
use Rattle.room_state.proofs.state.RoomState.look_for_label.Goals as goal

pub returns-in-Ok-clause-seen : goal.returns-in-Ok-clause-seen
returns-in-Ok-clause-seen g c =
    let read = c.in-Ok.ensures in
    does_look_label {T = Found} {E = Failed} c.args.cart.0 c.in-Ok.found c.in-Ok.found c.args.self.now.room
    (g.D.Store.view c.args.store.now) (g.D.Store.view c.read_label.new.store)
    (record { opens = c.requires.opens; needs = c.requires.cart }) read.cause read.tells read.quiet read.settled read.found

pub returns-in-Err : goal.returns-in-Err
returns-in-Err g c =
    let read = c.in-Err.ensures in
    record {
      seen = tt;
      failed = λ seen. rw c.fault_on.ensures (does_look_label_broken {T = Found} {E = Failed} c.args.cart.0 seen c.in-Err.field-0 c.args.self.now.room
          (g.D.Store.view c.args.store.now) (g.D.Store.view c.read_label.new.store)
          (record { opens = c.requires.opens; needs = c.requires.cart }) read.cause read.tells read.quiet);
      allowed = tt;
    }
