use Rattle.room_resources.proofs.Definable.{follows_fault}
use Rattle.room_resources.proofs.defining.define.Goals as goal

pub returns-in-Err : goal.returns-in-Err
returns-in-Err g c = rw c.fault_refusal.ensures (follows_fault c.args.m c.args.text.now c.args.room.now.room (g.D.Store.view c.args.store.now) c.in-Err.fault c.in-Err.ensures.gives)
