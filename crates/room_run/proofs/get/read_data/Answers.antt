use Rattle.std.proofs.Common.{refl}
use Rattle.volume_store.specs.Writes.{cart_file}
use Rattle.room_run.proofs.GetRuns.{mark_is_damaged, units_are_damaged, bad_is_damaged}
use Rattle.room_run.proofs.get.read_data.Goals as goal

pub returns-in-Ok-Mark-clause-read : goal.returns-in-Ok-Mark-clause-read
returns-in-Ok-Mark-clause-read g c = λ told.
    let disk = (g.D.Store.view c.args.disk.now).reads (cart_file c.args.cart.0) in
    (refl, mark_is_damaged disk c.args.label.now.volid.0 c.args.label.now.units c.args.number c.in-Ok-Mark.field-0-0 c.in-Ok-Mark.field-0-1 ((rw c.in-Ok-Mark.field-0-is at c.in-Ok-Mark.ensures).judged told))

pub returns-in-Ok-Data-2-clause-read : goal.returns-in-Ok-Data-2-clause-read
returns-in-Ok-Data-2-clause-read g c = λ told.
    let disk = (g.D.Store.view c.args.disk.now).reads (cart_file c.args.cart.0) in
    (refl, units_are_damaged disk c.args.label.now.volid.0 c.args.label.now.units c.args.number c.in-Ok-Data.field-0-0 c.in-Ok-Data.units ((rw c.in-Ok-Data.field-0-is at c.in-Ok-Data.ensures).judged told) c.if-units-label.false)

pub returns-in-Err-Bad-clause-read : goal.returns-in-Err-Bad-clause-read
returns-in-Err-Bad-clause-read g c = λ told.
    let disk = (g.D.Store.view c.args.disk.now).reads (cart_file c.args.cart.0) in
    (refl, bad_is_damaged disk c.args.label.now.volid.0 c.args.label.now.units c.args.number c.in-Err-Bad.field-0-0.why ((rw c.in-Err-Bad.field-0-is at c.in-Err-Bad.ensures).judged told))
