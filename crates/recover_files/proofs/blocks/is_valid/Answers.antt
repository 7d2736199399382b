use Rattle.recover_files.proofs.Judging.{data_is_valid, mark_is_invalid, none_is_invalid}
use Rattle.volume_store.specs.Writes.{cart_file}
use Rattle.recover_files.proofs.blocks.is_valid.Goals as goal

pub returns-in-Some-Data-clause-valid : goal.returns-in-Some-Data-clause-valid
returns-in-Some-Data-clause-valid g c = λ told.
    data_is_valid ((g.D.Store.view c.args.store.now).reads (cart_file c.args.cart.0)) c.args.volid.0 c.args.number _ _
    (rw (c.in-Some-Data.is, c.in-Some-Data.field-0-is) at (c.in_ok-find_block.ensures.found told))

pub returns-in-Some-Mark-clause-valid : goal.returns-in-Some-Mark-clause-valid
returns-in-Some-Mark-clause-valid g c = λ told.
    mark_is_invalid ((g.D.Store.view c.args.store.now).reads (cart_file c.args.cart.0)) c.args.volid.0 c.args.number
    c.in-Some-Mark.field-0-0 c.in-Some-Mark.field-0-1
    (rw (c.in-Some-Mark.is, c.in-Some-Mark.field-0-is) at (c.in_ok-find_block.ensures.found told))

pub returns-in-None-clause-valid : goal.returns-in-None-clause-valid
returns-in-None-clause-valid g c = λ told.
    none_is_invalid ((g.D.Store.view c.args.store.now).reads (cart_file c.args.cart.0)) c.args.volid.0 c.args.number
    (rw c.in-None.is at (c.in_ok-find_block.ensures.found told))
