use Rattle.std.proofs.Common.{rules}
use Rattle.volume_block.specs.Why.{FitsPool}
use Rattle.volume_block.proofs.Labels.{padded_with}
use Rattle.volume_block.proofs.payload.padded_pool.Goals as goal

pub returns : goal.returns
returns c =
    let fits : FitsPool c.args.pool_length c.args.name.now = search rules in
    (fits, padded_with 64 c.args.pool_length c.args.name.now c.copy_from_slice.new.self c.copy_from_slice.ensures.after fits.0 fits.1)
