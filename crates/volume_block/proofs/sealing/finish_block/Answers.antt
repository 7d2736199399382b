use Rattle.volume_block.proofs.Whole.{sealed}
use Rattle.volume_block.proofs.sealing.finish_block.Goals as goal

pub returns : goal.returns
returns c =
    sealed c.args.kind c.args.units c.args.volid c.args.number c.args.used c.args.block.now c.fill.new.self c.write_head.new.block c.write_digest.new.block
    c.requires.fits (c.fill.ensures.after (λ y e. e)) c.write_head.ensures c.write_digest.ensures
