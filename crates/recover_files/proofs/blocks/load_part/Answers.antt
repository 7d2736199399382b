use Rattle.std.proofs.Common.{arith, drop}
use Rattle.std.proofs.lemmas.List.{length-take}
use Rattle.volume_store.specs.Writes.{cart_file}
use Rattle.recover_files.proofs.Judging.{part_loaded}
use Rattle.recover_files.proofs.blocks.load_part.Goals as goal

pub returns-clause-read : goal.returns-clause-read
returns-clause-read g c = λ told.
    part_loaded c.read_blocks.result c.args.size _ c.args.number ((g.D.Store.view c.args.store.now).reads (cart_file c.args.cart.0))
    c.read_blocks.new.into (drop c.args.size c.args.block.now)
    (omega (arith, length-take c.args.size c.args.block.now, c.requires.room)) c.read_blocks.auto.into
    c.read_blocks.ensures.within (c.read_blocks.ensures.read told)
