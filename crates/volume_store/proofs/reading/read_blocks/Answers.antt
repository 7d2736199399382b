use Rattle.std.proofs.Common.{◌≡◌, ◌*◌, length, take, drop}
use Rattle.std.proofs.lemmas.Result.{IfOk-weaker}
use Rattle.volume_store.specs.Writes.{cart_file}
use Rattle.volume_store.specs.Reads.{HoldsBlocks}
use Rattle.volume_store.proofs.Finding.{block_of_blocks}
use Rattle.volume_store.proofs.reading.read_blocks.Goals as goal

pub returns-clause-read : goal.returns-clause-read
returns-clause-read g c = λ told.
    let bytes = (g.D.Store.view c.args.store.now).reads (cart_file c.args.cart.0) in
    let into = c.read_from.new.into in
    let first = c.args.first in
    let room = length c.args.into.now in
    IfOk-weaker c.read_from.result (λ count. take count into ≡ take room (drop (4096 * first) bytes))
    (λ count. HoldsBlocks bytes first room (take count into))
    (λ count is size k inside. block_of_blocks first room size k bytes (take count into) is inside) (c.read_from.ensures.read told)
