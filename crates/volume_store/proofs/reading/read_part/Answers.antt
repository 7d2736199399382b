use Rattle.std.proofs.Common.{◌≡◌, length, take, drop, rules}
use Rattle.volume_store.proofs.Finding.{part_read}
use Rattle.volume_store.proofs.reading.read_part.Goals as goal

pub returns-clause-read : goal.returns-clause-read
returns-clause-read g c = λ told.
    let old = c.args.into.now in
    let size = c.args.size in
    let bytes = (g.D.Store.view c.args.store.now).reads c.args.file in
    let room : length (take size old) ≡ size = search rules in
    let long : length c.read_from.new.into ≡ length (take size old) = search rules in
    part_read c.read_from.result size (length (take size old)) c.args.number bytes c.read_from.new.into (drop size old) room long
    c.read_from.ensures.within (c.read_from.ensures.read told)
