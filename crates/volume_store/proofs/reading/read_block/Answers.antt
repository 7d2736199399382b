use Rattle.std.proofs.Common.{◌∙◌, ℕ, List, take, sym, ap, subst}
use Rattle.volume_block.specs.Valid.{ValidBlock}
use Rattle.volume_store.specs.Committed.{part_at}
use Rattle.volume_store.specs.Writes.{cart_file}
use Rattle.volume_store.specs.Reads.{IsBad}
use Rattle.volume_store.proofs.Finding.{read_whole, stands_read, bad_at}
use Rattle.volume_store.proofs.reading.read_block.Goals as goal

pub returns-in-Ok-clause-valid : goal.returns-in-Ok-clause-valid
returns-in-Ok-clause-valid g c =
    let into = c.read_told.new.into in
    let whole = read_whole c.in_ok-read.read.count c.in_ok-read.read.size c.args.volid.0 c.args.number into c.in-Ok.block c.in_ok-read.ensures.within.0
    c.in-Ok.ensures.whole c.in-Ok.ensures.judged in
    subst (λ (bytes : List ℕ). ValidBlock bytes c.args.volid.0 c.args.number c.in-Ok.block) whole.1 c.in-Ok.ensures.judged

pub returns-in-Ok-clause-read : goal.returns-in-Ok-clause-read
returns-in-Ok-clause-read g c = λ told.
    let into = c.read_told.new.into in
    let bytes = (g.D.Store.view c.args.store.now).reads (cart_file c.args.cart.0) in
    let whole = read_whole c.in_ok-read.read.count c.in_ok-read.read.size c.args.volid.0 c.args.number into c.in-Ok.block c.in_ok-read.ensures.within.0
    c.in-Ok.ensures.whole c.in-Ok.ensures.judged in
    sym whole.1 ∙ c.in_ok-read.ensures.read told ∙ ap (λ (size : ℕ). part_at size bytes c.args.number) (sym whole.0)

pub returns-in-Ok-clause-judged : goal.returns-in-Ok-clause-judged
returns-in-Ok-clause-judged g c = λ told.
    let into = c.read_told.new.into in
    let bytes = (g.D.Store.view c.args.store.now).reads (cart_file c.args.cart.0) in
    stands_read bytes (take c.in_ok-read.read.count into) c.args.volid.0 c.args.number c.in_ok-read.read.size c.in-Ok.block
    (c.in_ok-read.ensures.read told) c.in-Ok.ensures.whole c.in-Ok.ensures.judged

pub returns-in-Err-clause-judged : goal.returns-in-Err-clause-judged
returns-in-Err-clause-judged g c = λ told.
    let bytes = (g.D.Store.view c.args.store.now).reads (cart_file c.args.cart.0) in
    let size = c.in_ok-read.read.size in
    let why = c.in-Err.bad.why in
    let Bad : List ℕ → Type 0 = λ (block : List ℕ). IsBad size block c.args.volid.0 c.args.number why in
    bad_at bytes c.args.volid.0 c.args.number size why (c.in_ok-read.ensures.told told) (subst Bad (c.in_ok-read.ensures.read told) c.in-Err.ensures.judged)
