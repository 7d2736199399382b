use Rattle.std.proofs.Common.{◌≡◌, ◌*◌, ◌∙◌, ℕ, ap, length, take, drop}
use Rattle.std.proofs.lemmas.Result.{IfOk-weaker}
use Rattle.volume_store.specs.Committed.{block_at}
use Rattle.volume_store.proofs.Finding.{front_is_part}
use Rattle.volume_store.proofs.reading.read_front.Goals as goal

pub returns-clause-read : goal.returns-clause-read
returns-clause-read g c = λ told.
    let bytes = (g.D.Store.view c.args.store.now).reads c.args.file in
    let into = c.read_from.new.into in
    let number = c.args.number in
    IfOk-weaker c.read_from.result (λ count. take count into ≡ take (length c.args.block.now) (drop (4096 * number) bytes))
    (λ count. take count into ≡ block_at bytes number)
    (λ count is. front_is_part 4096 number count bytes into (is ∙ ap (λ (n : ℕ). take n (drop (4096 * number) bytes)) c.requires)) (c.read_from.ensures.read told)
