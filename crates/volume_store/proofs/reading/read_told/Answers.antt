use Rattle.std.proofs.Common.{◌≡◌, ◌∙◌, ℕ, List, sym, ap, subst}
use Rattle.std.specs.Prelude.{IsTrue}
use Rattle.volume_store.specs.Committed.{part_at}
use Rattle.volume_store.specs.Reads.{BeginsSize}
use Rattle.volume_store.proofs.reading.read_told.Goals as goal

pub returns-then-size-eq-BLOCK_SIZE-clause-told : goal.returns-then-size-eq-BLOCK_SIZE-clause-told
returns-then-size-eq-BLOCK_SIZE-clause-told g c = λ told.
    let Begins : List ℕ → Type 0 = λ (front : List ℕ). BeginsSize front c.size_begun-size.result in
    subst Begins (c.in_ok-count.ensures.read told) c.size_begun-size.ensures.size

pub returns-then-size-eq-BLOCK_SIZE-clause-read : goal.returns-then-size-eq-BLOCK_SIZE-clause-read
returns-then-size-eq-BLOCK_SIZE-clause-read g c = λ told.
    let bytes = (g.D.Store.view c.args.store.now).reads c.args.file in
    c.in_ok-count.ensures.read told ∙ ap (λ (size : ℕ). part_at size bytes c.args.number) (sym c.if-size-eq-BLOCK_SIZE.true)

pub returns-clause-told : goal.returns-clause-told
returns-clause-told g c = λ told.
    let Begins : List ℕ → Type 0 = λ (front : List ℕ). BeginsSize front c.size_begun-size.result in
    subst Begins (c.in_ok-count.ensures.read told) c.size_begun-size.ensures.size

pub returns-clause-read : goal.returns-clause-read
returns-clause-read g c = λ told.
    let between = g.D.Store.view c.read_part.new.store in
    let told_here : IsTrue between.tells = rw c.in_ok-count.ensures.tells told in
    let same : between.reads c.args.file ≡ (g.D.Store.view c.args.store.now).reads c.args.file = (c.in_ok-count.ensures.quiet told).reads c.args.file in
    c.in_ok-count-2.ensures.read told_here ∙ ap (λ (bytes : List ℕ). part_at c.size_begun-size.result bytes c.args.number) same
