use Rattle.std.proofs.Common.{◌≡◌, ◌∙◌, ℕ, List, take, ap, subst}
use Rattle.std.specs.Prelude.{IsTrue}
use Rattle.cat_journal.specs.Heads.{FindsHead}
use Rattle.cat_journal.proofs.Fronts.{first_bytes}
use Rattle.cat_journal.proofs.front.read_front.Goals as goal

pub returns-in-Ok-clause-found : goal.returns-in-Ok-clause-found
returns-in-Ok-clause-found g c = λ told.
    let start = g.D.Store.view c.args.store.now in
    let mid = g.D.Store.view c.length_of.new.store in
    let file = c.args.file in
    let bytes = start.reads file in
    let told_mid : IsTrue mid.tells = rw c.in_ok-end.ensures.tells told in
    let same : mid.reads file ≡ bytes = (c.in_ok-end.ensures.quiet told).reads file in
    let text : take c.in-Ok.count c.read_at.new.into ≡ take 64 bytes =
    first_bytes 64 c.in-Ok.count (mid.reads file) c.read_at.new.into (c.in-Ok.ensures.count told_mid) (c.in-Ok.ensures.given told_mid) ∙ ap (take 64) same in
    let P : List ℕ → Type 0 = λ t. FindsHead t c.in_ok-end.end c.front_in.result in
    let Q : ℕ → Type 0 = λ n. FindsHead (take 64 bytes) n c.front_in.result in
    subst Q (c.in_ok-end.ensures.length told) (subst P text c.front_in.ensures.found)
