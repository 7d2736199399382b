use Rattle.std.proofs.Common.{◌≡◌, ◌+◌, ◌∙◌, ℕ, List, length, true, false, sym, ap, subst}
use Rattle.cat_journal.specs.Reads.{PiecesView, ahead, IsOf}
use Rattle.cat_journal.specs.Entries.{FindsEntries}
use Rattle.cat_journal.proofs.Opens.{ahead_front, left_of_front, opens_held, opens_broken, not_true, not_false}
use Rattle.cat_journal.proofs.opening.open_file.Goals as goal

pub returns-then-not-list-clause-opens : goal.returns-then-not-list-clause-opens
returns-then-not-list-clause-opens g c = λ told has ends.
    let bytes = (g.D.Store.view c.args.store.now).reads c.args.file in
    let head = c.args.head.now in
    let pieces = c.in_ok-pieces.pieces in
    let begins = c.in_ok-pieces.ensures.begins in
    let of_file : pieces.file ≡ c.args.file = ap (λ (p : PiecesView). p.file) begins in
    let P : ℕ → Type 0 = λ f. IsOf pieces ((g.D.Store.view c.args.store.now).reads f)
    → head.end ≡ 64 + head.size + length (ahead pieces ((g.D.Store.view c.args.store.now).reads f))
    → FindsEntries head.form head.number (64 + head.size) (ahead pieces ((g.D.Store.view c.args.store.now).reads f)) c.in_ok-list.list in
    let goes : ahead pieces bytes ≡ has.rest =
    ahead_front bytes _ c.args.snapshot head.size pieces has c.requires.snapshot (ap (λ (p : PiecesView). p.unread) begins) (ap (λ (p : PiecesView). p.next) begins) in
    let left : head.end ≡ 64 + head.size + length (ahead pieces bytes) =
    ends ∙ left_of_front bytes _ c.args.snapshot head.size has c.requires.snapshot ∙ ap (λ (t : List ℕ). 64 + head.size + length t) (sym goes) in
    let found = subst P of_file (c.in_ok-list.ensures.found told) (ap (λ (p : PiecesView). p.end) begins ∙ ends) left in
    let Q : List ℕ → Type 0 = λ t. FindsEntries head.form head.number (64 + head.size) t c.in_ok-list.list in
    let open_end : c.in_ok-list.list.closed ≡ false = not_true c.in_ok-list.list.closed c.if-not-list.true in
    opens_broken c.args.file bytes head c.args.snapshot c.in_ok-list.list has c.requires.snapshot (subst Q goes found) open_end

pub returns-clause-opens : goal.returns-clause-opens
returns-clause-opens g c = λ told has ends.
    let bytes = (g.D.Store.view c.args.store.now).reads c.args.file in
    let head = c.args.head.now in
    let pieces = c.in_ok-pieces.pieces in
    let begins = c.in_ok-pieces.ensures.begins in
    let of_file : pieces.file ≡ c.args.file = ap (λ (p : PiecesView). p.file) begins in
    let P : ℕ → Type 0 = λ f. IsOf pieces ((g.D.Store.view c.args.store.now).reads f)
    → head.end ≡ 64 + head.size + length (ahead pieces ((g.D.Store.view c.args.store.now).reads f))
    → FindsEntries head.form head.number (64 + head.size) (ahead pieces ((g.D.Store.view c.args.store.now).reads f)) c.in_ok-list.list in
    let goes : ahead pieces bytes ≡ has.rest =
    ahead_front bytes _ c.args.snapshot head.size pieces has c.requires.snapshot (ap (λ (p : PiecesView). p.unread) begins) (ap (λ (p : PiecesView). p.next) begins) in
    let left : head.end ≡ 64 + head.size + length (ahead pieces bytes) =
    ends ∙ left_of_front bytes _ c.args.snapshot head.size has c.requires.snapshot ∙ ap (λ (t : List ℕ). 64 + head.size + length t) (sym goes) in
    let found = subst P of_file (c.in_ok-list.ensures.found told) (ap (λ (p : PiecesView). p.end) begins ∙ ends) left in
    let Q : List ℕ → Type 0 = λ t. FindsEntries head.form head.number (64 + head.size) t c.in_ok-list.list in
    let shut_end : c.in_ok-list.list.closed ≡ true = not_false c.in_ok-list.list.closed c.if-not-list.false in
    opens_held c.args.file bytes head c.args.snapshot c.in_ok-list.list c.give_out.result has c.requires.snapshot (subst Q goes found) shut_end c.give_out.ensures.exact
