use Rattle.std.proofs.Common.{◌≡◌, ◌-◌, ◌+◌, ℕ, List, [], take, drop, length, sym, ap, subst, arith}
use Rattle.std.proofs.lemmas.List.{with_items_is}
use Rattle.std.specs.Prelude.{IsTrue}
use Rattle.std.specs.Vec.{with_items}
use Rattle.cat_journal.specs.Reads.{PiecesView, IsOf, ReadsOn}
use Rattle.cat_journal.proofs.Handing.{of_pieces, reads_on}
use Rattle.cat_journal.proofs.reading.Pieces.read_on.Goals as goal

pub returns-in_ok-count-clause-read : goal.returns-in_ok-count-clause-read
returns-in_ok-count-clause-read g c =
    let pieces = c.self.inside in
    let new = c.read_part.new.piece in
    let count = c.in_ok-count.count in
    let bytes = (g.D.Store.view c.args.store.now).reads pieces.file in
    let left = take (pieces.to - pieces.from) (drop pieces.from pieces.piece.items) in
    let old = of_pieces pieces.file pieces.next pieces.end left in
    let items : (with_items pieces.piece new).items ≡ new =
    with_items_is pieces.piece new (omega (arith, c.read_part.ensures.size, c.deref_mut.ensures.len)) in
    let empty : pieces.to - pieces.from ≡ 0 = omega arith in
    let none : left ≡ [] = ap (λ (n : ℕ). take n (drop pieces.from pieces.piece.items)) empty in
    let P : List ℕ → Type 0 = λ t. ReadsOn bytes old (of_pieces pieces.file (pieces.next + count) pieces.end (take count t)) in
    let Goal : PiecesView → Type 0 = λ view. IsTrue (g.D.Store.view c.args.store.now).tells → IsOf view ((g.D.Store.view c.args.store.now).reads view.file)
    → ReadsOn ((g.D.Store.view c.args.store.now).reads view.file) view
    (of_pieces pieces.file (pieces.next + count) pieces.end (take (count - 0) (with_items pieces.piece new).items)) in
    let whole : count - 0 ≡ count = omega arith in
    let Q : ℕ → Type 0 = λ n. ReadsOn bytes old (of_pieces pieces.file (pieces.next + count) pieces.end (take n (with_items pieces.piece new).items)) in
    subst Goal c.self.view_is (λ told is. subst Q (sym whole)
    (subst P (sym items) (reads_on bytes new old (length c.deref_mut.result.now) count none is (omega (arith, c.deref_mut.ensures.len)) (omega arith) (c.in_ok-count.ensures.read told))))
