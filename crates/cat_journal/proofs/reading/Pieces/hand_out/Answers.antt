use Rattle.std.proofs.Common.{ap, arith}
use Rattle.cat_journal.proofs.Handing.{of_pieces, left_of}
use Rattle.cat_journal.proofs.reading.Pieces.hand_out.Goals as goal

pub returns-clause-left : goal.returns-clause-left
returns-clause-left c =
    let pieces = c.self.inside in
    rw (← c.self.view_is)
    (ap (of_pieces pieces.file pieces.next pieces.end) (left_of pieces.piece.items pieces.from pieces.to c.min-count.result (omega (arith, c.min-count.ensures))))
