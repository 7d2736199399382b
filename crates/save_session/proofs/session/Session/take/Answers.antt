use Rattle.std.proofs.Common.{arith}
use Rattle.std.proofs.lemmas.List.{length-append}
use Rattle.save_session.specs.Kept.{session_view}
use Rattle.save_session.proofs.Sending.{piece_is}
use Rattle.save_session.proofs.session.Session.take.Goals as goal

pub returns-clause-kept : goal.returns-clause-kept
returns-clause-kept c =
    let before = session_view c.args.self.now in
    let is = piece_is before c.args.piece.now c.take.new.self c.requires.kept.is (λ i. omega (arith, c.type_inv.piece i)) c.requires.size c.in_ok-take.ensures.read in
    record {
      is = rw c.with-self.ensures is;
      held = rw c.with-self.ensures (c.update.ensures c.args.self.now.text.bytes c.requires.kept.held);
      next = rw c.with-self.ensures (omega (arith, c.requires.kept.next, length-append c.args.self.now.text.bytes c.args.piece.now));
    }
