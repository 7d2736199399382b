use Rattle.std.proofs.Common.{ap, sym, subst, arith}
use Rattle.save_stream.specs.Reading.{Reading}
use Rattle.save_stream.specs.Standing.{IsStreamSoFar}
use Rattle.save_stream.specs.View.{reading_of}
use Rattle.save_stream.proofs.SoFar.{piece-so-far, so-far-waits}
use Rattle.save_stream.proofs.reader.StreamReader.take.Goals as goal

pub invariant_of-self : goal.invariant_of-self
invariant_of-self c =
    piece-so-far (reading_of c.self.inside.state) (reading_of c.take.new.self) c.args.piece.now c.self.invariant (λ i. omega (arith, c.type_inv.piece i))
    (omega (arith, c.requires, ap (λ (r : Reading). r.read) c.self.view_is)) c.in-Ok.ensures.read

pub invariant_of-self-in-Err : goal.invariant_of-self-in-Err
invariant_of-self-in-Err c =
    subst IsStreamSoFar (sym (c.go_back.ensures c.self.inside.state c.savepoint-savepoint.ensures c.in-Err.ensures.kept)) c.self.invariant

pub take-requires-clause-waiting : goal.take-requires-clause-waiting
take-requires-clause-waiting c = so-far-waits (reading_of c.self.inside.state) c.self.invariant
