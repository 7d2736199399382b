use Rattle.std.proofs.Common.{refl, arith}
use Rattle.save_stream.specs.View.{reading_of}
use Rattle.save_stream.proofs.Taking.{reads-ended, reads-passed}
use Rattle.save_stream.proofs.state.State.take_front.Goals as goal

pub returns-then-self-clause-read : goal.returns-then-self-clause-read
returns-then-self-clause-read c = reads-ended (reading_of c.args.self.now) c.args.bytes.now c.if-self.true c.requires.some

pub returns-then-self-gt0-clause-read : goal.returns-then-self-gt0-clause-read
returns-then-self-gt0-clause-read c = record {
  some = omega arith;
  within = omega arith;
  read = refl;
  rest = reads-passed c.min-count.result (reading_of c.args.self.now) c.args.bytes.now c.if-self.false (omega arith) (omega arith);
}
