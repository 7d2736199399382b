use Rattle.std.proofs.Common.{arith}
use Rattle.volume_store.proofs.Finding.{short_block}
use Rattle.volume_store.proofs.reading.judge_block.Goals as goal

pub returns-then-bytes-size-clause-judged : goal.returns-then-bytes-size-clause-judged
returns-then-bytes-size-clause-judged c = short_block c.args.size c.args.bytes.now c.args.volid.0 c.args.number (omega arith)

pub returns-then-bytes-size-clause-only : goal.returns-then-bytes-size-clause-only
returns-then-bytes-size-clause-only c = λ block sized valid.
    absurd ((short_block c.args.size c.args.bytes.now c.args.volid.0 c.args.number (omega arith)).invalid block sized valid)
