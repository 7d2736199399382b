use Rattle.std.proofs.Common.{sym}
use Rattle.save_stream.specs.Heads.{head_of_parts}
use Rattle.save_stream.proofs.Lengths.{length-head_text}
use Rattle.save_begin.proofs.heading.head_size.Goals as goal

pub returns : goal.returns
returns c =
    rw (c.as_bytes-client.ensures.value, c.as_bytes-set.ensures.value, c.as_bytes-group.ensures.value, c.as_bytes-pool.ensures.value)
    (sym (length-head_text (head_of_parts c.args.parts.now)))
