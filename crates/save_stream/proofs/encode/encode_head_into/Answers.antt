use Rattle.std.proofs.Common.{arith}
use Rattle.save_stream.specs.Heads.{head_of_parts}
use Rattle.save_stream.proofs.Lengths.{length-head_text}
use Rattle.save_stream.proofs.encode.encode_head_into.Goals as goal

pub put_numbers-requires : goal.put_numbers-requires
put_numbers-requires c = omega (arith, c.requires.room, length-head_text (head_of_parts c.args.parts.now))

pub put_text-requires-clause-room : goal.put_text-requires-clause-room
put_text-requires-clause-room c =
    omega (arith, c.requires.room, c.put_numbers.ensures.len, c.put_numbers.ensures.capacity, length-head_text (head_of_parts c.args.parts.now))

pub put_text-requires-2-clause-room : goal.put_text-requires-2-clause-room
put_text-requires-2-clause-room c =
    omega (
      arith,
      c.requires.room,
      c.put_numbers.ensures.len,
      c.put_numbers.ensures.capacity,
      c.put_text.ensures.len,
      c.put_text.ensures.capacity,
      length-head_text (head_of_parts c.args.parts.now),
    )
