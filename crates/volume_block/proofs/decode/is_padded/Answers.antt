use Rattle.std.proofs.Common.{◌-◌, length, arith}
use Rattle.volume_block.specs.Why.{used_in}
use Rattle.volume_block.proofs.Zeros.{zeros_within}
use Rattle.volume_block.proofs.decode.is_padded.Goals as goal

pub returns-then-used-bytes : goal.returns-then-used-bytes
returns-then-used-bytes c =
    let bytes = c.args.bytes.now in
    zeros_within c.are_zeros.result c.used_length-used.result (used_in bytes) 56 (length bytes - 56) bytes c.used_length-used.ensures
    (omega arith) (omega arith) c.are_zeros.ensures
