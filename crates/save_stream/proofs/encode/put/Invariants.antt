use Rattle.std.proofs.Common.{◌≡◌, ◌+◌, ◌++◌, take, vec_len}
use Rattle.std.specs.Prelude.{vec_capacity}
use Rattle.save_stream.proofs.encode.put.Given as goal

abbrev pub invariant-loop-byte : goal.invariant-loop-byte
invariant-loop-byte l =
    (l.into.items ≡ l.fn.into.items ++ take l.byte-index l.bytes) × (vec_len l.into ≡ vec_len l.fn.into + l.byte-index)
    × (vec_capacity l.into ≡ vec_capacity l.fn.into)
