use Rattle.std.proofs.Common.{◌≡◌, ◌+◌, ◌++◌, take, vec_len}
use Rattle.std.specs.Prelude.{vec_capacity}
use Rattle.catalog_text.proofs.put.put_bytes.Given as goal

abbrev pub invariant-loop-byte : goal.invariant-loop-byte
invariant-loop-byte l = record {
  items : l.into.items ≡ l.fn.into.items ++ take l.byte-index l.bytes;
  len : vec_len l.into ≡ vec_len l.fn.into + l.byte-index;
  capacity : vec_capacity l.into ≡ vec_capacity l.fn.into;
}
