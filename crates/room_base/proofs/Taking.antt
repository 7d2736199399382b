-- Bytes that are taken from the front of those left.
use Rattle.std.proofs.Common.{◌≡◌, ℕ, ◌+◌, List, length, min, take, drop, sym, arith, Bool}
use Rattle.std.proofs.lemmas.List.{drop-drop, nil_from_length}
use Rattle.std.proofs.Math.Seq.{take-add}
use Rattle.room_base.specs.Outside.{Moves}

pub takes_on : (bytes into : List ℕ) (at count : ℕ) (tells : Bool) (before after : ℕ)
    → count ≡ min (length (drop at bytes)) (length into) → take count into ≡ take count (drop at bytes)
    → Moves (record { tells = tells; taken = take at bytes; left = drop at bytes; faults = before })
    (record { tells = tells; taken = take (at + count) bytes; left = drop (at + count) bytes; faults = after }) into count
takes_on bytes into at count tells before after is given = record {
  enough = omega arith;
  taken = take-add at count bytes;
  left = sym (drop-drop count at bytes);
  given = given;
  ended = λ room none. nil_from_length (drop at bytes) (omega arith);
}
