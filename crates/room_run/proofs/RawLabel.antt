-- The label of a raw cartridge may be written.
use Rattle.std.proofs.Common.{ℕ, ◌≤◌, List, [], ◌∷◌, refl, inl, rules, arith}
use Rattle.std.proofs.lemmas.Str.{IsUtf8-from_ascii}
use Rattle.std.proofs.lemmas.List.Elements.{All-from_recursion}
use Rattle.room_base.specs.Numbers.{max_moment}
use Rattle.room_base.specs.Text.{IsPrintable, IsName}
use Rattle.volume_block.specs.Valid.{IsLabel}
use Rattle.volume_store.specs.Writes.{IsCart}
use Rattle.room_run.specs.Raw.{raw_label}

raw : List ℕ
raw = 82 ∷ 97 ∷ 119 ∷ []

raw_is_name : IsName raw
unfolding raw
raw_is_name = (IsUtf8-from_ascii raw (search rules), All-from_recursion IsPrintable raw (search rules))

pub raw_allowed : (cart made : ℕ) → IsCart cart → made ≤ max_moment → IsLabel (raw_label cart made)
unfolding raw
raw_allowed cart made known early = record {
  volid = (omega arith, omega (arith, known.1));
  cart = known;
  units = inl refl;
  capacity = (omega arith, omega arith);
  made = early;
  pool_length = (omega arith, omega arith);
  room = refl;
  pool = raw_is_name;
  zeros = refl;
}
