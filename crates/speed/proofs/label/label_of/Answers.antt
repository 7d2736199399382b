use Rattle.std.proofs.Common.{ℕ, List, [], ◌∷◌, refl, arith, rules}
use Rattle.std.proofs.lemmas.Str.{IsUtf8-from_ascii}
use Rattle.std.proofs.lemmas.List.Elements.{All-from_recursion}
use Rattle.room_base.specs.Text.{IsPrintable, IsName}
use Rattle.speed.proofs.label.label_of.Goals as goal

raw : List ℕ
raw = 82 ∷ 97 ∷ 119 ∷ []

raw_is_name : IsName raw
unfolding raw
raw_is_name = (IsUtf8-from_ascii raw (search rules), All-from_recursion IsPrintable raw (search rules))

pub returns-clause-label : goal.returns-clause-label
unfolding raw
returns-clause-label c = record {
  volid = search rules;
  cart = search rules;
  units = c.requires.units;
  capacity = (omega (arith, c.requires.range), omega arith);
  made = search rules;
  pool_length = search rules;
  room = refl;
  pool = raw_is_name;
  zeros = refl;
}
