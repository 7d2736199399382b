-- How long heads are.
use Rattle.std.proofs.Common.{◌≡◌, ℕ, ◌+◌, ◌++◌, length, refl, arith}
use Rattle.std.proofs.lemmas.List.{length-append}
use Rattle.save_stream.specs.declared.head.SetHead.{SetHead}
use Rattle.save_stream.specs.Spelling.{number_text, short_text, head_numbers, head_text}

pub length-number_text : (number : ℕ) → length (number_text number) ≡ 8
unfolding number_text
length-number_text number = refl

pub length-head_numbers : (head : SetHead) → length (head_numbers head) ≡ 42
unfolding number_text
length-head_numbers head = refl

pub length-head_text : (head : SetHead) → length (head_text head) ≡ 46 + length head.client + length head.set + length head.group + length head.pool
length-head_text head =
    omega (
      arith,
      length-head_numbers head,
      length-append (head_numbers head) (short_text head.client),
      length-append (head_numbers head ++ short_text head.client) (short_text head.set),
      length-append (head_numbers head ++ short_text head.client ++ short_text head.set) (short_text head.group),
      length-append (head_numbers head ++ short_text head.client ++ short_text head.set ++ short_text head.group) (short_text head.pool),
    )
