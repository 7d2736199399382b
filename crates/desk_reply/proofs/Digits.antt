-- Hexadecimal digits are text.
use Rattle.std.proofs.Common.{◌≡◌, ℕ, List, [], ◌∷◌, true, refl, arith}
use Rattle.std.proofs.lemmas.Bool.Decides.{nat_tests}
use Rattle.std.proofs.lemmas.Str.{IsUtf8-from_ascii}
use Rattle.std.proofs.lemmas.Str.Ascii.{IsAscii-nil, IsAscii-cons}
use Rattle.std.specs.List.{list_all}
use Rattle.std.specs.Prelude.{nat_lt}
use Rattle.std.specs.Str.{IsUtf8, IsAscii}
use Rattle.hex.specs.Hex.{encode_lower, lower_digits}
use Rattle.hex.proofs.HexLemmas.{IsAscii-encode_with}

-- bytes that pass the test
ascii_by_test : (bytes : List ℕ) → list_all (λ byte. nat_lt byte 128) bytes ≡ true → IsAscii bytes
ascii_by_test [] passed = IsAscii-nil
ascii_by_test (byte ∷ bytes) passed =
    IsAscii-cons byte bytes (grind (arith, nat_tests)) (ascii_by_test bytes (grind (arith, nat_tests)))

pub digits_are_text : (bytes : List ℕ) → IsUtf8 (encode_lower bytes)
digits_are_text bytes =
    IsUtf8-from_ascii _ (IsAscii-encode_with lower_digits bytes (ascii_by_test lower_digits refl))
