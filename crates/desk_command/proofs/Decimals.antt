-- What a text of decimal digits is parsed as.
use Rattle.std.proofs.Common.{rules, ◌≡◌, ℕ, ◌<◌, ◌≤◌, ◌^◌, ◌&&◌, Bool, true, false, nat_lt, nat_le, List, [], ◌∷◌, length, Option, Some, None, Result, Ok, Err, refl, arith}
use Rattle.std.specs.Char.{is_ascii_digit}
use Rattle.std.specs.List.{list_all}
use Rattle.std.specs.Result.{OkIff}
use Rattle.std.specs.Str.Parse.{ParsesUnsigned, digits_value}
use Rattle.std.proofs.lemmas.Bool.Decides.{nat_tests}
use Rattle.std.proofs.lemmas.Str.Parse.{IsDigitsTest, IsNumeralModel, numerals_by_value, parse_digits}
use Rattle.desk_command.specs.Fields.{decimal_of}

abbrev AreDigits : List ℕ → Type 0
AreDigits part = list_all is_ascii_digit part ≡ true

tells : IsDigitsTest AreDigits
tells = search rules

decimals : IsNumeralModel AreDigits (digits_value 10)
decimals = numerals_by_value AreDigits tells

above_none : (n : ℕ) → nat_lt 0 n ≡ true → 0 < n
above_none n h = grind (arith, nat_tests)

fits : (n : ℕ) → n < 2 ^ 64 → nat_le n 18446744073709551615 ≡ true
fits n h = grind (arith, nat_tests)

exceeds : (n : ℕ) → (n < 2 ^ 64 → ⊥) → nat_le n 18446744073709551615 ≡ false
exceeds n h = grind (arith, nat_tests)

pub parsed : (E : Type 0) (part : List ℕ) (number : ℕ) → ParsesUnsigned {E = E} 64 10 part (Ok number) → list_all is_ascii_digit part ≡ true
    → nat_lt 0 (length part) ≡ true → decimal_of part ≡ Some number
parsed E part number parses digits some =
    let h = parse_digits decimals {E = E} 64 part (Ok number) parses digits in
    rw (some, digits, fits (digits_value 10 part) h.0.1, h.1)

pub not_parsed : (E : Type 0) (part : List ℕ) (e : E) → ParsesUnsigned {E = E} 64 10 part (Err e) → list_all is_ascii_digit part ≡ true
    → nat_lt 0 (length part) ≡ true → decimal_of part ≡ None
not_parsed E part e parses digits some =
    let h = parse_digits decimals {E = E} 64 part (Err e) parses digits in
    rw (some, digits, exceeds (digits_value 10 part) (λ small. h (above_none (length part) some, small)))
