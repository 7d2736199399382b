-- Names by their test.
use Rattle.std.proofs.Common.{◌↔◌, IsTrue, ◌≡◌, ◌≢◌, ℕ, ◌<◌, ◌≤◌, ◌&&◌, not, ◌==◌, Bool, true, false, nat_lt, nat_le, nat_eq, List, [], ◌∷◌, length, get_or, refl, arith}
use Rattle.std.specs.Prelude.{All}
use Rattle.std.specs.List.{list_all, AllPass}
use Rattle.std.specs.Str.{IsUtf8, is_utf8}
use Rattle.std.proofs.lemmas.Grind.{common_steps}
use Rattle.std.proofs.lemmas.Bool.Decides.{nat_tests}
use Rattle.std.proofs.lemmas.Bool.{and_parts, and_from}
use Rattle.std.proofs.lemmas.List.Sums.{AllPass-from_list_all, list_all-from_AllPass}
use Rattle.std.proofs.lemmas.Str.{IsUtf8-from_is_utf8, is_utf8-from_IsUtf8}
use Rattle.room_base.specs.Text.{HasLength, IsName, IsPrintable}
use Rattle.desk_command.specs.Fields.{is_name_to, is_printable}
use Rattle.desk_command.proofs.Truths.{refuted}

printable : (byte : ℕ) → IsPrintable byte → is_printable byte ≡ true
printable byte is = grind (arith, nat_tests)

control : (byte : ℕ) → is_printable byte ≡ true → IsPrintable byte
control byte is = (grind (arith, nat_tests), grind (arith, nat_tests))

all_pass : (text : List ℕ) → All IsPrintable text → list_all is_printable text ≡ true
all_pass text all = list_all-from_AllPass is_printable text (λ k d h. printable (get_or text k d) (all k d h))

all_are : (text : List ℕ) → list_all is_printable text ≡ true → All IsPrintable text
all_are text pass = λ k d h. control (get_or text k d) (AllPass-from_list_all is_printable text pass k d h)

is_sized : ℕ → List ℕ → Bool
is_sized most text = nat_lt 0 (length text) && nat_le (length text) most

sized_passes : (most : ℕ) (text : List ℕ) → HasLength most text → is_sized most text ≡ true
unfolding is_sized
sized_passes most text sized = grind (arith, nat_tests)

sized : (most : ℕ) (text : List ℕ) → is_sized most text ≡ true → HasLength most text
unfolding is_sized
sized most text passes = (grind (arith, nat_tests), grind (arith, nat_tests))

pub name_passes : (most : ℕ) (text : List ℕ) → HasLength most text → IsName text → is_name_to most text ≡ true
unfolding is_sized
name_passes most text sized name =
    and_from (is_sized most text && is_utf8 text) (list_all is_printable text)
    (and_from (is_sized most text) (is_utf8 text) (sized_passes most text sized) (is_utf8-from_IsUtf8 text name.0)) (all_pass text name.1)

is_name : (most : ℕ) (text : List ℕ) → is_name_to most text ≡ true → HasLength most text × IsName text
unfolding is_sized
is_name most text passes =
    let all = and_parts (is_sized most text && is_utf8 text) (list_all is_printable text) passes in
    let front = and_parts (is_sized most text) (is_utf8 text) all.0 in
    (sized most text front.0, (IsUtf8-from_is_utf8 text front.1, all_are text all.1))

pub long_fails : (most : ℕ) (text : List ℕ) → ¬ (HasLength most text) → is_name_to most text ≡ false
long_fails most text not_sized = refuted (is_name_to most text) (λ passes. not_sized (is_name most text passes).0)

pub other_fails : (most : ℕ) (text : List ℕ) → ¬ (IsName text) → is_name_to most text ≡ false
other_fails most text not_name = refuted (is_name_to most text) (λ passes. not_name (is_name most text passes).1)

pub tests_name : (most : ℕ) (text : List ℕ) → IsTrue (is_name_to most text) ↔ (HasLength most text × IsName text)
tests_name most text = (is_name most text, λ named. name_passes most text named.0 named.1)
