-- Words that are numbers.
use Rattle.std.proofs.Common.{◌≡◌, ◌≢◌, ℕ, ◌<◌, ◌^◌, List, Result, Ok, Some, None, sym, arith, ◌∙◌, ap}
use Rattle.std.specs.Fmt.{decimal}
use Rattle.std.specs.Result.{result_ok}
use Rattle.std.specs.Str.Parse.{ParsesUnsigned}
use Rattle.std.proofs.lemmas.Fmt.{parse-decimal, decimal_injective}
use Rattle.room_run.specs.Words.{IsCartWord, IsFileWord}

-- a word that is a number parses as that number
pub parsed : {E : Type 0} (word : List ℕ) (r : Result ℕ E) (number : ℕ) → ParsesUnsigned 64 10 word r → number < 2 ^ 64 → word ≡ decimal number → r ≡ Ok number
parsed word r number parses fits is = parse-decimal 64 number word r fits fits is parses

-- a word that doesn't parse is none
pub no_number : {E : Type 0} (word : List ℕ) (r : Result ℕ E) (number : ℕ) → ParsesUnsigned 64 10 word r → result_ok r ≡ None → number < 2 ^ 64 → word ≢ decimal number
no_number word r number parses none fits = λ is.
    let e = parsed word r number parses fits is in
    let f : Some number ≡ None = sym (ap result_ok e) ∙ none in cc

-- a word that parses as a number is that number or none
pub only_number : {E : Type 0} (word : List ℕ) (r : Result ℕ E) (number other : ℕ) → ParsesUnsigned 64 10 word r
    → result_ok r ≡ Some number → other < 2 ^ 64 → word ≡ decimal other → number ≡ other
only_number word r number other parses is fits named =
    let e = parsed word r other parses fits named in
    let f : Some number ≡ Some other = sym is ∙ ap result_ok e in cc

-- a word that is a number is the number of no other cartridge or file
pub other_cart : (word : List ℕ) (number cart : ℕ) → word ≡ decimal number → number < 2 ^ 64 → IsCartWord word cart → number ≡ cart
other_cart word number cart is fits named = decimal_injective number cart fits (omega (arith, named.0.1)) (sym is ∙ named.1)

pub other_file : (word : List ℕ) (number file : ℕ) → word ≡ decimal number → number < 2 ^ 64 → IsFileWord word file → number ≡ file
other_file word number file is fits named = decimal_injective number file fits named.1 (sym is ∙ named.2)
