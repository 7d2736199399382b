-- Single fields: what is read of each is what is spelled.
use Rattle.std.proofs.Common.{◌≡◌, ℕ, zero, suc, ◌+◌, ◌≤◌, ◌<◌, ◌^◌, Bool, true, false, cond, eqb, nat_lt, nat_le, List, [], ◌∷◌, ◌++◌, length, take, drop, Option, Some, None, Ok, Err, refl, sym, ap, subst, ◌∙◌, eq-eqb, arith, inl, inr}
use Rattle.std.specs.Prelude.{◌&&◌, ◌||◌, ◌⊎◌}
use Rattle.std.specs.List.{AllByRecursion}
use Rattle.std.proofs.lemmas.Bool.{cases_lt, lt-ltb, le-ltb, ltb-true, leb-true, le-leb, eqb-true}
use Rattle.std.proofs.lemmas.Nat.{be_bytes_2, be_bytes_4, be_bytes_8}
use Rattle.std.proofs.lemmas.List.{length-append, length-take, take-append-drop, take_at, drop_at, get_or-drop}
use Rattle.std.proofs.lemmas.Str.{IsUtf8-nil}
use Rattle.byteorder.specs.Endian.{big_number, big_bytes}
use Rattle.byteorder.specs.Numbers.{big_from-take, big_from-lt, big_number-reads_back, length-bytes_high_first}
use Rattle.room_base.specs.Numbers.{max_moment}
use Rattle.room_base.specs.Text.{HasLength, IsName, IsPathText}
use Rattle.save_stream.specs.Reading.{is_name, is_path, is_below}
use Rattle.save_stream.specs.Spelling.{IsNameTo, IsBelow, short_text, long_text, short_number_text}
use Rattle.save_stream.specs.Standing.{AreBytes}
use Rattle.save_stream.proofs.Again.{is_name-again, is_path-again, is_below-again, both}
use Rattle.save_stream.proofs.Sound.{IsBytes-take, is_name-is, is_path-is, is_below-is, both-true}
use Rattle.catalog_spelling.specs.Reading.{checked}
use Rattle.catalog_spelling.specs.Spelled.{Took, Judged, Reads}
use Rattle.catalog_spelling.specs.Fields.{number_bytes, number_at, byte_text, byte_at, bytes_at, is_within, number_within_at, byte_within_at, number_from_at, number_above_at, given_number_at, number_if_at, moment_at, coded, coded_part, code_at, flags, flag_byte, text_at, name_at, path_at}
use Rattle.catalog_spelling.proofs.Steps.{start, begin, after, then-found, end-found, end-again, checked-reads, reads-as}

AreBytes-drop : (n : ℕ) (bytes : List ℕ) → AreBytes bytes → AreBytes (drop n bytes)
AreBytes-drop n bytes is i = rw get_or-drop (is (n + i))

-- ---- bytes

byte-found : (bytes : List ℕ) → AreBytes bytes → Judged byte_at bytes (byte_at bytes) (λ byte rest. Took bytes (byte_text byte) rest × (byte < 256))
byte-found [] fits = record { before = []; bad = []; parts = refl; size = refl; whole = refl }
byte-found (byte ∷ rest) fits = (record { parts = refl; fits = λ i. fits (suc i) }, fits 0)

pub byte-reads : Reads byte_at byte_text (λ byte. byte < 256)
byte-reads = record { found = byte-found; again = λ byte rest is. refl }

-- so many bytes, of which there are some or which are taken for what they are
pub bytes-empty : (size : ℕ) → 0 < size → bytes_at size [] ≡ Err 0
unfolding bytes_at
bytes-empty size some = let short : nat_lt 0 size ≡ true = lt-ltb 0 size some in rw short refl

bytes-found : (size : ℕ) (bytes : List ℕ) → 0 < size → AreBytes bytes → Judged (bytes_at size) bytes (bytes_at size bytes) (λ text rest. Took bytes text rest × (length text ≡ size))
unfolding bytes_at
bytes-found size bytes some fits =
    elim (cases_lt (length bytes) size) [
      | inl short ↦
          (let test : nat_lt (length bytes) size ≡ true = lt-ltb _ _ short in
          let none : nat_lt 0 size ≡ true = lt-ltb 0 size some in
          rw test (record { before = []; bad = bytes; parts = refl; size = refl; whole = rw none refl }))
      | inr long ↦
          (let test : nat_lt (length bytes) size ≡ false = le-ltb _ _ long in
          rw test (record { parts = sym (take-append-drop size bytes); fits = AreBytes-drop size bytes fits }, omega (arith, length-take size bytes)))
    ]

bytes-again : (text rest : List ℕ) → bytes_at (length text) (text ++ rest) ≡ Ok (text, rest)
unfolding bytes_at
bytes-again text rest =
    let long : nat_lt (length (text ++ rest)) (length text) ≡ false = le-ltb _ _ (omega (arith, length-append text rest)) in
    rw (long, take_at text rest (length text) refl, drop_at text rest (length text) refl) refl

pub bytes-reads : (size : ℕ) → 0 < size → Reads (bytes_at size) (λ text. text) (λ text. length text ≡ size)
bytes-reads size some = record {
  found = λ bytes fits. bytes-found size bytes some fits;
  again = λ text rest is. subst (λ (n : ℕ). bytes_at n (text ++ rest) ≡ Ok (text, rest)) is (bytes-again text rest);
}

-- ---- numbers

-- what a width of numbers has
record IsWide (size : ℕ) : Type 0 where
  back : (bytes : List ℕ) → length bytes ≡ size → AreBytes bytes → big_bytes size (big_number size bytes) ≡ bytes
  some : 0 < size

number-found : (size : ℕ) → IsWide size → (bytes : List ℕ) → AreBytes bytes
    → Judged (number_at size) bytes (number_at size bytes) (λ number rest. Took bytes (number_bytes size number) rest × (number < 256 ^ size))
unfolding number_at number_bytes
number-found size wide bytes fits =
    elim (cases_lt (length bytes) size) [
      | inl short ↦
          (let test : nat_lt (length bytes) size ≡ true = lt-ltb _ _ short in
          let none : nat_lt 0 size ≡ true = lt-ltb 0 size wide.some in
          rw test (record { before = []; bad = bytes; parts = refl; size = refl; whole = rw none refl }))
      | inr long ↦
          (let test : nat_lt (length bytes) size ≡ false = le-ltb _ _ long in
          let text : big_bytes size (big_number size bytes) ≡ take size bytes =
          ap (big_bytes size) (sym (big_from-take 0 size size bytes (omega arith))) ∙ wide.back (take size bytes) (omega (arith, length-take size bytes)) (IsBytes-take size bytes fits) in
          rw test (record { parts = sym (ap (λ (t : List ℕ). t ++ drop size bytes) text ∙ take-append-drop size bytes); fits = AreBytes-drop size bytes fits }, big_from-lt 0 size bytes fits))
    ]

number-again : (size number : ℕ) (rest : List ℕ) → number < 256 ^ size → number_at size (number_bytes size number ++ rest) ≡ Ok (number, rest)
unfolding number_at number_bytes
number-again size number rest fits =
    let text = big_bytes size number in
    let len : length text ≡ size = length-bytes_high_first size number in
    let long : nat_lt (length (text ++ rest)) size ≡ false = le-ltb _ _ (omega (arith, length-append text rest)) in
    rw (long, big_number-reads_back size number rest fits, drop_at text rest size len) refl

wide-reads : (size : ℕ) → IsWide size → Reads (number_at size) (number_bytes size) (λ number. number < 256 ^ size)
wide-reads size wide = record { found = number-found size wide; again = number-again size }

pub u16-reads : Reads (number_at 2) (number_bytes 2) (λ number. number < 2 ^ 16)
u16-reads = wide-reads 2 (record { back = λ bytes len fits. be_bytes_2 bytes _ len fits (omega arith); some = omega arith })

pub u32-reads : Reads (number_at 4) (number_bytes 4) (λ number. number < 2 ^ 32)
u32-reads = wide-reads 4 (record { back = λ bytes len fits. be_bytes_4 bytes _ len fits (omega arith); some = omega arith })

pub u64-reads : Reads (number_at 8) (number_bytes 8) (λ number. number < 2 ^ 64)
u64-reads = wide-reads 8 (record { back = λ bytes len fits. be_bytes_8 bytes _ len fits (omega arith); some = omega arith })

-- ---- what is judged of a number

within-is : (least most number : ℕ) → is_within least most number ≡ true → (least ≤ number) × (number ≤ most)
within-is least most number is =
    let parts = both-true (nat_le least number) (nat_le number most) is in
    (leb-true least number parts.0, leb-true number most parts.1)

within-again : (least most number : ℕ) → (least ≤ number) × (number ≤ most) → is_within least most number ≡ true
within-again least most number is = both _ _ (le-leb least number is.0) (le-leb number most is.1)

pub number-empty : (size : ℕ) → 0 < size → number_at size [] ≡ Err 0
unfolding number_at
number-empty size some = let short : nat_lt 0 size ≡ true = lt-ltb 0 size some in rw short refl

pub within-reads : (size bound least most : ℕ) → Reads (number_at size) (number_bytes size) (λ number. number < bound) → 0 < size → most < bound
    → Reads (number_within_at size least most) (number_bytes size) (λ number. (least ≤ number) × (number ≤ most))
unfolding number_within_at
within-reads size bound least most reads some fits =
    reads-as (checked-reads reads (is_within least most) (number-empty size some)) (λ number. (least ≤ number) × (number ≤ most))
    (λ number is. within-is least most number is.1) (λ number is. (omega (arith, is.1), within-again least most number is))

pub u16-within : (least most : ℕ) → most < 2 ^ 16 → Reads (number_within_at 2 least most) (number_bytes 2) (λ number. (least ≤ number) × (number ≤ most))
u16-within least most fits = within-reads 2 (2 ^ 16) least most u16-reads (omega arith) fits

pub u32-within : (least most : ℕ) → most < 2 ^ 32 → Reads (number_within_at 4 least most) (number_bytes 4) (λ number. (least ≤ number) × (number ≤ most))
u32-within least most fits = within-reads 4 (2 ^ 32) least most u32-reads (omega arith) fits

pub u64-within : (least most : ℕ) → most < 2 ^ 64 → Reads (number_within_at 8 least most) (number_bytes 8) (λ number. (least ≤ number) × (number ≤ most))
u64-within least most fits = within-reads 8 (2 ^ 64) least most u64-reads (omega arith) fits

pub u64-from : (least : ℕ) → Reads (number_from_at 8 least) (number_bytes 8) (λ number. (number < 2 ^ 64) × (least ≤ number))
unfolding number_from_at
u64-from least =
    reads-as (checked-reads u64-reads (λ n. nat_le least n) (number-empty 8 (omega arith))) (λ number. (number < 2 ^ 64) × (least ≤ number))
    (λ number is. (is.0, leb-true least number is.1)) (λ number is. (is.0, le-leb least number is.1))

pub u64-above : (low : ℕ) → Reads (number_above_at 8 low) (number_bytes 8) (λ number. (number < 2 ^ 64) × (low < number))
unfolding number_above_at
u64-above low =
    reads-as (checked-reads u64-reads (λ n. nat_lt low n) (number-empty 8 (omega arith))) (λ number. (number < 2 ^ 64) × (low < number))
    (λ number is. (is.0, ltb-true low number is.1)) (λ number is. (is.0, lt-ltb low number is.1))

pub u64-given : (given : ℕ) → Reads (given_number_at 8 given) (number_bytes 8) (λ number. (number < 2 ^ 64) × (number ≡ given))
unfolding given_number_at
u64-given given =
    reads-as (checked-reads u64-reads (λ n. eqb n given) (number-empty 8 (omega arith))) (λ number. (number < 2 ^ 64) × (number ≡ given))
    (λ number is. (is.0, eqb-true number given is.1)) (λ number is. (is.0, eq-eqb number given is.1))

-- there is one, or it is 0
abbrev pub IsIf : Bool → ℕ → Type 0
IsIf true number = Unit {0}
IsIf false number = number ≡ 0

if-is : (some : Bool) (number : ℕ) → some || eqb number 0 ≡ true → IsIf some number
if-is true number is = tt
if-is false number is = eqb-true number 0 is

if-again : (some : Bool) (number : ℕ) → IsIf some number → some || eqb number 0 ≡ true
if-again true number is = refl
if-again false number is = eq-eqb number 0 is

pub u64-if : (some : Bool) → Reads (number_if_at some) (number_bytes 8) (λ number. (number < 2 ^ 64) × IsIf some number)
unfolding number_if_at
u64-if some =
    reads-as (checked-reads u64-reads (λ n. some || eqb n 0) (number-empty 8 (omega arith))) (λ number. (number < 2 ^ 64) × IsIf some number)
    (λ number is. (is.0, if-is some number is.1)) (λ number is. (is.0, if-again some number is.1))

pub byte-within : (least most : ℕ) → most < 256 → Reads (byte_within_at least most) byte_text (λ byte. (least ≤ byte) × (byte ≤ most))
unfolding byte_within_at
byte-within least most fits =
    reads-as (checked-reads byte-reads (is_within least most) refl) (λ byte. (least ≤ byte) × (byte ≤ most))
    (λ byte is. within-is least most byte is.1) (λ byte is. (omega (arith, is.1), within-again least most byte is))

pub moment-reads : Reads moment_at (number_bytes 8) (λ moment. moment ≤ max_moment)
moment-reads = reads-as (u64-within 0 max_moment (omega arith)) (λ moment. moment ≤ max_moment) (λ moment is. is.1) (λ moment is. (omega arith, is))

-- ---- bytes that stand for something

-- each row of a table says what it is to say
abbrev pub HasRows : {X : Type 0} → (ℕ → X → Type 0) → List (ℕ × X) → Type 0
HasRows P rows = AllByRecursion (λ row. P row.0 row.1) rows

coded-if : {X : Type 0} (P : ℕ → X → Type 0) (key byte : ℕ) (x y : X) (rest : Option X) (test : Bool) → eqb byte key ≡ test → P key x → cond test (Some x) rest ≡ Some y
    → P byte y ⊎ (rest ≡ Some y)
coded-if P key byte x y rest true test is e =
    let one : x ≡ y = cc in
    inl (subst (λ (z : _). P byte z) one (subst (λ (n : ℕ). P n x) (sym (eqb-true byte key test)) is))
coded-if P key byte x y rest false test is e = inr e

pub coded-is : {X : Type 0} (P : ℕ → X → Type 0) (rows : List (ℕ × X)) (byte : ℕ) (x : X) → HasRows P rows → coded rows byte ≡ Some x → P byte x
coded-is P [] byte x each is = absurd cc
coded-is P (row ∷ rows) byte x each is =
    elim (coded-if P row.0 byte row.1 x (coded rows byte) (eqb byte row.0) refl each.0 is) [
      | inl here ↦ here
      | inr there ↦ coded-is P rows byte x each.1 there
    ]

code-part : {X : Type 0} (rows : List (ℕ × X)) (text : X → ℕ) (Is : X → Type 0) (byte : ℕ) (rest : List ℕ) (found : Option X) → coded rows byte ≡ found → HasRows (λ n x. (n ≡ text x) × Is x) rows
    → AreBytes (byte ∷ rest) → Judged (code_at rows) (byte ∷ rest) (coded_part found (length (byte ∷ rest)) rest) (λ x rest'. Took (byte ∷ rest) (byte_text (text x)) rest' × Is x)
unfolding code_at
code-part rows text Is byte rest None found each fits = record { before = []; bad = byte ∷ rest; parts = refl; size = refl; whole = refl }
code-part rows text Is byte rest (Some x) found each fits =
    let is = coded-is (λ n y. (n ≡ text y) × Is y) rows byte x each found in
    (record { parts = ap (λ (n : ℕ). n ∷ rest) is.0; fits = λ i. fits (suc i) }, is.1)

code-found : {X : Type 0} (rows : List (ℕ × X)) (text : X → ℕ) (Is : X → Type 0) → HasRows (λ n x. (n ≡ text x) × Is x) rows
    → (bytes : List ℕ) → AreBytes bytes → Judged (code_at rows) bytes (code_at rows bytes) (λ x rest. Took bytes (byte_text (text x)) rest × Is x)
unfolding code_at
code-found rows text Is each [] fits = record { before = []; bad = []; parts = refl; size = refl; whole = refl }
code-found rows text Is each (byte ∷ rest) fits = code-part rows text Is byte rest (coded rows byte) refl each fits

pub code-reads : {X : Type 0} (rows : List (ℕ × X)) (text : X → ℕ) (Is : X → Type 0) → HasRows (λ n x. (n ≡ text x) × Is x) rows → ((x : X) → Is x → coded rows (text x) ≡ Some x)
    → Reads (code_at rows) (λ x. byte_text (text x)) Is
unfolding code_at
code-reads {X = X} rows text Is each again = record {
  found = code-found rows text Is each;
  again = λ x rest is. ap (λ (found : Option X). coded_part found (length (text x ∷ rest)) rest) (again x is);
}

flag-again : (flag : Bool) → coded flags (flag_byte flag) ≡ Some flag
flag-again false = refl
flag-again true = refl

pub flag-reads : Reads (code_at flags) (λ flag. byte_text (flag_byte flag)) (λ flag. Unit {0})
flag-reads = code-reads flags flag_byte (λ flag. Unit {0}) ((refl, tt), ((refl, tt), tt)) (λ flag is. flag-again flag)

-- ---- texts

none-found : (allows : List ℕ → Bool) (bytes : List ℕ) → allows [] ≡ true → AreBytes bytes
    → Judged (λ bytes. checked allows bytes (bytes_at 0 bytes)) bytes (checked allows bytes (bytes_at 0 bytes)) (λ text rest. Took bytes text rest × ((length text ≡ 0) × (allows text ≡ true)))
unfolding bytes_at
none-found allows bytes none fits =
    let test : nat_lt (length bytes) 0 ≡ false = le-ltb _ _ (omega arith) in
    rw (test, none) (record { parts = refl; fits = fits }, (refl, none))

none-again : (allows : List ℕ → Bool) (text rest : List ℕ) → length text ≡ 0 → allows [] ≡ true → checked allows (text ++ rest) (bytes_at 0 (text ++ rest)) ≡ Ok (text, rest)
unfolding bytes_at
none-again allows [] rest size none =
    let test : nat_lt (length rest) 0 ≡ false = le-ltb _ _ (omega arith) in
    rw (test, none) refl
none-again allows (byte ∷ text) rest size none = absurd (omega (arith, size))

body-reads : (size : ℕ) (allows : List ℕ → Bool) → (0 < size) ⊎ (allows [] ≡ true)
    → Reads (λ bytes. checked allows bytes (bytes_at size bytes)) (λ text. text) (λ text. (length text ≡ size) × (allows text ≡ true))
body-reads zero allows (inl some) = absurd (omega arith)
body-reads zero allows (inr none) = record {
  found = λ bytes fits. none-found allows bytes none fits;
  again = λ text rest is. none-again allows text rest is.0 none;
}
body-reads (suc size) allows some = checked-reads (bytes-reads (suc size) (omega arith)) allows (bytes-empty (suc size) (omega arith))

-- a name's text of these lengths
abbrev pub IsNameWithin : ℕ → ℕ → List ℕ → Type 0
IsNameWithin least most text = ((least ≤ length text) × (length text ≤ most)) × IsName text

no-name : is_name [] ≡ true
no-name = is_name-again [] (IsUtf8-nil, λ k d lt. absurd (omega arith))

pub text-reads : (least most : ℕ) → most < 256 → Reads (text_at least most) short_text (IsNameWithin least most)
unfolding text_at
text-reads least most fits = record {
  found = λ bytes are.
      then-found (byte-within least most fits) _ _ (begin (text_at least most) bytes are)
      (λ size rest size-is stands.
      end-found (body-reads size is_name (inr no-name)) _ stands
      (λ text rest is took. (
        subst (λ (n : ℕ). Took bytes (n ∷ text) rest) (sym is.0) took,
        (subst (λ (n : ℕ). (least ≤ n) × (n ≤ most)) (sym is.0) size-is, is_name-is text is.1),
      )));
  again = λ text rest is.
      (end-again (body-reads (length text) is_name (inr no-name)) text (refl, is_name-again text is.1)
      (after (byte-within least most fits) _ (length text) is.0 (start (text_at least most)))).goes rest;
}

pub name-reads : (most : ℕ) → most < 256 → Reads (name_at most) short_text (IsNameTo most)
name-reads most fits = reads-as (text-reads 1 most fits) (IsNameTo most) (λ text is. ((omega (arith, is.0.0), is.0.1), is.1)) (λ text is. ((omega (arith, is.0.0), is.0.1), is.1))

-- a path above another
abbrev pub IsPathAbove : List ℕ → List ℕ → Type 0
IsPathAbove last path = (HasLength 1024 path × IsPathText path) × IsBelow last path

two-bytes : (number : ℕ) → short_number_text number ≡ number_bytes 2 number
unfolding short_number_text number_bytes
two-bytes number = refl

pub path-reads : (last : List ℕ) → Reads (path_at last) long_text (IsPathAbove last)
unfolding path_at
path-reads last =
    let allows : List ℕ → Bool = λ path. is_path path && is_below last path in
    record {
      found = λ bytes are.
          then-found (u16-within 1 1024 (omega arith)) _ _ (begin (path_at last) bytes are)
          (λ size rest size-is stands.
          end-found (body-reads size allows (inl (omega (arith, size-is.0)))) _ stands
          (λ path rest is took.
          let tests = both-true (is_path path) (is_below last path) is.1 in
          let size : number_bytes 2 size ≡ short_number_text (length path) = ap (number_bytes 2) (sym is.0) ∙ sym (two-bytes (length path)) in (
            subst (λ (n : List ℕ). Took bytes (n ++ path) rest) size took,
            (((omega (arith, is.0, size-is.0), omega (arith, is.0, size-is.1)), is_path-is path tests.0), is_below-is last path tests.1),
          )));
      again = λ path rest is.
          ap (λ (n : List ℕ). path_at last ((n ++ path) ++ rest)) (two-bytes (length path))
          ∙ (end-again (body-reads (length path) allows (inl is.0.0.0)) path
          (refl, both _ _ (is_path-again path is.0.1) (is_below-again last path is.1))
          (after (u16-within 1 1024 (omega arith)) _ (length path) (omega (arith, is.0.0.0), is.0.0.1) (start (path_at last)))).goes rest;
    }
