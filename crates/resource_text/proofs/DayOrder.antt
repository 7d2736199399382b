-- Days ascend as their texts do.
use Rattle.std.proofs.Common.{◌≡◌, ◌⊎◌, ℕ, zero, suc, ◌+◌, ◌*◌, ◌-◌, ◌<◌, List, [], ◌∷◌, length, take, drop, min, Some, pos, refl, sym, ap, subst, ◌∙◌, inl, inr, arith}
use Rattle.std.proofs.Math.ListN.{drop_of_length-le}
use Rattle.std.proofs.lemmas.List.{drop-drop, length-drop, length-take}
use Rattle.std.proofs.lemmas.Option.{same_Some}
use Rattle.std.specs.List.{AllByRecursion}
use Rattle.std.specs.Prelude.{slice_get}
use Rattle.std.specs.Cmp.Lexicographic.{slice_cmp}
use Rattle.std.specs.Ordering.{nat_cmp, ordering_then}
use Rattle.std.specs.declared.cmp.Ordering.{Ordering}
use Rattle.std.specs.declared.cmp.Ordering.TheVariants.{Less, Equal, Greater}
use Rattle.jiff_core.proofs.SignedLemmas.{signed_arith}
use Rattle.jiff_core.proofs.DateLemmas.{IsEarlier, epoch_day-lt}
use Rattle.room_base.proofs.OrderedNumbers.{equal_numbers, lesser_number}
use Rattle.resource_text.specs.Days.{IsDayText, IsDecimal, IsDigit, digits_from}

-- the first bytes decide, or the others do
first_less : (x y : ℕ) (rest : Ordering) → ordering_then (nat_cmp x y) rest ≡ Less → (x < y) ⊎ ((x ≡ y) × (rest ≡ Less))
first_less x y rest less = by (nat_cmp x y) refl less
  where
    by : (order : Ordering) → nat_cmp x y ≡ order → ordering_then order rest ≡ Less → (x < y) ⊎ ((x ≡ y) × (rest ≡ Less))
    by Less is made = inl (lesser_number x y is)
    by Equal is made = inr (equal_numbers x y is, made)
    by Greater is made = absurd (let no : ◌≡◌ {A = Ordering} Greater Less = made in cc)

-- ---- digits

-- behind a lesser number
behind_lesser : (a b : ℕ) (xs ys : List ℕ) → a < b → length xs ≡ length ys → AllByRecursion IsDigit xs → AllByRecursion IsDigit ys → digits_from a xs < digits_from b ys
behind_lesser a b [] [] below same one two = below
behind_lesser a b [] (y ∷ ys) below same one two = absurd (omega arith)
behind_lesser a b (x ∷ xs) [] below same one two = absurd (omega arith)
behind_lesser a b (x ∷ xs) (y ∷ ys) below same one two =
    behind_lesser (a * 10 + (x - 48)) (b * 10 + (y - 48)) xs ys (let digit = one.0.1 in let from = one.0.0 in omega arith) (omega arith) one.1 two.1

lesser_digits : (a : ℕ) (xs ys : List ℕ) → length xs ≡ length ys → AllByRecursion IsDigit xs → AllByRecursion IsDigit ys → slice_cmp nat_cmp xs ys ≡ Less → digits_from a xs < digits_from a ys
lesser_digits a [] [] same one two less = absurd (let no : ◌≡◌ {A = Ordering} Equal Less = less in cc)
lesser_digits a [] (y ∷ ys) same one two less = absurd (omega arith)
lesser_digits a (x ∷ xs) [] same one two less = absurd (omega arith)
lesser_digits a (x ∷ xs) (y ∷ ys) same one two less = by (first_less x y (slice_cmp nat_cmp xs ys) less) (λ rest. lesser_digits (a * 10 + (x - 48)) xs ys (omega arith) one.1 two.1 rest)
  where
    by : (x < y) ⊎ ((x ≡ y) × (slice_cmp nat_cmp xs ys ≡ Less)) → (slice_cmp nat_cmp xs ys ≡ Less → digits_from (a * 10 + (x - 48)) xs < digits_from (a * 10 + (x - 48)) ys)
        → digits_from (a * 10 + (x - 48)) xs < digits_from (a * 10 + (y - 48)) ys
    by (inl below) further = behind_lesser (a * 10 + (x - 48)) (a * 10 + (y - 48)) xs ys (let from = one.0.0 in omega arith) (omega arith) one.1 two.1
    by (inr (is, rest)) further =
        let G : ℕ → Type 0 = λ z. digits_from (a * 10 + (x - 48)) xs < digits_from (a * 10 + (z - 48)) ys in
        subst G is (further rest)

lesser_number_of : (xs ys : List ℕ) (n k : ℕ) → length xs ≡ length ys → IsDecimal xs n → IsDecimal ys k → slice_cmp nat_cmp xs ys ≡ Less → n < k
lesser_number_of xs ys n k same one two less =
    let below = lesser_digits 0 xs ys same one.0 two.0 less in let is = one.1 in let are = two.1 in omega arith

same_number_of : (xs ys : List ℕ) (n k : ℕ) → IsDecimal xs n → IsDecimal ys k → xs ≡ ys → n ≡ k
same_number_of xs ys n k one two same = one.1 ∙ ap (digits_from 0) same ∙ sym two.1

-- ---- parts of a text

-- the bytes before a place decide, or those from it on do
parted : (n : ℕ) (xs ys : List ℕ) → length xs ≡ length ys → slice_cmp nat_cmp xs ys ≡ Less
    → (slice_cmp nat_cmp (take n xs) (take n ys) ≡ Less) ⊎ ((take n xs ≡ take n ys) × (slice_cmp nat_cmp (drop n xs) (drop n ys) ≡ Less))
parted zero xs ys same less = inr (refl, less)
parted (suc n) [] [] same less = inl less
parted (suc n) [] (y ∷ ys) same less = absurd (omega arith)
parted (suc n) (x ∷ xs) [] same less = absurd (omega arith)
parted (suc n) (x ∷ xs) (y ∷ ys) same less = by (nat_cmp x y) refl less (λ made. parted n xs ys (omega arith) made)
  where
    behind : nat_cmp x y ≡ Equal
        → (slice_cmp nat_cmp (take n xs) (take n ys) ≡ Less) ⊎ ((take n xs ≡ take n ys) × (slice_cmp nat_cmp (drop n xs) (drop n ys) ≡ Less))
        → (ordering_then (nat_cmp x y) (slice_cmp nat_cmp (take n xs) (take n ys)) ≡ Less)
        ⊎ ((x ∷ take n xs ≡ y ∷ take n ys) × (slice_cmp nat_cmp (drop n xs) (drop n ys) ≡ Less))
    behind is (inl before) = inl (rw is before)
    behind is (inr (equal, rest)) = inr (ap (λ z. z ∷ take n xs) (equal_numbers x y is) ∙ ap (λ (zs : List ℕ). y ∷ zs) equal, rest)

    by : (order : Ordering) → nat_cmp x y ≡ order → ordering_then order (slice_cmp nat_cmp xs ys) ≡ Less
        → (slice_cmp nat_cmp xs ys ≡ Less → (slice_cmp nat_cmp (take n xs) (take n ys) ≡ Less) ⊎ ((take n xs ≡ take n ys) × (slice_cmp nat_cmp (drop n xs) (drop n ys) ≡ Less)))
        → (ordering_then (nat_cmp x y) (slice_cmp nat_cmp (take n xs) (take n ys)) ≡ Less)
        ⊎ ((x ∷ take n xs ≡ y ∷ take n ys) × (slice_cmp nat_cmp (drop n xs) (drop n ys) ≡ Less))
    by Less is made further = inl (rw is refl)
    by Equal is made further = behind is (further made)
    by Greater is made further = absurd (let no : ◌≡◌ {A = Ordering} Greater Less = made in cc)

byte_at : (n : ℕ) (xs : List ℕ) (byte : ℕ) → slice_get xs n ≡ Some byte → (drop n xs ≡ byte ∷ drop (suc n) xs)
byte_at n [] byte is = absurd cc
byte_at zero (x ∷ xs) byte is = ap (λ z. z ∷ xs) (same_Some x byte is)
byte_at (suc n) (x ∷ xs) byte is = byte_at n xs byte is

-- one byte is the same in both
same_byte : (n byte : ℕ) (xs ys : List ℕ) → slice_get xs n ≡ Some byte → slice_get ys n ≡ Some byte → slice_cmp nat_cmp (drop n xs) (drop n ys) ≡ Less
    → slice_cmp nat_cmp (drop (suc n) xs) (drop (suc n) ys) ≡ Less
same_byte n byte xs ys one two less = by (first_less byte byte (slice_cmp nat_cmp (drop (suc n) xs) (drop (suc n) ys)) made)
  where
    made : ordering_then (nat_cmp byte byte) (slice_cmp nat_cmp (drop (suc n) xs) (drop (suc n) ys)) ≡ Less
    made =
        let F : List ℕ → Type 0 = λ zs. slice_cmp nat_cmp zs (byte ∷ drop (suc n) ys) ≡ Less in
        let H : List ℕ → Type 0 = λ zs. slice_cmp nat_cmp (drop n xs) zs ≡ Less in
        subst F (byte_at n xs byte one) (subst H (byte_at n ys byte two) less)

    by : (byte < byte) ⊎ ((byte ≡ byte) × (slice_cmp nat_cmp (drop (suc n) xs) (drop (suc n) ys) ≡ Less)) → slice_cmp nat_cmp (drop (suc n) xs) (drop (suc n) ys) ≡ Less
    by (inl below) = absurd (omega arith)
    by (inr (is, rest)) = rest

-- ---- days

module _ (one two : ℕ) (text other : List ℕ) (a : IsDayText text one) (b : IsDayText other two) where
  later : IsEarlier a.day_is.date b.day_is.date → one < two
  later earlier = let below = epoch_day-lt a.day_is.date b.day_is.date earlier in let is = a.day_is.day_is in let are = b.day_is.day_is in omega (arith, signed_arith)

  long_from : (m : ℕ) → length (drop m text) ≡ length (drop m other)
  long_from m = length-drop m text ∙ ap (λ k. k - m) (a.length ∙ sym b.length) ∙ sym (length-drop m other)

  same_parts : (n m : ℕ) → length (take n (drop m text)) ≡ length (take n (drop m other))
  same_parts n m = length-take n (drop m text) ∙ ap (min n) (long_from m) ∙ sym (length-take n (drop m other))

  in_year : a.year < b.year → one < two
  in_year below = later (inl (let is = a.day_is.date_is.0 in let are = b.day_is.date_is.0 in omega (arith, signed_arith)))

  in_month : a.year ≡ b.year → a.month < b.month → one < two
  in_month years below = later (inr (a.day_is.date_is.0 ∙ ap pos years ∙ sym b.day_is.date_is.0, inl (let is = a.day_is.date_is.1 in let are = b.day_is.date_is.1 in omega (arith, signed_arith))))

  in_number : a.year ≡ b.year → a.month ≡ b.month → a.number < b.number → one < two
  in_number years months below = later (inr (
    a.day_is.date_is.0 ∙ ap pos years ∙ sym b.day_is.date_is.0,
    inr (
      let is = a.day_is.date_is.1 in let are = b.day_is.date_is.1 in omega (arith, signed_arith),
      let is = a.day_is.date_is.2 in let are = b.day_is.date_is.2 in omega (arith, signed_arith),
    ),
  ))

  abbrev Order : ℕ → Type 0
  Order m = slice_cmp nat_cmp (drop m text) (drop m other) ≡ Less

  by_number : a.year ≡ b.year → a.month ≡ b.month → (slice_cmp nat_cmp (take 2 (drop 8 text)) (take 2 (drop 8 other)) ≡ Less) ⊎ ((take 2 (drop 8 text) ≡ take 2 (drop 8 other)) × (slice_cmp nat_cmp (drop 2 (drop 8 text)) (drop 2 (drop 8 other)) ≡ Less)) → one < two
  by_number years months (inl less) = in_number years months (lesser_number_of _ _ a.number b.number (same_parts 2 8) a.number_is b.number_is less)
  by_number years months (inr (same, less)) =
      let none : drop 2 (drop 8 text) ≡ [] = drop-drop 2 8 text ∙ drop_of_length-le text {i = 10} (let long = a.length in omega arith) in
      let nothing : drop 2 (drop 8 other) ≡ [] = drop-drop 2 8 other ∙ drop_of_length-le other {i = 10} (let long = b.length in omega arith) in
      let F : List ℕ → Type 0 = λ zs. slice_cmp nat_cmp zs [] ≡ Less in
      let H : List ℕ → Type 0 = λ zs. slice_cmp nat_cmp (drop 2 (drop 8 text)) zs ≡ Less in
      let no : ◌≡◌ {A = Ordering} Equal Less = subst F none (subst H nothing less) in
      absurd cc

  by_month : a.year ≡ b.year → (slice_cmp nat_cmp (take 2 (drop 5 text)) (take 2 (drop 5 other)) ≡ Less) ⊎ ((take 2 (drop 5 text) ≡ take 2 (drop 5 other)) × (slice_cmp nat_cmp (drop 2 (drop 5 text)) (drop 2 (drop 5 other)) ≡ Less)) → one < two
  by_month years (inl less) = in_month years (lesser_number_of _ _ a.month b.month (same_parts 2 5) a.month_is b.month_is less)
  by_month years (inr (same, less)) =
      let F : List ℕ → Type 0 = λ zs. slice_cmp nat_cmp zs (drop 7 other) ≡ Less in
      let H : List ℕ → Type 0 = λ zs. slice_cmp nat_cmp (drop 2 (drop 5 text)) zs ≡ Less in
      let rest : Order 7 = subst F (drop-drop 2 5 text) (subst H (drop-drop 2 5 other) less) in
      by_number years (same_number_of _ _ a.month b.month a.month_is b.month_is same)
      (parted 2 (drop 8 text) (drop 8 other) (long_from 8) (same_byte 7 0x2D text other a.second_hyphen b.second_hyphen rest))

  by_year : (slice_cmp nat_cmp (take 4 text) (take 4 other) ≡ Less) ⊎ ((take 4 text ≡ take 4 other) × Order 4) → one < two
  by_year (inl less) = in_year (lesser_number_of _ _ a.year b.year (same_parts 4 0) a.year_is b.year_is less)
  by_year (inr (same, less)) =
      by_month (same_number_of _ _ a.year b.year a.year_is b.year_is same)
      (parted 2 (drop 5 text) (drop 5 other) (long_from 5) (same_byte 4 0x2D text other a.first_hyphen b.first_hyphen less))

  pub days_ascend : slice_cmp nat_cmp text other ≡ Less → one < two
  days_ascend less = by_year (parted 4 text other (a.length ∙ sym b.length) less)
