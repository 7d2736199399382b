-- The save sets of a buffer: numbers that ascend.
use Rattle.std.proofs.Common.{◌≡◌, ℕ, zero, suc, ◌+◌, ◌-◌, ◌*◌, ◌/◌, ◌≤◌, ◌<◌, List, [], ◌∷◌, ◌++◌, length, get_or, take, drop, Bool, true, false, ◌||◌, ◌==◌, refl, sym, ap, subst, ◌∙◌, arith, length-append, inl, inr}
use Rattle.std.proofs.Math.Nat.{mul-suc}
use Rattle.std.proofs.lemmas.Nat.{le-div}
use Rattle.std.proofs.lemmas.Bool.{cases_lt, cases_order, eq-eqb, ne_eqb}
use Rattle.std.proofs.lemmas.List.{take-append-drop}
use Rattle.std.proofs.lemmas.List.Edits.{length-insert, get_or-insert_below, get_or-insert_at, get_or-insert_above}
use Rattle.std.proofs.lemmas.List.Elements.{recursion_from_All}
use Rattle.std.specs.List.{insert, AllByRecursion}
use Rattle.std.specs.Prelude.{◌≢◌, MatchResult, is_ok}
use Rattle.std.specs.declared.result.Result.{Result}
use Rattle.std.specs.declared.result.Result.TheVariants.{Ok, Err}
use Rattle.volume_block.specs.Chunks.{ChunkText, IsChunk, chunks_text, all_chunks, JoinFrom}
use Rattle.volume_block.specs.Valid.{AreChunks}
use Rattle.volume_block.specs.Region.{AreBlocks}
use Rattle.volume_block.proofs.Lengths.{length-chunks_text}
use Rattle.chunk_mux.specs.Packing.{payload_size, chunk_size, packed}
use Rattle.chunk_mux.specs.Ssids.{has_number}
use Rattle.chunk_mux.proofs.Joining.{packed_adds}

-- ---- whether a number is there

or-true : (b : Bool) → (b || true) ≡ true
or-true true = refl
or-true false = refl

pub has_at : (number : ℕ) (xs : List ℕ) (i : ℕ) → i < length xs → get_or xs i 0 ≡ number → has_number number xs ≡ true
has_at number [] i low is = absurd (omega arith)
has_at number (x ∷ xs) zero low is = ap (λ (b : Bool). b || has_number number xs) (eq-eqb x number is)
has_at number (x ∷ xs) (suc i) low is = ap (λ (b : Bool). (x == number) || b) (has_at number xs i (omega arith) is) ∙ or-true (x == number)

pub has_not : (number : ℕ) (xs : List ℕ) → ((k : ℕ) → k < length xs → get_or xs k 0 ≢ number) → has_number number xs ≡ false
has_not number [] other = refl
has_not number (x ∷ xs) other =
    ap (λ (b : Bool). b || has_number number xs) (ne_eqb x number (other 0 (omega arith)))
    ∙ has_not number xs (λ k low. other (suc k) (omega arith))

-- what a search has found
abbrev pub IsSearched : ℕ → List ℕ → Result ℕ ℕ → Type 0
IsSearched number xs found = MatchResult found (λ i. (i < length xs) × (get_or xs i 0 ≡ number))
    (λ i. (i ≤ length xs) × ((k : ℕ) → k < i → get_or xs k 0 < number) × ((k : ℕ) → i ≤ k → k < length xs → number < get_or xs k 0))

pub search_has : (number : ℕ) (xs : List ℕ) (found : Result ℕ ℕ) → IsSearched number xs found → has_number number xs ≡ is_ok found
search_has number xs (Ok i) at = has_at number xs i at.0 at.1
search_has number xs (Err i) apart = has_not number xs (λ k low same. elim (cases_lt k i) [
  | inl before ↦ omega (arith, apart.1 k before, same)
  | inr behind ↦ omega (arith, apart.2 k behind low, same)
])

-- ---- one number more

or-assoc : (one two three : Bool) → ((one || two) || three) ≡ (one || (two || three))
or-assoc true two three = refl
or-assoc false two three = refl

or-turned : (one two : Bool) → (one || two) ≡ (two || one)
or-turned true true = refl
or-turned true false = refl
or-turned false true = refl
or-turned false false = refl

has-append : (number : ℕ) (xs ys : List ℕ) → has_number number (xs ++ ys) ≡ (has_number number xs || has_number number ys)
has-append number [] ys = refl
has-append number (x ∷ xs) ys =
    ap (λ (b : Bool). (x == number) || b) (has-append number xs ys)
    ∙ sym (or-assoc (x == number) (has_number number xs) (has_number number ys))

pub has_inserted : (number : ℕ) (xs : List ℕ) (i x : ℕ) → has_number number (insert xs i x) ≡ (has_number number xs || (x == number))
has_inserted number xs i x =
    let front = has_number number (take i xs) in
    let back = has_number number (drop i xs) in
    has-append number (take i xs) (x ∷ drop i xs)
    ∙ ap (λ (b : Bool). front || b) (or-turned (x == number) back)
    ∙ sym (or-assoc front back (x == number))
    ∙ ap (λ (b : Bool). b || (x == number)) (sym (has-append number (take i xs) (drop i xs)) ∙ ap (has_number number) (take-append-drop i xs))

-- a number that is there
pub has_known : (number x : ℕ) (xs : List ℕ) → has_number x xs ≡ true → has_number number xs ≡ (has_number number xs || (x == number))
has_known number x xs known = elim (cases_order x number) [
  | inl same ↦
      let here : has_number number xs ≡ true = subst (λ (n : ℕ). has_number n xs ≡ true) same known in
      here ∙ ap (λ (b : Bool). b || (x == number)) (sym here)
  | inr other ↦
      let none : (x == number) ≡ false = ne_eqb x number (λ same. elim other [ inl less ↦ omega arith | inr more ↦ omega arith ]) in
      sym (ap (λ (b : Bool). has_number number xs || b) none ∙ or-false (has_number number xs))
]
  where
    or-false : (b : Bool) → (b || false) ≡ b
    or-false true = refl
    or-false false = refl

abbrev pub Ascend : List ℕ → Type 0
Ascend xs = (i j : ℕ) → i < j → j < length xs → get_or xs i 0 < get_or xs j 0

-- in the order that a search asks for
pub ascend_far : (xs : List ℕ) → Ascend xs → (i j : ℕ) → i ≤ j → j < length xs → get_or xs i 0 ≤ get_or xs j 0
ascend_far xs up i j before low = elim (cases_lt i j) [
  | inl less ↦ omega (arith, up i j less low)
  | inr same ↦
      let is : i ≡ j = omega arith in
      let equal : get_or xs i 0 ≡ get_or xs j 0 = ap (λ (n : ℕ). get_or xs n 0) is in omega (arith, equal)
]

record Inserted (xs : List ℕ) (i x k : ℕ) : Type 0 where
  pub below : k < i → get_or (insert xs i x) k 0 ≡ get_or xs k 0
  pub at : k ≡ i → get_or (insert xs i x) k 0 ≡ x
  pub above : i < k → get_or (insert xs i x) k 0 ≡ get_or xs (k - 1) 0

inserted : (xs : List ℕ) (i x k : ℕ) → i ≤ length xs → Inserted xs i x k
inserted xs i x k low = record {
  below = λ less. get_or-insert_below xs i x 0 k less low;
  at = λ same. ap (λ (n : ℕ). get_or (insert xs i x) n 0) same ∙ get_or-insert_at xs i x 0 low;
  above = λ more.
      let one : k ≡ k - 1 + 1 = omega arith in
      ap (λ (n : ℕ). get_or (insert xs i x) n 0) one ∙ get_or-insert_above xs i x 0 (k - 1) (omega arith) low;
}

pub ascend_inserted : (xs : List ℕ) (i x : ℕ) → Ascend xs → i ≤ length xs → ((k : ℕ) → k < i → get_or xs k 0 < x)
    → ((k : ℕ) → i ≤ k → k < length xs → x < get_or xs k 0) → Ascend (insert xs i x)
ascend_inserted xs i x up low before behind a b less far =
    let long : length (insert xs i x) ≡ length xs + 1 = length-insert xs i x low in
    let one = inserted xs i x a low in
    let two = inserted xs i x b low in
    elim (cases_order b i) [
      | inl same ↦ omega (arith, two.at same, one.below (omega (arith, same)), before a (omega (arith, same)))
      | inr (inl under) ↦ omega (arith, two.below under, one.below (omega (arith, under)), up a b less (omega (arith, under)))
      | inr (inr over) ↦ elim (cases_order a i) [
        | inl same ↦ omega (arith, one.at same, two.above over, behind (b - 1) (omega arith) (omega (arith, long)))
        | inr (inl under) ↦ elim (cases_lt a (b - 1)) [
          | inl apart ↦ omega (arith, one.below under, two.above over, up a (b - 1) apart (omega (arith, long)))
          | inr near ↦ absurd (omega (arith, under, over, near, less))
        ]
        | inr (inr above) ↦ omega (arith, one.above above, two.above over, up (a - 1) (b - 1) (omega arith) (omega (arith, long)))
      ]
    ]

-- ---- how many chunks there may be

chunks_long : (chunks : List ChunkText) → AllByRecursion IsChunk chunks → 25 * length chunks ≤ length (chunks_text chunks)
chunks_long [] each = omega arith
chunks_long (chunk ∷ chunks) each =
    omega (arith, length-chunks_text chunk chunks, each.0.some, chunks_long chunks each.1)

-- what a block of so many units has room for
chunks_few : (units : ℕ) (chunks : List ChunkText) → AreChunks units chunks → length chunks ≤ payload_size units / 25
chunks_few units chunks are =
    le-div (length chunks) (payload_size units) 25 (omega arith)
    (omega (arith, chunks_long chunks (recursion_from_All IsChunk chunks are.each), are.fit))

pub few_chunks : (units : ℕ) (blocks : List (List ChunkText)) → AreBlocks units blocks
    → length (all_chunks blocks) ≤ payload_size units / 25 * length blocks
few_chunks units [] are = omega arith
few_chunks units (chunks ∷ blocks) are =
    omega (
      arith,
      length-append chunks (all_chunks blocks),
      chunks_few units chunks are.0,
      few_chunks units blocks are.1,
      mul-suc (payload_size units / 25) (length blocks),
    )

-- a piece that has bytes adds a chunk
pub more_chunks : (size : ℕ) (blocks : List (List ChunkText)) (ssid copy offset : ℕ) (piece : List ℕ) → 1 ≤ chunk_size size → 1 ≤ length piece
    → length (all_chunks blocks) + 1 ≤ length (all_chunks (packed size blocks ssid copy offset piece))
more_chunks size blocks ssid copy offset piece some has =
    let adds = packed_adds size blocks ssid copy offset piece some in
    omega (arith, ap length adds.behind, length-append (all_chunks blocks) adds.added, one adds.added adds.joined)
  where
    one : (added : List ChunkText) → JoinFrom ssid copy offset added piece → 1 ≤ length added
    one [] joined = let none : length piece ≡ 0 = ap length joined in absurd (omega (arith, none, has))
    one (chunk ∷ added) joined = omega arith
