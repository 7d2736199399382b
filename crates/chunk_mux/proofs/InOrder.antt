-- Chunks that are sorted, and of which each stands in a place of its own.
use Rattle.std.proofs.Common.{◌≡◌, ℕ, ◌<◌, List, length, get_or, false, refl, sym, ap, subst, ◌∙◌, arith, Ordering, inl, inr, ◌⊎◌}
use Rattle.std.proofs.lemmas.Bool.{cases_order}
use Rattle.std.proofs.lemmas.Cmp.{nat_cmp_total, on_total, then_total, ranked}
use Rattle.std.proofs.lemmas.List.Edits.{Swapped, swapped_from_swap}
use Rattle.std.proofs.lemmas.List.Sorted.{IsPermutation-keeps, IsPermutation-swap, length_permutation, ranks_by, sorted_far}
use Rattle.std.specs.Cmp.{IsTotalOrder}
use Rattle.std.specs.List.{swap}
use Rattle.std.specs.List.Sorted.{IsSorted, IsPermutation}
use Rattle.std.specs.Ordering.{nat_cmp, is_lt, ordering_then, ordering_reverse}
use Rattle.std.specs.Prelude.{◌≢◌}
use Rattle.std.specs.declared.cmp.Ordering.TheVariants.{Less, Equal, Greater}
use Rattle.chunk_mux.specs.Tiles.{IsSamePlace, StandApart, AreInOrder, place_order}
use Rattle.chunk_mux.specs.declared.tiling.Placed.{Placed}

-- ---- each stays in a place of its own

-- where the element that stands at an index after an exchange stood before it
data Stood (a b : ℕ) : ℕ → ℕ → Type 0 where
  first : Stood a b a b
  second : Stood a b b a
  other : (i : ℕ) → i ≢ a → i ≢ b → Stood a b i i

stood_apart : (a b i j k m : ℕ) → Stood a b i k → Stood a b j m → i ≢ j → k ≢ m
stood_apart a b _ _ _ _ first first differ = λ is. differ refl
stood_apart a b _ _ _ _ first second differ = λ is. differ (sym is)
stood_apart a b _ _ _ _ first (other j no-a no-b) differ = λ is. no-b (sym is)
stood_apart a b _ _ _ _ second first differ = λ is. differ (sym is)
stood_apart a b _ _ _ _ second second differ = λ is. differ refl
stood_apart a b _ _ _ _ second (other j no-a no-b) differ = λ is. no-a (sym is)
stood_apart a b _ _ _ _ (other i no-a no-b) first differ = λ is. no-b is
stood_apart a b _ _ _ _ (other i no-a no-b) second differ = λ is. no-a is
stood_apart a b _ _ _ _ (other i no-a no-b) (other j none-a none-b) differ = λ is. differ is

record Source (old new : List Placed) (a b i : ℕ) (none : Placed) : Type 0 where
  pub index : ℕ
  pub stood : Stood a b i index
  pub low : index < length old
  pub is : get_or new i none ≡ get_or old index none

same_or_other : (i a : ℕ) → (i ≡ a) ⊎ (i ≢ a)
same_or_other i a = elim (cases_order i a) [
  | inl same ↦ inl same
  | inr (inl less) ↦ inr (λ is. omega arith)
  | inr (inr more) ↦ inr (λ is. omega arith)
]

source : (old : List Placed) (a b i : ℕ) (none : Placed) → a < length old → b < length old → i < length old → Source old (swap old a b) a b i none
source old a b i none low high here =
    let moved : Swapped (λ n. get_or old n none) (λ n. get_or (swap old a b) n none) a b = swapped_from_swap old (swap old a b) a b none low high refl in
    elim (same_or_other i a) [
      | inl at-a ↦ subst (λ (n : ℕ). Source old (swap old a b) a b n none) (sym at-a) (record { index = b; stood = first; low = high; is = moved.0 })
      | inr no-a ↦
          elim (same_or_other i b) [
            | inl at-b ↦ subst (λ (n : ℕ). Source old (swap old a b) a b n none) (sym at-b) (record { index = a; stood = second; low = low; is = moved.1 })
            | inr no-b ↦ record { index = i; stood = other i no-a no-b; low = here; is = moved.2 i no-a no-b }
          ]
    ]

apart_swapped : (old : List Placed) (a b : ℕ) → a < length old → b < length old → StandApart old → StandApart (swap old a b)
apart_swapped old a b low high apart i j none below under differ same =
    let long : length (swap old a b) ≡ length old = length_permutation old (swap old a b) (IsPermutation-swap old (swap old a b) a b low high refl) in
    let one = source old a b i none low high (omega (arith, long, below)) in
    let two = source old a b j none low high (omega (arith, long, under)) in
    apart one.index two.index none one.low two.low (stood_apart a b i j one.index two.index one.stood two.stood differ)
    (subst (λ (x : Placed). IsSamePlace x (get_or old two.index none)) one.is (subst (IsSamePlace (get_or (swap old a b) i none)) two.is same))

pub apart_sorted : (old new : List Placed) → IsPermutation old new → StandApart old → StandApart new
apart_sorted old new same apart = IsPermutation-keeps old StandApart apart (λ l i j low high. apart_swapped l i j low high) new same

-- ---- the order

order_total : IsTotalOrder place_order
order_total =
    then_total (then_total (then_total (on_total (λ (chunk : Placed). chunk.offset) nat_cmp_total)
    (on_total (λ (chunk : Placed). chunk.volid.0) nat_cmp_total)) (on_total (λ (chunk : Placed). chunk.block) nat_cmp_total))
    (on_total (λ (chunk : Placed). chunk.start) nat_cmp_total)

not_after : (o : Ordering) → is_lt (ordering_reverse o) ≡ false → (o ≡ Less) ⊎ (o ≡ Equal)
not_after Less is = inl refl
not_after Equal is = inr refl
not_after Greater is = absurd (let no : ⊥ = cc in no)

both_equal : (one two : Ordering) → ordering_then one two ≡ Equal → (one ≡ Equal) × (two ≡ Equal)
both_equal Less two is = absurd (let no : ⊥ = cc in no)
both_equal Equal two is = (refl, is)
both_equal Greater two is = absurd (let no : ⊥ = cc in no)

same_number : (one two : ℕ) → nat_cmp one two ≡ Equal → one ≡ two
same_number one two is = ranked one two Equal (sym is)

same_place : (one two : Placed) → place_order one two ≡ Equal → IsSamePlace one two
same_place one two is =
    let starts = both_equal _ _ is in
    let blocks = both_equal _ _ starts.0 in
    let volids = both_equal _ _ blocks.0 in
    (same_number one.volid.0 two.volid.0 volids.1, same_number one.block two.block blocks.1, same_number one.start two.start starts.1)

pub in_order : (chunks : List Placed) → IsSorted place_order chunks → StandApart chunks → AreInOrder chunks
in_order chunks sorted apart i j none before low =
    let one = get_or chunks i none in
    let two = get_or chunks j none in
    let behind : is_lt (place_order two one) ≡ false =
    sorted_far (λ (x y : Placed). is_lt (place_order x y)) (ranks_by order_total (λ (x : Placed). x)) chunks sorted i j none (omega arith) low in
    let turned : is_lt (ordering_reverse (place_order one two)) ≡ false = ap is_lt (sym (order_total.antisymm two one)) ∙ behind in
    elim (not_after (place_order one two) turned) [
      | inl less ↦ less
      | inr equal ↦ absurd (apart i j none (omega arith) low (λ is. omega arith) (same_place one two equal))
    ]
