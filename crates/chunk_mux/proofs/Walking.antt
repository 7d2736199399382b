-- A walk over chunks in order.
use Rattle.std.proofs.Common.{◌≡◌, ℕ, ◌+◌, ◌≤◌, ◌<◌, List, [], ◌∷◌, Bool, true, false, cond, refl, ◌∙◌, arith, inl, inr}
use Rattle.std.proofs.lemmas.Bool.{cases_lt}
use Rattle.std.proofs.lemmas.List.Sums.{sum_by-cons}
use borrow.Author.Tests.{ltb-false}
use Rattle.std.proofs.lemmas.Bool.Decides.{nat_tests}
use Rattle.std.specs.Prelude.{count_by, nat_lt}
use Rattle.chunk_mux.specs.Tiles.{tiling_from, has_place}
use Rattle.chunk_mux.specs.declared.tiling.Placed.{Placed}
use Rattle.chunk_mux.specs.declared.tiling.Tiling.{Tiling}
use Rattle.chunk_mux.specs.declared.tiling.Tiling.TheVariants.{Whole, Hole, Overlap}

-- each place from the start up to the end is in one chunk, and no other is in any
pub record Covers (start end : ℕ) (chunks : List Placed) : Type 0 where
  pub grows : start ≤ end
  pub once : (place : ℕ) → start ≤ place → place < end → count_by (has_place place) chunks ≡ 1
  pub before : (place : ℕ) → place < start → count_by (has_place place) chunks ≡ 0
  pub behind : (place : ℕ) → end ≤ place → count_by (has_place place) chunks ≡ 0

pub whole_same : (one other : ℕ) → Whole one ≡ Whole other → one ≡ other
whole_same one other is = cc

-- whether one chunk has a place
pub has : (place : ℕ) (chunk : Placed) → chunk.offset ≤ place → place < chunk.offset + chunk.length → cond {A = ℕ} (has_place place chunk) 1 0 ≡ 1
has place chunk low high = grind (arith, nat_tests)

pub lacks_before : (place : ℕ) (chunk : Placed) → place < chunk.offset → cond {A = ℕ} (has_place place chunk) 1 0 ≡ 0
lacks_before place chunk low = grind (arith, nat_tests)

pub lacks_behind : (place : ℕ) (chunk : Placed) → chunk.offset + chunk.length ≤ place → cond {A = ℕ} (has_place place chunk) 1 0 ≡ 0
lacks_behind place chunk far = grind (arith, nat_tests)

pub count_next : (place : ℕ) (chunk : Placed) (more : List Placed)
    → count_by (has_place place) (chunk ∷ more) ≡ cond (has_place place chunk) 1 0 + count_by (has_place place) more
count_next place chunk more = sum_by-cons (λ (c : Placed). cond (has_place place c) 1 0) chunk more

-- a chunk that begins at the place reached
next_covers : (start end : ℕ) (chunk : Placed) (more : List Placed) → chunk.offset ≡ start → Covers (start + chunk.length) end more
    → Covers start end (chunk ∷ more)
next_covers start end chunk more here rest = record {
  grows = omega (arith, rest.grows);
  once = λ place low high.
      elim (cases_lt place (start + chunk.length)) [
        | inl inside ↦ count_next place chunk more ∙ omega (arith, has place chunk (omega arith) (omega arith), rest.before place inside)
        | inr behind ↦ count_next place chunk more ∙ omega (arith, lacks_behind place chunk (omega arith), rest.once place behind high)
      ];
  before = λ place low. count_next place chunk more ∙ omega (arith, lacks_before place chunk (omega arith), rest.before place (omega arith));
  behind = λ place far. count_next place chunk more ∙ omega (arith, lacks_behind place chunk (omega (arith, rest.grows)), rest.behind place far);
}

-- a walk that finds no fault at a chunk goes on behind it
pub goes_on : (above below : Bool) (place offset end : ℕ) (rest : Tiling)
    → cond above (Hole place) (cond below (Overlap offset) rest) ≡ Whole end → (above ≡ false) × (below ≡ false) × (rest ≡ Whole end)
goes_on true below place offset end rest is = absurd (let no : ⊥ = cc in no)
goes_on false true place offset end rest is = absurd (let no : ⊥ = cc in no)
goes_on false false place offset end rest is = (refl, refl, is)

pub same_place : (place offset : ℕ) → nat_lt place offset ≡ false → nat_lt offset place ≡ false → offset ≡ place
same_place place offset above below = omega (arith, ltb-false place offset above, ltb-false offset place below)

pub walk_covers : (start end : ℕ) (chunks : List Placed) → tiling_from start chunks ≡ Whole end → Covers start end chunks
walk_covers start end [] is =
    let same : start ≡ end = whole_same start end is in
    record { grows = omega arith; once = λ place low high. absurd (omega arith); before = λ place low. refl; behind = λ place far. refl }
walk_covers start end (chunk ∷ more) is =
    let on = goes_on (nat_lt start chunk.offset) (nat_lt chunk.offset start) start chunk.offset end (tiling_from (start + chunk.length) more) is in
    next_covers start end chunk more (same_place start chunk.offset on.0 on.1) (walk_covers (start + chunk.length) end more on.2)
