-- What a walk has found where it ends at a hole or at an overlap, of chunks that are sorted.
use Rattle.std.proofs.Common.{◌≡◌, ℕ, suc, ◌+◌, ◌≤◌, ◌<◌, List, [], ◌∷◌, get_or, Bool, true, false, cond, All, refl, subst, ◌∙◌, arith, Ordering, inl, inr, ◌⊎◌}
use Rattle.std.proofs.lemmas.Bool.{cases_lt}
use Rattle.std.proofs.lemmas.List.Elements.{All-head, All-tail}
use Rattle.std.proofs.lemmas.Map.Keys.{ge_from_not_lt}
use borrow.Author.Tests.{ltb-true}
use Rattle.std.specs.List.Sorted.{IsSorted}
use Rattle.std.specs.Ordering.{nat_cmp, is_lt, ordering_then}
use Rattle.std.specs.declared.cmp.Ordering.TheVariants.{Less, Equal, Greater}
use Rattle.std.specs.Prelude.{count_by, nat_lt}
use Rattle.chunk_mux.specs.Tiles.{IsInStream, place_order, tiling_from, has_place}
use Rattle.chunk_mux.specs.declared.tiling.Placed.{Placed}
use Rattle.chunk_mux.specs.declared.tiling.Tiling.{Tiling}
use Rattle.chunk_mux.specs.declared.tiling.Tiling.TheVariants.{Hole, Overlap}
use Rattle.chunk_mux.proofs.Walking.{has, lacks_before, lacks_behind, count_next, same_place}

-- ---- offsets of sorted chunks

-- no offset is below this one, nor below the one before it
abbrev pub Rises : ℕ → List Placed → Type 0
Rises low [] = Unit {0}
Rises low (chunk ∷ more) = (low ≤ chunk.offset) × Rises chunk.offset more

then_lt : (one other : Ordering) → is_lt (ordering_then one other) ≡ false → is_lt one ≡ false
then_lt Less other is = is
then_lt Equal other is = refl
then_lt Greater other is = refl

offsets_rise : (one other : Placed) → is_lt (place_order other one) ≡ false → one.offset ≤ other.offset
offsets_rise one other is =
    let first : is_lt (nat_cmp other.offset one.offset) ≡ false = then_lt _ _ (then_lt _ _ (then_lt _ _ is)) in
    ge_from_not_lt other.offset one.offset first

rises : (low : ℕ) (chunk : Placed) (more : List Placed) → low ≤ chunk.offset → IsSorted place_order (chunk ∷ more) → Rises low (chunk ∷ more)
rises low chunk [] first sorted = (first, tt)
rises low chunk (next ∷ more) first sorted = (
  first,
  rises chunk.offset next more (offsets_rise chunk next (sorted 0 chunk (omega arith) (omega arith)))
      (λ k d from below.
      let P : ℕ → Type 0 = λ n. is_lt (place_order (get_or (chunk ∷ next ∷ more) n d) (get_or (next ∷ more) k d)) ≡ false in
      subst P (let one : suc k + 1 ≡ suc (k + 1) = omega arith in one) (sorted (suc k) d (omega arith) (omega arith))),
)

pub rise : (chunks : List Placed) → IsSorted place_order chunks → Rises 0 chunks
rise [] sorted = tt
rise (chunk ∷ more) sorted = rises 0 chunk more (omega arith) sorted

-- chunks from an offset on have no place below it
none_below : (low place : ℕ) (chunks : List Placed) → Rises low chunks → place < low → count_by (has_place place) chunks ≡ 0
none_below low place [] rising below = refl
none_below low place (chunk ∷ more) rising below =
    count_next place chunk more
    ∙ omega (arith, lacks_before place chunk (omega (arith, rising.0)), none_below chunk.offset place more rising.1 (omega (arith, rising.0)))

-- ---- a hole

pub record HasHole (start at : ℕ) (chunks : List Placed) : Type 0 where
  pub grows : start ≤ at
  pub once : (place : ℕ) → start ≤ place → place < at → count_by (has_place place) chunks ≡ 1
  pub before : (place : ℕ) → place < start → count_by (has_place place) chunks ≡ 0
  pub missing : count_by (has_place at) chunks ≡ 0

-- a walk that ends at a hole ends here, or goes on behind the chunk
goes_to_hole : (above below : Bool) (place offset at : ℕ) (rest : Tiling)
    → cond above (Hole place) (cond below (Overlap offset) rest) ≡ Hole at
    → ((above ≡ true) × (place ≡ at)) ⊎ ((above ≡ false) × (below ≡ false) × (rest ≡ Hole at))
goes_to_hole true below place offset at rest is = inl (refl, (let same : place ≡ at = cc in same))
goes_to_hole false true place offset at rest is = absurd (let no : ⊥ = cc in no)
goes_to_hole false false place offset at rest is = inr (refl, refl, is)

pub walk_to_hole : (start low at : ℕ) (chunks : List Placed) → Rises low chunks → tiling_from start chunks ≡ Hole at → HasHole start at chunks
walk_to_hole start low at [] rising is = absurd (let no : ⊥ = cc in no)
walk_to_hole start low at (chunk ∷ more) rising is =
    elim (goes_to_hole (nat_lt start chunk.offset) (nat_lt chunk.offset start) start chunk.offset at (tiling_from (start + chunk.length) more) is) [
      | inl here ↦
          let gap : start < chunk.offset = ltb-true start chunk.offset here.0 in
          let same : start ≡ at = here.1 in
          let all : Rises chunk.offset (chunk ∷ more) = (omega arith, rising.1) in
          record {
            grows = omega arith;
            once = λ place from below. absurd (omega arith);
            before = λ place below. none_below chunk.offset place (chunk ∷ more) all (omega arith);
            missing = none_below chunk.offset at (chunk ∷ more) all (omega arith);
          }
      | inr on ↦
          let here : chunk.offset ≡ start = same_place start chunk.offset on.0 on.1 in
          let rest = walk_to_hole (start + chunk.length) chunk.offset at more rising.1 on.2 in
          record {
            grows = omega (arith, rest.grows);
            once = λ place from below.
                elim (cases_lt place (start + chunk.length)) [
                  | inl inside ↦ count_next place chunk more ∙ omega (arith, has place chunk (omega arith) (omega arith), rest.before place inside)
                  | inr behind ↦ count_next place chunk more ∙ omega (arith, lacks_behind place chunk (omega arith), rest.once place behind below)
                ];
            before = λ place below. count_next place chunk more ∙ omega (arith, lacks_before place chunk (omega arith), rest.before place (omega arith));
            missing = count_next at chunk more ∙ omega (arith, lacks_behind at chunk (omega (arith, rest.grows)), rest.missing);
          }
    ]

-- ---- an overlap

pub record HasOverlap (start low at : ℕ) (chunks : List Placed) : Type 0 where
  pub grows : low ≤ at
  pub once : (place : ℕ) → start ≤ place → place < at → count_by (has_place place) chunks ≡ 1
  pub before : (place : ℕ) → place < start → place < at → count_by (has_place place) chunks ≡ 0
  pub again : at < start → 1 ≤ count_by (has_place at) chunks
  pub twice : start ≤ at → 2 ≤ count_by (has_place at) chunks

goes_to_overlap : (above below : Bool) (place offset at : ℕ) (rest : Tiling)
    → cond above (Hole place) (cond below (Overlap offset) rest) ≡ Overlap at
    → ((below ≡ true) × (offset ≡ at)) ⊎ ((above ≡ false) × (below ≡ false) × (rest ≡ Overlap at))
goes_to_overlap true below place offset at rest is = absurd (let no : ⊥ = cc in no)
goes_to_overlap false true place offset at rest is = inl (refl, (let same : offset ≡ at = cc in same))
goes_to_overlap false false place offset at rest is = inr (refl, refl, is)

pub walk_to_overlap : (start low at : ℕ) (chunks : List Placed) → Rises low chunks → All IsInStream chunks
    → tiling_from start chunks ≡ Overlap at → HasOverlap start low at chunks
walk_to_overlap start low at [] rising each is = absurd (let no : ⊥ = cc in no)
walk_to_overlap start low at (chunk ∷ more) rising each is =
    let some : 1 ≤ chunk.length = (All-head IsInStream chunk more each).0 in
    elim (goes_to_overlap (nat_lt start chunk.offset) (nat_lt chunk.offset start) start chunk.offset at (tiling_from (start + chunk.length) more) is) [
      | inl here ↦
          let back : chunk.offset < start = ltb-true chunk.offset start here.0 in
          let same : chunk.offset ≡ at = here.1 in
          let all : Rises chunk.offset (chunk ∷ more) = (omega arith, rising.1) in
          record {
            grows = omega (arith, rising.0);
            once = λ place from below. absurd (omega arith);
            before = λ place low' below. none_below chunk.offset place (chunk ∷ more) all (omega arith);
            again = λ _. omega (arith, count_next at chunk more, has at chunk (omega arith) (omega arith));
            twice = λ from. absurd (omega arith);
          }
      | inr on ↦
          let here : chunk.offset ≡ start = same_place start chunk.offset on.0 on.1 in
          let rest = walk_to_overlap (start + chunk.length) chunk.offset at more rising.1 (All-tail IsInStream chunk more each) on.2 in
          record {
            grows = omega (arith, rest.grows, rising.0);
            once = λ place from below.
                elim (cases_lt place (start + chunk.length)) [
                  | inl inside ↦ count_next place chunk more ∙ omega (arith, has place chunk (omega arith) (omega arith), rest.before place inside below)
                  | inr behind ↦ count_next place chunk more ∙ omega (arith, lacks_behind place chunk (omega arith), rest.once place behind below)
                ];
            before = λ place low' below.
                count_next place chunk more ∙ omega (arith, lacks_before place chunk (omega arith), rest.before place (omega arith) below);
            again = λ below. absurd (omega (arith, rest.grows));
            twice = λ from.
                elim (cases_lt at (start + chunk.length)) [
                  | inl inside ↦ omega (arith, count_next at chunk more, has at chunk (omega arith) (omega arith), rest.again inside)
                  | inr behind ↦ omega (arith, count_next at chunk more, rest.twice behind)
                ];
          }
    ]
