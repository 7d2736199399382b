-- The save sets that have chunks in a buffer.
use Rattle.std.specs.Prelude.{ℕ, ◌≤◌, ◌<◌, Bool, false, ◌==◌, ◌||◌, List}
use Rattle.std.specs.Prelude.{[], ◌∷◌, length, get_or}
use Rattle.std.specs.Vec.{vec_capacity}
use Rattle.chunk_mux.specs.declared.ssids.SsidSet.TheInside.{Inside}

-- Save sets, each once, and how many there may be.
pub record SsidsView : Type 0 where
  pub most : ℕ
  pub numbers : List ℕ

-- whether the number is one of these
abbrev pub has_number : ℕ → List ℕ → Bool
has_number number [] = false
has_number number (one ∷ more) = (one == number) || has_number number more

abbrev pub view_of : Inside → SsidsView
view_of inside = record { most = inside.most; numbers = inside.numbers.items }

-- the numbers ascend, and there is room for as many as there may be
pub record IsSet (inside : Inside) : Type 0 where
  pub ascend : (i j : ℕ) → i < j → j < length inside.numbers.items
      → get_or inside.numbers.items i 0 < get_or inside.numbers.items j 0
  pub room : inside.most ≤ vec_capacity inside.numbers
