-- What writing into a list of bytes does that has room.
use Rattle.std.specs.Prelude.{◌≡◌, ℕ, ◌+◌, ◌≤◌, List, ◌++◌, length, vec_len, vec_capacity}
use Rattle.std.specs.Global.{Vec}

-- there is room for a text
abbrev pub HasRoom : Vec ℕ → List ℕ → Type 0
HasRoom into text = vec_len into + length text ≤ vec_capacity into

-- a text was appended, and no memory was taken
pub record Appends (old new : Vec ℕ) (text : List ℕ) : Type 0 where
  pub items : new.items ≡ old.items ++ text
  pub len : vec_len new ≡ vec_len old + length text
  pub capacity : vec_capacity new ≡ vec_capacity old
