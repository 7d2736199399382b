-- A file's bytes in memory, with the room that they lie in.
use Rattle.std.specs.Prelude.{ℕ, List, []}

pub record Held : Type 0 where
  pub bytes : List ℕ
  pub room : ℕ

-- no bytes and no room
abbrev pub blank : Held
blank = record { bytes = []; room = 0 }
