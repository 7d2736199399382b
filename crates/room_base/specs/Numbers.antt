-- Limits that several crates cite.
use Rattle.std.specs.Prelude.{ℕ}

-- the last second of the year 9998, the greatest moment that is written
abbrev pub max_moment : ℕ
max_moment = 253370764799
