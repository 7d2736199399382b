-- How many bytes are taken of an input.
use Rattle.std.specs.Prelude.{◌≡◌, ℕ, ◌+◌, ◌^◌, List, length, take}
use Rattle.room_base.specs.Outside.{SourceView, Told}
use Rattle.desk_request.specs.Reading.{Took}

-- the most bytes that are taken of an input
abbrev pub input_limit : ℕ
input_limit = 2 ^ 40

-- a source of which so many bytes may be taken
abbrev pub limited : SourceView → ℕ → SourceView
limited source allowed = record source { left = take allowed source.left }

-- some bytes were taken, and so many fewer may be
pub record TakesAllowed (old new : SourceView) (before after : ℕ) : Type 0 where
  pub more : List ℕ
  pub took : Took old new more
  pub allowed : length more + after ≡ before

pub record TakesOfAllowed (old new : SourceView) (before after : ℕ) : Type 0 where
  pub tells : new.tells ≡ old.tells
  pub told : Told old.tells (TakesAllowed old new before after)
