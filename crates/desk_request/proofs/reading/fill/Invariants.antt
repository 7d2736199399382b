use Rattle.std.proofs.Common.{◌≡◌, ◌≤◌, ◌+◌, ◌-◌, ◌++◌, ℕ, List, length, take}
use Rattle.room_base.specs.Outside.{Told}
use Rattle.desk_request.specs.Reading.{Took}
use Rattle.desk_request.proofs.reading.fill.Given as goal

-- these bytes were taken to the list, and no take has failed
abbrev pub invariant-loop-at : goal.invariant-loop-at
invariant-loop-at g l = record {
  more : List ℕ;
  place : l.at ≡ l.fn.from + length more;
  within : l.at ≤ length l.into;
  filled : take l.at l.into ≡ take l.fn.from l.initial.into ++ more;
  took : Told (g.S.Source.view l.initial.source).tells
      (Took (g.S.Source.view l.initial.source) (g.S.Source.view l.source) more);
  later : (g.S.Source.view l.initial.source).faults ≤ (g.S.Source.view l.source).faults;
  tells : (g.S.Source.view l.source).tells ≡ (g.S.Source.view l.initial.source).tells;
  alone : g.S.Source.takes_alone l.initial.source l.source;
}

abbrev pub decreases-loop-at : goal.decreases-loop-at
decreases-loop-at g l = length l.into - l.at
