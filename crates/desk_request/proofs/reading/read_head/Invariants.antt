use Rattle.std.proofs.Common.{◌≡◌, ◌≤◌, ◌-◌, ◌++◌, ◌⊎◌, ℕ, List, [], take, vec_len}
use Rattle.room_base.specs.Outside.{Told}
use Rattle.desk_request.specs.Framing.{max_head}
use Rattle.desk_request.specs.Heads.{HasNoHead}
use Rattle.desk_request.specs.Reading.{Took}
use Rattle.desk_request.proofs.reading.read_head.Given as goal

-- these bytes were taken to the buffer, no take has failed, and what was searched has no head: nothing
-- was taken where the first bytes have one
abbrev pub invariant-pieces : goal.invariant-pieces
invariant-pieces g l = record {
  more : List ℕ;
  added : l.buffer.items ≡ l.initial.buffer.items ++ more;
  took : Told (g.S.Source.view l.initial.source).tells
      (Took (g.S.Source.view l.initial.source) (g.S.Source.view l.source) more);
  none : HasNoHead (take l.searched l.buffer.items);
  still : HasNoHead l.initial.buffer.items ⊎ (more ≡ []);
  later : (g.S.Source.view l.initial.source).faults ≤ (g.S.Source.view l.source).faults;
  tells : (g.S.Source.view l.source).tells ≡ (g.S.Source.view l.initial.source).tells;
  alone : g.S.Source.takes_alone l.initial.source l.source;
}

abbrev pub decreases-pieces : goal.decreases-pieces
decreases-pieces g l = max_head - vec_len l.buffer
