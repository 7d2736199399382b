use Rattle.std.proofs.Common.{◌≡◌, ◌≤◌, ◌<◌, ℕ, false}
use Rattle.desk_request.specs.HeadEnds.{is_head_end}
use Rattle.desk_request.proofs.head_end.may_end.Given as goal

-- no head ends among the bytes so far
abbrev pub invariant-loop-at : goal.invariant-loop-at
invariant-loop-at l = (k : ℕ) → k < l.at → l.from ≤ k → is_head_end l.bytes k ≡ false
