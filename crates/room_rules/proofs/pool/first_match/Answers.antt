use Rattle.std.proofs.Common.{◌≤◌, ◌<◌, length, arith}
use Rattle.room_rules.proofs.pool.first_match.Goals as goal

pub returns : goal.returns
returns c = λ k d low below. c.loop-place.invariant k d low (omega (arith, below))
