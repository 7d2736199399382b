use Rattle.std.proofs.Common.{arith}
use Rattle.room_effects.specs.Effects.{ends_with}
use Rattle.room_effects.specs.View.{held_in}
use Rattle.room_effects.proofs.StayingSessions.{fewer_kept}
use Rattle.room_state.proofs.laws.prepared_commits_are_any.Goals as goal

pub returns : goal.returns
returns c held ready drive asking =
    omega (arith, ready, fewer_kept (ends_with (held_in held.room drive) asking) held.room.sessions)
