use Rattle.room_turns.proofs.Founding.{answer_enters}
use Rattle.room_turns.proofs.calls.two_changes_at_most.Goals as goal

pub returns : goal.returns
returns c = answer_enters
