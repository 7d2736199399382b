use Rattle.std.proofs.Common.{take}
use Rattle.cat_journal.specs.Entries.{payloads_of}
use Rattle.room_effects.specs.Replaying.{Replays}
use Rattle.journal_replay.proofs.entries.replay_entries.Given as goal

abbrev pub invariant-loop-entry : goal.invariant-loop-entry
invariant-loop-entry l = Replays l.form (payloads_of (take l.entry-index l.entries)) l.fn.catalogue.lists l.catalogue.lists
