use Rattle.room_effects.proofs.Reopening.{crash_reopens, end_reopens}
use Rattle.journal_files.specs.Files.{IsSnapshot}
use Rattle.journal_files.proofs.Once.{never_both}
use Rattle.journal_files.proofs.Snapshots.{have_snapshots}
use Rattle.journal_replay.proofs.laws.files_replay_as_the_catalogue.Goals as goal

pub returns : goal.returns
returns c = record {
  crashed = λ deeds room before image is can written knows replays crashed.
      crash_reopens IsSnapshot deeds room before image is can written (have_snapshots deeds room can) knows replays crashed;
  sound = λ deeds room before image file place is can written knows replays crashed.
      (let some = crash_reopens IsSnapshot deeds room before image is can written (have_snapshots deeds room can) knows replays crashed in
      never_both image some.reopened file place some.reopens);
  ended = λ deeds room before image is can written knows replays opens led.
      end_reopens IsSnapshot deeds room before image is can written (have_snapshots deeds room can) knows replays opens led;
}
