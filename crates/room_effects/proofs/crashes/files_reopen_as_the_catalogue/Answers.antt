use Rattle.room_effects.specs.Reopening.{IsSpelled}
use Rattle.room_effects.proofs.Reopening.{crash_reopens, end_reopens}
use Rattle.room_effects.proofs.crashes.files_reopen_as_the_catalogue.Goals as goal

pub returns : goal.returns
returns c = record {
  crashed = λ spelling. crash_reopens (IsSpelled spelling);
  ended = λ spelling. end_reopens (IsSpelled spelling);
}
