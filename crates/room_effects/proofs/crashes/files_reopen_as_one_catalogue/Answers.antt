use Rattle.std.proofs.Common.{◌∙◌, sym}
use Rattle.room_effects.specs.Reopening.{IsSpelled}
use Rattle.room_effects.proofs.ReopeningDisks.{reopens_once}
use Rattle.room_effects.proofs.crashes.files_reopen_as_one_catalogue.Goals as goal

pub returns : goal.returns
returns c = λ spelling single files one other reopens also.
    reopens_once (IsSpelled spelling) (λ bytes first second is is_too. single first second (sym is ∙ is_too)) files one other reopens also
